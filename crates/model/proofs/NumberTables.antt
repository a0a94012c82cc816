-- Tables of numbers: rows of a number and its grounds. Where the grounds of each row give its number, those of some row hold, and the
-- numbers differ, a number is the answer exactly on its grounds.
use Prim.Native.Nat.{ℕ, ◌<◌}
use mathlib.Core.Path.{◌≡◌, refl, sym, ◌∙◌}
use mathlib.Core.List.{List, [], ◌∷◌}
use mathlib.Core.Logic.{◌↔◌, ◌⊎◌, inl, inr, ⊎_elim}
use native.Mathlib.Omega.{arith}
use Rattle.lists.proofs.Functions.{◌and◌}

abbrev pub Rows : Type 1
Rows = List (ℕ × Type 0)

-- the grounds of some row hold
unfoldable pub Some : Rows → Type 0
Some [] = ⊥
Some (row ∷ rows) = row.1 ⊎ Some rows

-- the grounds of each give its number
unfoldable pub Give : ℕ → Rows → Type 0
Give answer [] = Unit {0}
Give answer (row ∷ rows) = (row.1 → answer ≡ row.0) × Give answer rows

-- the numbers differ
unfoldable pub Off : ℕ → Rows → Type 0
Off number [] = Unit {0}
Off number (row ∷ rows) = (number ≡ row.0 → ⊥) × Off number rows

unfoldable pub Distinct : Rows → Type 0
Distinct [] = Unit {0}
Distinct (row ∷ rows) = Off row.0 rows × Distinct rows

-- each number is the answer exactly on its grounds
unfoldable pub Exactly : ℕ → Rows → Type 0
Exactly answer [] = Unit {0}
Exactly answer (row ∷ rows) = ((answer ≡ row.0) ↔ row.1) × Exactly answer rows

-- where the answer is none of the rows' numbers
none_of : (answer number : ℕ) (rows : Rows) → answer ≡ number → Off number rows → Give answer rows → Exactly answer rows
unfolding Off Give Exactly
none_of answer number [] e off give = tt
none_of answer number (row ∷ rows) e off give =
    ((λ d. absurd (off.0 (sym e ∙ d)), give.0), none_of answer number rows e off.1 give.1)

-- and where it is one of them
one_of : (answer number : ℕ) (rows : Rows) → Off number rows → Give answer rows → Some rows → answer ≡ number → ⊥
unfolding Off Give Some
one_of answer number [] off give some e = some
one_of answer number (row ∷ rows) off give some e = ⊎_elim
    (λ ground. off.0 (sym e ∙ give.0 ground))
    (λ rest. one_of answer number rows off.1 give.1 rest e)
    some

pub exactly : (answer : ℕ) (rows : Rows) → Distinct rows → Give answer rows → Some rows → Exactly answer rows
unfolding Distinct Give Some Exactly
exactly answer [] distinct give some = tt
exactly answer (row ∷ rows) distinct give some = ⊎_elim
    (λ ground. ((λ e. ground, give.0), none_of answer row.0 rows (give.0 ground) distinct.0 give.1))
    (λ rest. (
      (λ e. absurd (one_of answer row.0 rows distinct.0 give.1 rest e), give.0),
      exactly answer rows distinct.1 give.1 rest,
    ))
    some

-- an answer that some row gives has whatever holds of every row's number
unfoldable pub All : (ℕ → Type 0) → Rows → Type 0
All Q [] = Unit {0}
All Q (row ∷ rows) = Q row.0 × All Q rows

pub listed : (Q : ℕ → Type 0) (answer : ℕ) (rows : Rows) → All Q rows → Give answer rows → Some rows → Q answer
unfolding All Give Some
listed Q answer [] all give some = absurd some
listed Q answer (row ∷ rows) all give some =
    ⊎_elim (λ ground. rw (give.0 ground) all.0) (listed Q answer rows all.1 give.1) some

-- a call with two numbers beside 0: all that is claimed of it
module _ (answer j k : ℕ) (A B C : Type 0) where
  abbrev three : Rows
  three = (j, A) ∷ (k, B) ∷ (0, C) ∷ []

  pub three_rows : (0 < j) × (j < k) → Give answer three → Some three
      → ((answer ≡ j) ↔ A) × ((answer ≡ k) ↔ B) × ((answer ≡ 0) ↔ C) × ((answer ≡ 0) ⊎ (answer ≡ j) ⊎ (answer ≡ k))
  unfolding Distinct Off Exactly All
  three_rows rising give some =
      let e = exactly answer three (omega arith) give some in (
        e.0,
        e.1.0,
        e.1.1.0,
        listed (λ x. (x ≡ 0) ⊎ (x ≡ j) ⊎ (x ≡ k)) answer three (inr (inl refl) and inr (inr refl) and inl refl and tt) give some,
      )
