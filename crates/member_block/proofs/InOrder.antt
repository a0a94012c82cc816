-- The chain of a reply's checks in two parts, as the code has it: the number, and the pairs of the checks made.
use Prim.Native.Nat.{ℕ, ◌+◌}
use mathlib.Core.Path.{◌≡◌, refl, sym, ap, ap₂, ◌∙◌}
use mathlib.Core.Bool.{Bool, true, false, cond, not}
use mathlib.Core.List.{List}
use native.Mathlib.Omega.{arith}
use lib.Dec.{eqb}
use borrow.Author.Tests.{eq-eqb, ne_eqb}
use Rattle.lists.specs.Functions.{from}
use Rattle.model.specs.Rows.{Matrix}
use Rattle.model.specs.Records.{Rec}
use Rattle.model.specs.Member.{Member, check21, check22, check23, check24, check25, check26, check27, halt_number}
use Rattle.model.specs.Pairs.{pairs22, pairs23, pairs25, pairs26, pairs27, if_made, halt_pairs}
use Rattle.model.proofs.PairClaims.{sums}
use Rattle.model.specs.RecordWords.{matrix_of, row_of}
use Rattle.model.specs.Table.{accepted_at, known_at, member_of, slot_at}
use Rattle.rows.specs.Meaning.{matrix_in, row_in}
use Rattle.rows.specs.declared.Row.{Row}
use Rattle.records.specs.Meaning.{record_in}
use Rattle.records.specs.declared.Record.{Record}

-- three checks in order, and the number where all pass
abbrev three : ℕ → ℕ → ℕ → Bool → Bool → Bool → ℕ → ℕ
three j k l a b c rest = cond (not a) j (cond (not b) k (cond (not c) l rest))

-- the pairs of 22 and 23, and of 25 to 27, by the halt number
abbrev pub slot_sum : ℕ → ℕ → ℕ
slot_sum p22 halt = if_made halt 22 p22 + if_made halt 23 pairs23

abbrev pub matrix_sum : ℕ → ℕ → ℕ → ℕ → ℕ
matrix_sum p25 p26 p27 halt = if_made halt 25 p25 + if_made halt 26 p26 + if_made halt 27 p27

-- A check of the first three failed: the rest is not looked at.

stopped : (a b c : Bool) (rest : ℕ) → (three 22 23 24 a b c 0 ≡ 0 → ⊥) → three 22 23 24 a b c rest ≡ three 22 23 24 a b c 0
stopped false b c rest h = refl
stopped true false c rest h = refl
stopped true true false rest h = refl
stopped true true true rest h = absurd (h refl)

stopped_pairs : (a b c : Bool) (p22 p25 p26 p27 : ℕ) → let s = three 22 23 24 a b c 0 in (s ≡ 0 → ⊥)
    → sums p22 p25 p26 p27 s ≡ slot_sum p22 s
unfolding if_made
stopped_pairs false b c p22 p25 p26 p27 h = omega arith
stopped_pairs true false c p22 p25 p26 p27 h = omega arith
stopped_pairs true true false p22 p25 p26 p27 h = omega arith
stopped_pairs true true true p22 p25 p26 p27 h = absurd (h refl)

-- The first three passed: the number and the further pairs are the rest's.

went_on : (a b c : Bool) (rest : ℕ) → three 22 23 24 a b c 0 ≡ 0 → three 22 23 24 a b c rest ≡ rest
went_on false b c rest h = absurd (omega arith)
went_on true false c rest h = absurd (omega arith)
went_on true true false rest h = absurd (omega arith)
went_on true true true rest h = refl

went_on_pairs : (a b c : Bool) (p22 p25 p26 p27 : ℕ) → let t = three 25 26 27 a b c 0 in
    sums p22 p25 p26 p27 t ≡ slot_sum p22 0 + matrix_sum p25 p26 p27 t
unfolding if_made
went_on_pairs false b c p22 p25 p26 p27 = omega arith
went_on_pairs true false c p22 p25 p26 p27 = omega arith
went_on_pairs true true false p22 p25 p26 p27 = omega arith
went_on_pairs true true true p22 p25 p26 p27 = omega arith

-- A reply whose seals did not hold: no count is compared.
pub unsealed : (n i : ℕ) (m : Member) (newest stored : Rec) (seals : ℕ) → (seals ≡ 3 → ⊥)
    → (halt_number n i m newest stored seals ≡ 21) × (halt_pairs n i m newest stored seals ≡ 0)
unfolding halt_number check21 halt_pairs if_made
unsealed n i m newest stored seals h = (rw (ne_eqb seals 3 h), rw (ne_eqb seals 3 h))

-- A reply whose seals held, by the block's words w and by what the code holds.
module _ (n i : ℕ) (w : ℕ → ℕ) (known : List Row) (accepted : Row) (newest stored : Record) where
  abbrev latest : Matrix
  latest = matrix_in newest.matrix

  abbrev kept : Matrix
  kept = matrix_in stored.matrix

  abbrev pass22 : Bool
  pass22 = check22 n i (w slot_at) (matrix_in known) latest

  abbrev pass23 : Bool
  pass23 = check23 i (w slot_at) (row_in accepted) latest

  abbrev pass24 : Bool
  pass24 = eqb stored.member (w slot_at)

  abbrev pass25 : Bool
  pass25 = check25 n (w slot_at) kept latest

  abbrev pass26 : Bool
  pass26 = check26 n (w slot_at) (matrix_in known) latest

  abbrev pass27 : Bool
  pass27 = check27 n i (w slot_at) (row_in accepted) latest

  abbrev pub look22 : ℕ
  look22 = pairs22 n i (w slot_at) (matrix_in known) latest

  abbrev pub look25 : ℕ
  look25 = pairs25 n kept latest

  abbrev pub look26 : ℕ
  look26 = pairs26 n (w slot_at) (matrix_in known) latest

  abbrev pub look27 : ℕ
  look27 = pairs27 n i (w slot_at) (row_in accepted) latest

  -- the numbers of the two parts
  abbrev pub slot_number : ℕ
  slot_number = three 22 23 24 pass22 pass23 pass24 0

  abbrev pub matrix_number : ℕ
  matrix_number = three 25 26 27 pass25 pass26 pass27 0

  module _ (p : matrix_in known ≡ matrix_of n (from w (known_at n))) (q : row_in accepted ≡ row_of n (from w (accepted_at n)))
      {seals : ℕ} (held : seals ≡ 3) where
    abbrev number : ℕ
    number = halt_number n i (member_of n w) (record_in newest) (record_in stored) seals

    abbrev pairs : ℕ
    pairs = halt_pairs n i (member_of n w) (record_in newest) (record_in stored) seals

    number_by_parts : number ≡ three 22 23 24 pass22 pass23 pass24 matrix_number
    unfolding halt_number member_of record_in check21 check24
    number_by_parts = rw (eq-eqb seals 3 held, p, q)

    pairs_by_parts : {halt : ℕ} → number ≡ halt → pairs ≡ sums look22 look25 look26 look27 halt
    unfolding halt_pairs member_of record_in
    pairs_by_parts e = rw (e, p, q)

    -- the first part, which found h after j pairs, says it
    pub slot_stops : {h j : ℕ} → h ≡ slot_number → j ≡ slot_sum look22 h → (h ≡ 0 → ⊥) → (h ≡ number) × (j ≡ pairs)
    slot_stops e f some =
        let z : slot_number ≡ 0 → ⊥ = λ h. some (e ∙ h) in
        let k = number_by_parts ∙ stopped pass22 pass23 pass24 matrix_number z in (
          e ∙ sym k,
          f
              ∙ ap (slot_sum look22) e
              ∙ sym (pairs_by_parts k ∙ stopped_pairs pass22 pass23 pass24 look22 look25 look26 look27 z),
        )

    -- the second part, which found k after l more, does
    pub slot_passes : {h j k l : ℕ} → h ≡ slot_number → j ≡ slot_sum look22 h → h ≡ 0 → k ≡ matrix_number
        → l ≡ matrix_sum look25 look26 look27 k → (k ≡ number) × (j + l ≡ pairs)
    slot_passes e f none g m =
        let s = number_by_parts ∙ went_on pass22 pass23 pass24 matrix_number (sym e ∙ none) in (
          g ∙ sym s,
          ap₂ (λ x y. x + y) (f ∙ ap (slot_sum look22) none) (m ∙ ap (matrix_sum look25 look26 look27) g)
              ∙ sym (pairs_by_parts s ∙ went_on_pairs pass25 pass26 pass27 look22 look25 look26 look27),
        )
