-- Rows and matrices by value, read under the numbers 1 to 12; and the matrix of the member's own record.
use Prim.Native.Nat.{ℕ, ◌+◌, ◌-◌, ◌≤◌, ◌<◌, min}
use mathlib.Core.Bool.{◌||◌}
use mathlib.Core.Path.{◌≡◌, sym, ap, ◌∙◌}
use mathlib.Core.List.{List}
use native.Mathlib.Omega.{arith}
use lib.Dec.{eqb, leb}
use lib.ListN.{length, get_or, set}
use borrow.Author.Tests.{eqb-true, eqb-false}
use Rattle.lists.specs.Functions.{put, pasted, within, Within}
use Rattle.lists.specs.Parts.{words}
use Rattle.lists.proofs.Functions.{on, put_at, put_off, pasted_in, within_same}
use Rattle.lists.proofs.Parts.{seen, seen_set}
use Rattle.model.specs.Rows.{Matrix, zero_row, zero_matrix, larger, comparable}
use Rattle.model.specs.Records.{matrix_within}
use Rattle.model.specs.Member.{joined, entry22, row26, row27}
use Rattle.model.proofs.Joined.{joined_slot, joined_other}
use Rattle.rows.specs.declared.Row.{Row}
use Rattle.rows.specs.Meaning.{row_in, matrix_in, no_row}
use Rattle.rows.proofs.Laws.{count_at, row_at}

pub row_of : (m : List Row) (j : ℕ) → 1 ≤ j → j ≤ 12 → matrix_in m j ≡ row_in (get_or m (j - 1) no_row)
row_of m j p q = ap (matrix_in m) (let e : j ≡ j - 1 + 1 = omega arith in e) ∙ row_at m (j - 1) (omega arith)

pub count_of : (r : Row) (k : ℕ) → 1 ≤ k → k ≤ 12 → row_in r k ≡ words r.counts (k - 1)
count_of r k p q = ap (row_in r) (let e : k ≡ k - 1 + 1 = omega arith in e) ∙ count_at r (k - 1) (omega arith)

-- One place of a check: what is compared there, by the arrays, is what the definition compares.

pub entry_22 : (known newest : List Row) (i r k : ℕ) → Within 12 r → k < 12 →
    let a = get_or known (r - 1) no_row in
    let b = get_or newest (r - 1) no_row in
    (eqb (k + 1) i || leb (words a.counts k) (words b.counts k)) ≡ entry22 i r (matrix_in known) (matrix_in newest) (k + 1)
entry_22 known newest i r k w h =
    rw (
      row_of known r w.least w.most,
      row_of newest r w.least w.most,
      count_at (get_or known (r - 1) no_row) k h,
      count_at (get_or newest (r - 1) no_row) k h,
    )

pub row_26 : (known newest : List Row) (n r j : ℕ) → n ≤ 12 → j < 12 →
    (eqb (j + 1) r || comparable (min n 12) (row_in (get_or known j no_row)) (row_in (get_or newest j no_row)))
    ≡ row26 n r (matrix_in known) (matrix_in newest) (j + 1)
row_26 known newest n r j h k = let e : min n 12 ≡ n = omega arith in rw (row_at known j k, row_at newest j k, e)

pub row_27 : (accepted : Row) (newest : List Row) (i r j : ℕ) → Within 12 i → j < 12 →
    let row = get_or newest j no_row in
    (eqb (j + 1) r || leb (words row.counts (i - 1)) (words accepted.counts j)) ≡ row27 i r (row_in accepted) (matrix_in newest) (j + 1)
row_27 accepted newest i r j w h =
    rw (row_at newest j h, count_of (get_or newest j no_row) i w.least w.most, count_at accepted j h)

-- n rows taken one by one, then the slot's row stored
pub joined_rows : (m : List Row) (row : Row) (n i r count : ℕ) (known newest : Matrix) → n ≤ 12 → 1 ≤ r → r ≤ n → length m ≡ 12
    → seen row_in no_row m ≡ pasted 0 n (λ j. larger n (known (j + 1)) (newest (j + 1))) zero_matrix → row_in row ≡ put (newest r) i count
    → matrix_within n (matrix_in (set m (r - 1) row)) ≡ matrix_within n (joined n i r count known newest)
joined_rows m row n i r count known newest small least most long e f =
    within_same n zero_row (λ j. within n 0 (matrix_in (set m (r - 1) row) j)) (λ j. within n 0 (joined n i r count known newest j))
    (λ j p q. ap (within n 0) (row_of (set m (r - 1) row) j p (omega arith)
    ∙ ap (λ s. s (j - 1)) (seen_set row_in no_row m (r - 1) row (omega arith))
    ∙ at j p q))
  where
    rows : ℕ → ℕ → ℕ
    rows = seen row_in no_row m

    at : (j : ℕ) → 1 ≤ j → j ≤ n → put rows (r - 1) (row_in row) (j - 1) ≡ joined n i r count known newest j
    at j p q = on (eqb j r)
        (λ s. let d : j ≡ r = eqb-true j r s in rw d
        (put_at rows (r - 1) (row_in row) ∙ f ∙ sym (joined_slot n i r count known newest)))
        (λ s. let d : j ≡ r → ⊥ = eqb-false j r s in
        put_off rows (r - 1) (row_in row) (j - 1) (λ t. d (omega arith))
        ∙ ap (λ g. g (j - 1)) e
        ∙ pasted_in 0 n (λ j. larger n (known (j + 1)) (newest (j + 1))) zero_matrix (j - 1) (omega arith) (omega arith)
        ∙ ap (λ k. larger n (known k) (newest k)) (let t : j - 1 - 0 + 1 ≡ j = omega arith in t)
        ∙ sym (joined_other n i r count known newest j s))
