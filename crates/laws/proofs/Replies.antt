-- A reply's records beyond what a board of n has are never looked at: neither by the checks nor in the matrix that is built.
use Prim.Native.Nat.{ℕ, ◌+◌, ◌≤◌}
use mathlib.Core.Path.{◌≡◌, refl, sym, ap, ap₂, ◌∙◌, fun_ext}
use mathlib.Core.Bool.{false, ◌||◌}
use lib.Dec.{eqb, leb}
use borrow.Author.Tests.{eqb-true}
use Rattle.lists.specs.Functions.{put, inside, within}
use Rattle.lists.proofs.Functions.{on, each_same, inside_in, inside_low, inside_high, within_at, within_off}
use Rattle.lists.proofs.Looked.{looked_same}
use Rattle.model.proofs.Joined.{joined_slot, joined_other}
use Rattle.model.specs.Rows.{Row, Matrix, zero_row, below, matrix_below, comparable, larger}
use Rattle.model.specs.Records.{Rec, matrix_within, record_within}
use Rattle.model.specs.RecordWords.{matrix_of, value_of}
use Rattle.model.specs.Member.{Member, entry22, row26, row27, check22, check23, check25, check26, check24, check27, halt_number, joined}
use Rattle.model.specs.Pairs.{otherwise, row25, row_pairs25, pairs22, pairs25, pairs26, pairs27, halt_pairs}
use Rattle.laws.proofs.Records.{matrix_of-same, matrix_of-words, matrix_word_of, value_of_same, value_of_next, value_of_at}

-- What was read from words is all there.

pub matrix_all : (n : ℕ) (w : ℕ → ℕ) → matrix_within n (matrix_of n w) ≡ matrix_of n w
matrix_all n w = sym (matrix_of-words n (matrix_of n w)) ∙ matrix_of-same n _ w (matrix_word_of n w)

pub value_all : (w : ℕ → ℕ) → within 8 0 (value_of w) ≡ value_of w
value_all w = sym (value_of_next (value_of w)) ∙ value_of_same (λ i. value_of w (i + 1)) w (value_of_at w)

-- Rows and matrices within n, compared over 1 to n.

pub matrix_within-row : (n : ℕ) (m : Matrix) (j : ℕ) → 1 ≤ j → j ≤ n → matrix_within n m j ≡ within n 0 (m j)
matrix_within-row n m j p q = within_at n zero_row (λ j. within n 0 (m j)) j p q

pub matrix_within-at : (n : ℕ) (m : Matrix) (j k : ℕ) → 1 ≤ j → j ≤ n → 1 ≤ k → k ≤ n → matrix_within n m j k ≡ m j k
matrix_within-at n m j k p q r s = ap (λ a. a k) (matrix_within-row n m j p q) ∙ within_at n 0 (m j) k r s

pub below_same : (n : ℕ) (a b c d : Row) → ((k : ℕ) → 1 ≤ k → k ≤ n → a k ≡ c k) → ((k : ℕ) → 1 ≤ k → k ≤ n → b k ≡ d k) → below n a b
    ≡ below n c d
unfolding below
below_same n a b c d e f = each_same n (λ k. leb (a k) (b k)) (λ k. leb (c k) (d k)) (λ k p q. rw (e k p q, f k p q))

-- Each check's test at a place, and so the check and the pairs that it looks at.

module _ (n i r : ℕ) (low : 1 ≤ i) (high : i ≤ n) (least : 1 ≤ r) (most : r ≤ n) where
  module _ (known newest : Matrix) where
    sent : Matrix
    sent = matrix_within n newest

    entry22-within : (k : ℕ) → 1 ≤ k → k ≤ n → entry22 i r known sent k ≡ entry22 i r known newest k
    unfolding sent
    entry22-within k p q = ap (λ x. eqb k i || leb (known r k) x) (matrix_within-at n newest r k least most p q)

    pub check22-within : check22 n i r known (matrix_within n newest) ≡ check22 n i r known newest
    unfolding check22 sent
    check22-within = each_same n (entry22 i r known sent) (entry22 i r known newest) entry22-within

    pub pairs22-within : pairs22 n i r known (matrix_within n newest) ≡ pairs22 n i r known newest
    unfolding pairs22 sent
    pairs22-within = looked_same n (entry22 i r known sent) (entry22 i r known newest) (otherwise i 1) entry22-within

    row26-within : (j : ℕ) → 1 ≤ j → j ≤ n → row26 n r known sent j ≡ row26 n r known newest j
    unfolding sent comparable
    row26-within j p q = rw (
      below_same n (known j) (matrix_within n newest j) (known j) (newest j) (λ k s t. refl)
          (λ k s t. matrix_within-at n newest j k p q s t),
      below_same n (matrix_within n newest j) (known j) (newest j) (known j) (λ k s t. matrix_within-at n newest j k p q s t)
          (λ k s t. refl),
    )

    pub check26-within : check26 n r known (matrix_within n newest) ≡ check26 n r known newest
    unfolding check26 sent
    check26-within = each_same n (row26 n r known sent) (row26 n r known newest) row26-within

    pub pairs26-within : pairs26 n r known (matrix_within n newest) ≡ pairs26 n r known newest
    unfolding pairs26 sent
    pairs26-within = looked_same n (row26 n r known sent) (row26 n r known newest) (otherwise r n) row26-within

    -- the stored matrix stands for the known one
    row25-within : (j : ℕ) → 1 ≤ j → j ≤ n → row25 n (matrix_within n known) sent j ≡ row25 n known newest j
    unfolding sent
    row25-within j p q = below_same n (matrix_within n known j) (matrix_within n newest j) (known j) (newest j)
        (λ k s t. matrix_within-at n known j k p q s t) (λ k s t. matrix_within-at n newest j k p q s t)

    matrixBelow-within : matrix_below n (matrix_within n known) (matrix_within n newest) ≡ matrix_below n known newest
    unfolding matrix_below sent
    matrixBelow-within = each_same n (row25 n (matrix_within n known) sent) (row25 n known newest) row25-within

    pub check25-within : check25 n r (matrix_within n known) (matrix_within n newest) ≡ check25 n r known newest
    unfolding check25
    check25-within = rw (
      matrixBelow-within,
      matrix_within-at n known r r least most least most,
      matrix_within-at n newest r r least most least most,
    )

    pub pairs25-within : pairs25 n (matrix_within n known) (matrix_within n newest) ≡ pairs25 n known newest
    unfolding pairs25 row_pairs25 sent
    pairs25-within = rw (
      matrixBelow-within,
      looked_same n (row25 n (matrix_within n known) sent) (row25 n known newest) (λ j. n) row25-within,
    )

  module _ (accepted : ℕ → ℕ) (newest : Matrix) where
    pub check23-within : check23 i r accepted (matrix_within n newest) ≡ check23 i r accepted newest
    unfolding check23
    check23-within = rw (matrix_within-at n newest r i least most low high)

    row27-within : (j : ℕ) → 1 ≤ j → j ≤ n → row27 i r accepted (matrix_within n newest) j ≡ row27 i r accepted newest j
    row27-within j p q = ap (λ x. eqb j r || leb x (accepted j)) (matrix_within-at n newest j i p q low high)

    pub check27-within : check27 n i r accepted (matrix_within n newest) ≡ check27 n i r accepted newest
    unfolding check27
    check27-within = each_same n (row27 i r accepted (matrix_within n newest)) (row27 i r accepted newest) row27-within

    pub pairs27-within : pairs27 n i r accepted (matrix_within n newest) ≡ pairs27 n i r accepted newest
    unfolding pairs27
    pairs27-within =
        looked_same n (row27 i r accepted (matrix_within n newest)) (row27 i r accepted newest) (otherwise r 1) row27-within

module _ (n i : ℕ) (m : Member) (newest stored : Rec) (seals : ℕ)
    (low : 1 ≤ i) (high : i ≤ n) (least : 1 ≤ m.slot) (most : m.slot ≤ n) where
  pub halt_number-within :
      halt_number n i m (record_within n newest) (record_within n stored) seals ≡ halt_number n i m newest stored seals
  unfolding halt_number record_within check24
  halt_number-within = rw (
    check22-within n i m.slot low high least most m.known newest.matrix,
    check23-within n i m.slot low high least most m.accepted newest.matrix,
    check25-within n i m.slot low high least most stored.matrix newest.matrix,
    check26-within n i m.slot low high least most m.known newest.matrix,
    check27-within n i m.slot low high least most m.accepted newest.matrix,
  )

  pub halt_pairs-within :
      halt_pairs n i m (record_within n newest) (record_within n stored) seals ≡ halt_pairs n i m newest stored seals
  unfolding halt_pairs record_within
  halt_pairs-within = rw (
    halt_number-within,
    pairs22-within n i m.slot low high least most m.known newest.matrix,
    pairs25-within n i m.slot low high least most stored.matrix newest.matrix,
    pairs26-within n i m.slot low high least most m.known newest.matrix,
    pairs27-within n i m.slot low high least most m.accepted newest.matrix,
  )

-- The matrix that is built.

within_put : (n : ℕ) (a : Row) (k v : ℕ) → 1 ≤ k → k ≤ n → within n 0 (put a k v) ≡ put (within n 0 a) k v
unfolding within put
within_put n a k v p q = fun_ext λ j. on (eqb j k)
    (λ e. let d : j ≡ k = eqb-true j k e in rw (e, ap (inside n) d ∙ inside_in n k p q))
    (λ e. rw e)

larger_within : (n : ℕ) (a b : Row) → within n 0 (larger n a b) ≡ larger n (within n 0 a) (within n 0 b)
unfolding larger
larger_within n a b =
    let s : below n (within n 0 a) (within n 0 b) ≡ below n a b = below_same n (within n 0 a) (within n 0 b) a b (within_at n 0 a)
    (within_at n 0 b) in
    rw s (on (below n a b) (λ h. rw h) (λ h. rw h))

larger_same : (n : ℕ) (a : Row) → larger n a a ≡ a
unfolding larger
larger_same n a = on (below n a a) (λ h. rw h) (λ h. rw h)

pub joined_within : (n i r count : ℕ) (known newest : Matrix) → 1 ≤ i → i ≤ n → 1 ≤ r → r ≤ n
    → matrix_within n (joined n i r count known newest) ≡ joined n i r count (matrix_within n known) (matrix_within n newest)
joined_within n i r count known newest low high least most = fun_ext λ j. on (eqb j r)
    (λ s. ap (λ k. matrix_within n before k) (eqb-true j r s) ∙ slot ∙ ap after (sym (eqb-true j r s)))
    (λ s. on (inside n j)
    (λ t. let p = inside_low n j t in let q = inside_high n j t in
    matrix_within-row n before j p q
    ∙ ap (within n 0) (joined_other n i r count known newest j s)
    ∙ larger_within n (known j) (newest j)
    ∙ sym (joined_other n i r count (matrix_within n known) (matrix_within n newest) j s
    ∙ ap₂ (larger n) (matrix_within-row n known j p q) (matrix_within-row n newest j p q)))
    (λ t. outside before j t ∙ sym (joined_other n i r count (matrix_within n known) (matrix_within n newest) j s
    ∙ ap₂ (larger n) (outside known j t) (outside newest j t) ∙ larger_same n zero_row)))
  where
    before : Matrix
    before = joined n i r count known newest

    after : Matrix
    after = joined n i r count (matrix_within n known) (matrix_within n newest)

    outside : (m : Matrix) (j : ℕ) → inside n j ≡ false → matrix_within n m j ≡ zero_row
    outside m j h = within_off n zero_row (λ j. within n 0 (m j)) j h

    slot : matrix_within n before r ≡ after r
    slot =
        matrix_within-row n before r least most
        ∙ ap (within n 0) (joined_slot n i r count known newest)
        ∙ within_put n (newest r) i count low high
        ∙ ap (λ a. put a i count) (sym (matrix_within-row n newest r least most))
        ∙ sym (joined_slot n i r count (matrix_within n known) (matrix_within n newest))
