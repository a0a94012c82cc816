-- Facts about rows and matrices, for every n: what the tests of Rows.antt say of the entries 1 to n.
use Prim.Native.Nat.{ℕ, ◌≤◌}
use native.Mathlib.Nat.{le_refl, le_trans, le_antisymm}
use native.Mathlib.Omega.{arith}
use mathlib.Core.Path.{◌≡◌}
use mathlib.Core.Bool.{true, false}
use mathlib.Core.Logic.{◌⊎◌, inl, inr}
use lib.Dec.{eqb, leb}
use borrow.Author.Tests.{le-leb, leb-true, eqb-true, eqb-false}
use Rattle.lists.specs.Functions.{put, inside}
use Rattle.lists.proofs.Functions.{on, put_at, put_off, each_at, each_all, each_same, inside_in}
use Rattle.model.specs.Rows.{Row, Matrix, zero_row, below, matrix_below, comparable, larger, with_count}

-- Below, entry by entry.

pub below_at : (n : ℕ) (a b : Row) → below n a b ≡ true → (k : ℕ) → 1 ≤ k → k ≤ n → a k ≤ b k
unfolding below
below_at n a b h k p q = leb-true (a k) (b k) (each_at n (λ k. leb (a k) (b k)) h k p q)

pub below_of : (n : ℕ) (a b : Row) → ((k : ℕ) → 1 ≤ k → k ≤ n → a k ≤ b k) → below n a b ≡ true
unfolding below
below_of n a b h = each_all n (λ k. leb (a k) (b k)) (λ k p q. le-leb (a k) (b k) (h k p q))

-- rows that agree on 1 to n are below the same rows
pub below_same : (n : ℕ) (a b c d : Row) → ((k : ℕ) → 1 ≤ k → k ≤ n → a k ≡ c k) → ((k : ℕ) → 1 ≤ k → k ≤ n → b k ≡ d k)
    → below n a b ≡ below n c d
unfolding below
below_same n a b c d p q =
    each_same n (λ k. leb (a k) (b k)) (λ k. leb (c k) (d k)) (λ k g h. rw (p k g h, q k g h))

-- An order on the first n entries.

pub below_refl : (n : ℕ) (a : Row) → below n a a ≡ true
below_refl n a = below_of n a a (λ k p q. le_refl (a k))

pub below_trans : (n : ℕ) (a b c : Row) → below n a b ≡ true → below n b c ≡ true → below n a c ≡ true
below_trans n a b c p q = below_of n a c (λ k g h. le_trans (below_at n a b p k g h) (below_at n b c q k g h))

pub below_antisym : (n : ℕ) (a b : Row) → below n a b ≡ true → below n b a ≡ true → (k : ℕ) → 1 ≤ k → k ≤ n → a k ≡ b k
below_antisym n a b p q k g h = le_antisymm (below_at n a b p k g h) (below_at n b a q k g h)

pub zero_below : (n : ℕ) (a : Row) → below n zero_row a ≡ true
unfolding zero_row
zero_below n a = below_of n zero_row a (λ k p q. omega arith)

-- raising one entry gives a row above
pub raised_above : (n : ℕ) (a : Row) (k v : ℕ) → a k ≤ v → below n a (put a k v) ≡ true
raised_above n a k v h = below_of n a (put a k v) (λ j p q. on (eqb j k)
    (λ e. rw (eqb-true j k e, put_at a k v) h)
    (λ e. rw (put_off a k v j (eqb-false j k e)) (le_refl (a j))))

-- The larger of two comparable rows is one of the two and above both.

pub larger_either : (n : ℕ) (a b : Row) → (larger n a b ≡ a) ⊎ (larger n a b ≡ b)
unfolding larger
larger_either n a b = on (below n a b) (λ p. inr (rw p)) (λ p. inl (rw p))

pub larger_above_first : (n : ℕ) (a b : Row) → below n a (larger n a b) ≡ true
unfolding larger
larger_above_first n a b = on (below n a b) (λ p. rw (p, p)) (λ p. rw p (below_refl n a))

pub larger_above_second : (n : ℕ) (a b : Row) → comparable n a b ≡ true → below n b (larger n a b) ≡ true
unfolding larger comparable
larger_above_second n a b h = on (below n a b) (λ p. rw p (below_refl n b)) (λ p. rw p (rw p at h))

-- Matrices, row by row.

pub matrix_below-at : (n : ℕ) (a b : Matrix) → matrix_below n a b ≡ true → (j : ℕ) → 1 ≤ j → j ≤ n → below n (a j) (b j) ≡ true
unfolding matrix_below
matrix_below-at n a b h = each_at n (λ j. below n (a j) (b j)) h

pub matrix_below_of : (n : ℕ) (a b : Matrix) → ((j : ℕ) → 1 ≤ j → j ≤ n → below n (a j) (b j) ≡ true) → matrix_below n a b ≡ true
unfolding matrix_below
matrix_below_of n a b = each_all n (λ j. below n (a j) (b j))

pub matrix_below_refl : (n : ℕ) (a : Matrix) → matrix_below n a a ≡ true
matrix_below_refl n a = matrix_below_of n a a (λ j p q. below_refl n (a j))

pub matrix_below_trans : (n : ℕ) (a b c : Matrix) → matrix_below n a b ≡ true → matrix_below n b c ≡ true → matrix_below n a c ≡ true
matrix_below_trans n a b c p q =
    matrix_below_of n a c (λ j g h. below_trans n (a j) (b j) (c j) (matrix_below-at n a b p j g h) (matrix_below-at n b c q j g h))

-- One entry replaced.

pub with_count_in : (n : ℕ) (a : Row) (k v : ℕ) → 1 ≤ k → k ≤ n → with_count n a k v ≡ put a k v
unfolding with_count
with_count_in n a k v p q = rw (inside_in n k p q)

pub with_count_out : (n : ℕ) (a : Row) (k v : ℕ) → inside n k ≡ false → with_count n a k v ≡ a
unfolding with_count
with_count_out n a k v h = rw h
