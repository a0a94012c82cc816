-- Rows in the order of all entries, which no n limits: what the invariant of whole runs speaks of. It gives the board's order, of the
-- first n entries, for every n.
use Prim.Native.Nat.{ℕ, ◌≤◌}
use native.Mathlib.Nat.{le_refl, le_trans}
use mathlib.Core.Path.{◌≡◌}
use mathlib.Core.Bool.{true}
use lib.Dec.{eqb}
use borrow.Author.Tests.{eqb-true, eqb-false}
use Rattle.lists.specs.Functions.{put}
use Rattle.lists.proofs.Functions.{on, put_at, put_off}
use Rattle.model.specs.Rows.{Row, Matrix, below, matrix_below, comparable, larger}
use Rattle.model.proofs.Rows.{below_of, matrix_below_of}

-- no entry exceeds its fellow
abbrev pub ◌≼◌ : Row → Row → Type 0
a ≼ b = (k : ℕ) → a k ≤ b k

infix 50 ◌≼◌
-- one of the two is below the other
pub data Ordered (a b : Row) : Type 0 where
  up : a ≼ b → Ordered a b
  down : b ≼ a → Ordered a b

pub ≼_refl : (a : Row) → a ≼ a
≼_refl a k = le_refl (a k)

pub ≼_trans : {a b c : Row} → a ≼ b → b ≼ c → a ≼ c
≼_trans p q k = le_trans (p k) (q k)

-- an entry replaced by one that is no smaller
pub ≼_raised : (a : Row) (i v : ℕ) → a i ≤ v → a ≼ put a i v
≼_raised a i v h k = on (eqb k i)
    (λ e. let d : k ≡ i = eqb-true k i e in rw (d, put_at a i v) h)
    (λ e. rw (put_off a i v k (eqb-false k i e)) (le_refl (a k)))

pub ≼-below : (n : ℕ) (a b : Row) → a ≼ b → below n a b ≡ true
≼-below n a b h = below_of n a b (λ k p q. h k)

pub ≼-matrix_below : (n : ℕ) (a b : Matrix) → ((j : ℕ) → a j ≼ b j) → matrix_below n a b ≡ true
≼-matrix_below n a b h = matrix_below_of n a b (λ j p q. ≼-below n (a j) (b j) (h j))

pub ordered_comparable : (n : ℕ) (a b : Row) → Ordered a b → comparable n a b ≡ true
unfolding comparable
ordered_comparable n a b (up h) = rw (≼-below n a b h)
ordered_comparable n a b (down h) = on (below n a b) (λ p. rw p) (λ p. rw p (≼-below n b a h))

-- the larger of two ordered rows is above the second
pub larger_above : (n : ℕ) (a b : Row) → Ordered a b → b ≼ larger n a b
unfolding larger
larger_above n a b (up h) = rw (≼-below n a b h) (≼_refl b)
larger_above n a b (down h) = on (below n a b) (λ p. rw p (≼_refl b)) (λ p. rw p h)
