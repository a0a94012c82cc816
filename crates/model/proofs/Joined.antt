-- The operation's matrix, row by row: the slot's row is the newest record's with the own count, every other the larger of the two.
use Prim.Native.Nat.{ℕ}
use mathlib.Core.Path.{◌≡◌, refl}
use mathlib.Core.Bool.{false}
use lib.Dec.{eqb}
use borrow.Author.Tests.{eq-eqb}
use Rattle.lists.specs.Functions.{put}
use Rattle.model.specs.Rows.{Matrix, larger}
use Rattle.model.specs.Member.{joined}

module _ (n i r count : ℕ) (known newest : Matrix) where
  pub joined_slot : joined n i r count known newest r ≡ put (newest r) i count
  unfolding joined
  joined_slot = rw (eq-eqb r r refl)

  pub joined_other : (j : ℕ) → eqb j r ≡ false → joined n i r count known newest j ≡ larger n (known j) (newest j)
  unfolding joined
  joined_other j h = rw h
