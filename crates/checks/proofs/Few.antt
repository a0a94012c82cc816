-- On a board of at most twelve, checks 25, 26 and 27 compare few pairs: their sums fit.
use Prim.Native.Nat.{ℕ, ◌≤◌}
use native.Mathlib.Omega.{arith}
use Rattle.lists.specs.Functions.{Within}
use Rattle.model.specs.Rows.{Matrix}
use Rattle.model.specs.Pairs.{pairs25, pairs26, pairs27, row_pairs25}
use Rattle.model.proofs.Pairs.{most25, most26, most27, row_pairs25-most, square}
use Rattle.laws.proofs.Records.{square_small}

pub rows25 : (n : ℕ) (stored newest : Matrix) → n ≤ 12 → row_pairs25 n stored newest ≤ 144
rows25 n stored newest h = omega (arith, row_pairs25-most n stored newest, square_small n h)

pub c25 : (n : ℕ) (stored newest : Matrix) → n ≤ 12 → pairs25 n stored newest ≤ 145
c25 n stored newest h = omega (arith, most25 n stored newest, square_small n h)

pub c26 : (n r : ℕ) → Within n r → (known newest : Matrix) → n ≤ 12 → pairs26 n r known newest ≤ 144
c26 n r w known newest h =
    omega (arith, most26 n r w known newest, square n (omega (arith, w.least, w.most)), square_small n h)

pub c27 : (n i r : ℕ) → Within n r → (accepted : ℕ → ℕ) (newest : Matrix) → n ≤ 12 → pairs27 n i r accepted newest ≤ 12
c27 n i r w accepted newest h = omega (arith, most27 n i r w accepted newest)
