-- Where the parts of the table lie.
use Prim.Native.Nat.{ℕ, ◌+◌, ◌≤◌}
use native.Mathlib.Omega.{arith}
use Rattle.model.specs.Table.{block_size, block_at, table_size}
use Rattle.laws.proofs.Blocks.{block_sum}
use Rattle.laws.proofs.Tables.{table_sum, block_room, host_room}

pub block_ends : (n i : ℕ) → 1 ≤ i → i ≤ n → block_at n i + block_size n ≤ table_size n
block_ends n i p q = omega (arith, block_room n i p q, host_room n)

pub block_positive : (n : ℕ) → 1 ≤ block_size n
block_positive n = omega (arith, block_sum n)

pub table_positive : (n : ℕ) → 1 ≤ table_size n
table_positive n = omega (arith, table_sum n)
