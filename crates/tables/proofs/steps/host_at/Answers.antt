-- `host_at` meets its contract: the host entries follow n blocks, and end with the table.
use Prim.Native.Nat.{◌*◌, ◌≤◌}
use native.Mathlib.Omega.{arith}
use mathlib.Core.Path.{refl}
use Rattle.lists.proofs.Pieces.{few_pieces}
use Rattle.model.specs.Table.{host_at}
use Rattle.laws.proofs.Tables.{block_small, host_room, table_small}
use Rattle.tables.proofs.steps.host_at.Goals as goal
use Rattle.tables.proofs.steps.host_at.Goals.{After-block_size}

small : (c : After-block_size) → c.args.n * c.block_size.result ≤ 12 * 501
small c = few_pieces c.requires c.block_size.ensures (block_small _ c.requires)

pub overflow_mul-result : goal.overflow_mul-result
overflow_mul-result c = omega (arith, small c)

pub overflow_add-result : goal.overflow_add-result
overflow_add-result c = omega (arith, small c)

pub returns : goal.returns
unfolding host_at
returns c =
    let n = c.args.n in
    rw c.block_size.ensures (record { begins = refl; ends = host_room n; small = table_small n c.requires })
