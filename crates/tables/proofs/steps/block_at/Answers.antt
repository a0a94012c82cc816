-- `block_at` meets its contract: n stands before the blocks, and no table is longer than 9,781 words.
use Prim.Native.Nat.{◌*◌, ◌-◌, ◌≤◌}
use native.Mathlib.Omega.{arith}
use mathlib.Core.Path.{refl}
use Rattle.lists.specs.Pieces.{place}
use Rattle.lists.proofs.Pieces.{few_pieces}
use Rattle.model.specs.Table.{block_at}
use Rattle.laws.proofs.Tables.{block_small, table_small}
use Rattle.tables.proofs.Places.{block_ends}
use Rattle.tables.proofs.steps.block_at.Goals as goal
use Rattle.tables.proofs.steps.block_at.Goals.{After-block_size}

small : (c : After-block_size) → (c.args.member - 1) * c.block_size.result ≤ 12 * 501
small c = few_pieces (omega arith) c.block_size.ensures (block_small _ c.requires.0)

pub overflow_mul-result : goal.overflow_mul-result
overflow_mul-result c = omega (arith, small c)

pub overflow_add-result : goal.overflow_add-result
overflow_add-result c = omega (arith, small c)

pub returns : goal.returns
unfolding block_at place
returns c =
    rw c.block_size.ensures
    (record {
      begins = refl;
      ends = block_ends c.args.n c.args.member c.requires.1.0 c.requires.1.1;
      small = table_small c.args.n c.requires.0;
    })
