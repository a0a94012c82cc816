-- `drop` meets its contract: the words after the two clearings and the three stores are those of `dropped_by`.
use Prim.Native.Nat.{◌*◌}
use native.Mathlib.Omega.{arith}
use mathlib.Core.Path.{◌∙◌, ap}
use Rattle.lists.specs.Parts.{words}
use Rattle.model.specs.Table.{accepted_at, block_size, first_at, known_at, last_at, member_of, pending_at, second_at}
use Rattle.laws.proofs.Steps.{dropped_by, holds_cleared, holds_set}
use Rattle.member_block.proofs.Laws.{whole}
use Rattle.member_block.proofs.parts.drop.Goals as goal

pub returns : goal.returns
unfolding block_size second_at first_at known_at pending_at last_at accepted_at
returns c =
    let size = c.record_size in
    let at = c.layout-at in
    let p = holds_cleared (whole c.requires) c.clear.new.t at.result.pending 8 c.clear.ensures (omega arith) in
    let m = holds_cleared p c.clear-2.new.t at.result.first (2 * size.result) c.clear-2.ensures (omega arith) in
    let e = holds_set (holds_set (holds_set m 0 0 (omega arith)) 3 0 (omega arith)) 4 0 (omega arith) in
    ap (member_of c.args.n) e.same
    ∙ rw (at.ensures.pending, at.ensures.first, size.ensures) (dropped_by c.args.n (words c.args.block.now))
