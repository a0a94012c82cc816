-- `fail` meets its contract: the words after the clearing, the phase and the halt number are those of `failed_by`.
use Prim.Native.Nat.{◌*◌}
use native.Mathlib.Omega.{arith}
use mathlib.Core.Path.{◌∙◌, ap}
use Rattle.lists.specs.Parts.{words}
use Rattle.model.specs.Table.{accepted_at, block_size, first_at, known_at, last_at, member_of, pending_at, second_at}
use Rattle.laws.proofs.Steps.{failed_by, holds_cleared, holds_set}
use Rattle.member_block.proofs.Laws.{whole}
use Rattle.member_block.proofs.parts.fail.Goals as goal

pub returns : goal.returns
unfolding block_size second_at first_at known_at pending_at last_at accepted_at
returns c =
    let a = c.args in
    let at = c.layout-at in
    let size = c.record_size-messages in
    let m = holds_cleared (whole c.requires) c.clear.new.t at.result.first (2 * size.result) c.clear.ensures
    (omega arith) in
    let e = holds_set (holds_set m 0 6 (omega arith)) 2 c.number.result (omega arith) in
    ap (member_of a.n) e.same ∙ rw (at.ensures.first, size.ensures, c.number.ensures) (failed_by a.n (words a.block.now) _)
