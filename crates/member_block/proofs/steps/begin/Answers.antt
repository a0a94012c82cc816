-- `begin` meets its contract: the words after the count, the value and the three stores are those of `begun_by`.
use Prim.Native.Nat.{◌+◌, ◌-◌}
use native.Mathlib.Omega.{arith}
use mathlib.Core.Path.{◌∙◌, ◌≡◌, ap}
use mathlib.Core.Bool.{cond}
use lib.Dec.{eqb}
use lib.ListN.{length, length-set}
use Rattle.lists.specs.Functions.{from}
use Rattle.lists.specs.Parts.{words}
use Rattle.model.specs.Records.{write}
use Rattle.model.specs.RecordWords.{value_of}
use Rattle.model.specs.Table.{accepted_at, block_size, first_at, known_at, last_at, member_of, pending_at, second_at}
use Rattle.laws.proofs.Steps.{begun_by, holds_pasted, holds_set}
use Rattle.member_block.proofs.Laws.{whole}
use Rattle.member_block.proofs.steps.begin.Goals as goal
use Rattle.member_block.proofs.steps.begin.Goals.{After-carried-pending, After-store_value}

-- the value carried: a write's is the given one, a read's the last own one
carried_value : (c : After-carried-pending)
    → let a = c.args in
    value_of (words c.carried-pending.result)
    ≡ cond (eqb a.operation write) (value_of (words a.value)) (value_of (from (words a.block.now) (last_at a.n)))
carried_value c =
    let a = c.args in
    c.carried-pending.ensures
    ∙ ap (λ at. cond (eqb a.operation write) (value_of (words a.value)) (value_of (from (words a.block.now) at)))
    c.layout-at.ensures.last

long : (c : After-store_value) → length c.store_value.new.t ≡ length c.args.block.now
long c = simp length-set at c.store_value.auto.t

pub returns : goal.returns
unfolding block_size second_at first_at known_at pending_at last_at accepted_at
returns c =
    let a = c.args in
    let at = c.layout-at in
    let w = words a.block.now in
    let own = 5 + a.slot - 1 in
    let value = words c.carried-pending.result in
    let o = holds_set (whole c.requires.block) own (w own + 1) (omega arith) in
    let v = holds_pasted o c.store_value.new.t at.result.pending 8 value c.store_value.auto.t
    c.store_value.ensures in
    let e = holds_set (holds_set (holds_set v 0 1 (omega arith)) 3 a.slot (omega arith)) 4 a.operation (omega arith) in
    ap (member_of a.n) e.same
    ∙ rw at.ensures.pending
    (begun_by a.n w a.slot a.operation (value_of (words a.value)) value c.requires.slot.least c.requires.slot.most
    (carried_value (goal.at.returns c).After-carried-pending))
