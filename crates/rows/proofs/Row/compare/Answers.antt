-- `Row::compare` meets its contract: of the entries looked at, the flags say whether one exceeds its fellow. Assumes nothing.
use Prim.Native.Nat.{◌<◌, min}
use mathlib.Core.Path.{refl, sym, ap, ◌∙◌}
use mathlib.Core.Bool.{not}
use native.Mathlib.Omega.{arith}
use Rattle.lists.proofs.Functions.{each_none}
use Rattle.model.specs.Rows.{below}
use Rattle.rows.proofs.Laws.{flag_more, flags_decide}
use Rattle.rows.proofs.Row.compare.Goals as goal

pub loop-i-init : goal.loop-i-init
unfolding below
loop-i-init c = record { counted = refl; exceeds = ap not (sym (each_none _)); exceeded = ap not (sym (each_none _)) }

pub loop-i-preserved : goal.loop-i-preserved
loop-i-preserved c =
    let a = c.args in
    let l = c.loop-i in
    let h : l.i < 12 = omega arith in
    record {
      counted = omega arith;
      exceeds = flag_more a.self a.other l.i h l.invariant.exceeds;
      exceeded = flag_more a.other a.self l.i h l.invariant.exceeded;
    }

-- once every entry is passed the flags decide
pub returns-clause-answer_value : goal.returns-clause-answer_value
returns-clause-answer_value c =
    let a = c.args in
    let l = c.loop-i in
    c.by_flags-answer.ensures
    ∙ sym (flags_decide (min a.n 12) l.i a.self a.other (omega arith) l.invariant.exceeds l.invariant.exceeded)
