-- `take_line` meets its contract: the script is over; or the bytes taken so far are kept, none of which ends the line, and the next one
-- ends it.
use mathlib.Core.Path.{refl, sym, ap, ◌∙◌}
use borrow.Author.Tests.{ltb-false}
use lib.Seq.{take_all}
use Rattle.lists.specs.Parts.{words}
use Rattle.model.specs.Kinds.{concur}
use Rattle.model.specs.Script.{most_steps}
use Rattle.script_run.specs.Feeding.{fed}
use Rattle.script_run.specs.Meaning.{state_of}
use Rattle.script_run.proofs.Streams.{over_fed}
use Rattle.script_run.proofs.States.{kept_state, fed_more, none_took, line_took}
use Rattle.script_run.proofs.steps.take_line.Goals as goal

pub returns-then-is_over : goal.returns-then-is_over
returns-then-is_over c =
    let a = c.args in
    none_took a.p a.table.now a.kept.now a.bytes.now a.p a.table.now a.kept.now c.requires
    (over_fed concur (state_of a.p a.table.now a.kept.now) a.bytes.now (sym (c.if-is_over.ensures a.table.now a.kept.now)))

pub loop-i-init : goal.loop-i-init
unfolding fed state_of
loop-i-init c =
    let a = c.args in
    let going = ltb-false most_steps a.p.step (sym (c.if-is_over.ensures a.table.now a.kept.now)) in
    record { ready = c.requires; going = going; held = refl }

pub end_line-ended-requires : goal.end_line-ended-requires
end_line-ended-requires c = (c.loop-i.invariant.ready, c.loop-i.invariant.going)

pub returns-then-b-eq10 : goal.returns-then-b-eq10
returns-then-b-eq10 c =
    let a = c.args in
    let l = c.loop-i in
    line_took a.p a.table.now a.kept.now a.bytes.now l.line l.table l.kept l.i c.loop-i-test.true
    l.invariant.held l.invariant.going c.if-b-eq10.true
    c.end_line-ended.result c.end_line-ended.new.table c.end_line-ended.ensures

pub loop-i-preserved : goal.loop-i-preserved
loop-i-preserved c =
    let a = c.args in
    let l = c.loop-i in
    let i = l.invariant in
    let k = c.keep_byte in
    let b = words a.bytes.now l.i in
    record {
      ready =
          record {
            room =
                i.ready.room;
            keeps = k.auto.kept ∙ i.ready.keeps;
            line = k.ensures.0;
            size = i.ready.size;
            whole = i.ready.whole;
          };
      going = i.going;
      held =
          fed_more (state_of a.p a.table.now a.kept.now) a.bytes.now l.i (state_of l.line l.table l.kept)
          c.loop-i-test.true i.held
          ∙ kept_state l.line l.table l.kept b k.result k.new.kept i.going c.if-b-eq10.false k.ensures.1;
    }

pub returns : goal.returns
returns c =
    let a = c.args in
    let l = c.loop-i in
    let whole = sym (take_all l.i a.bytes.now c.loop-i-test.false) in
    none_took a.p a.table.now a.kept.now a.bytes.now l.line l.table l.kept l.invariant.ready
    (ap (fed concur (state_of a.p a.table.now a.kept.now)) whole ∙ l.invariant.held)
