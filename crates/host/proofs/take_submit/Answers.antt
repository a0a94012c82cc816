-- `take_submit` meets its contract: a refusal leaves the entries, and a submit that nothing refuses leaves what the step does.
use mathlib.Core.Path.{sym}
use Rattle.model.specs.Halves.{submit_words}
use Rattle.rules.proofs.Refusals.{kept}
use Rattle.host.proofs.Answers.{good_slot, submit_leaves}
use Rattle.host.proofs.take_submit.Goals as goal

pub returns-in_err-check_host-clause-entries_after : goal.returns-in_err-check_host-clause-entries_after
unfolding submit_words
returns-in_err-check_host-clause-entries_after c = kept _ _ c.in_err-check_host.field-0.0 c.in_err-check_host.ensures

pub submit-requires : goal.submit-requires
submit-requires c = good_slot _ _ _ _ _ (sym c.in_ok-check_host.ensures)

pub returns-clause-entries_after : goal.returns-clause-entries_after
returns-clause-entries_after c =
    let a = c.args in
    let s = c.submit in
    submit_leaves a.n a.entries.now s.new.entries s.auto.entries a.member a.slot a.operation a.count (sym c.in_ok-check_host.ensures)
    s.ensures.entries_after s.ensures.entries_unchanged
