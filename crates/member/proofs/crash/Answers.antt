-- `crash` meets its contract: a refusal leaves the block, and else the step's words are left.
use mathlib.Core.Path.{◌∙◌}
use Rattle.model.specs.Halves.{member_crash_words}
use Rattle.rules.proofs.Refusals.{kept}
use Rattle.member.proofs.Refusals.{crash_good, words_made}
use Rattle.member.proofs.crash.Goals as goal

pub returns-in_err-check_crash-clause-block_after : goal.returns-in_err-check_crash-clause-block_after
unfolding member_crash_words
returns-in_err-check_crash-clause-block_after c = kept _ _ c.in_err-check_crash.field-0.0 c.in_err-check_crash.ensures

pub returns-clause-block_after : goal.returns-clause-block_after
unfolding member_crash_words
returns-clause-block_after c =
    let long = c.mark_crashed.auto.block ∙ (crash_good _ _ _ c.in_ok-check_crash.ensures).long in
    words_made _ _ _ _ c.in_ok-check_crash.ensures long c.mark_crashed.ensures
