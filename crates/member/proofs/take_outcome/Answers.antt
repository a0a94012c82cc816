-- `take_outcome` meets its contract: a refusal leaves the block and returns nothing, and else the step is taken.
use mathlib.Core.Option.{none}
use mathlib.Core.Path.{◌∙◌, sym}
use Rattle.lists.proofs.Refusals.{becomes}
use Rattle.model.specs.Halves.{outcome_returns, outcome_words}
use Rattle.rules.proofs.Refusals.{kept}
use Rattle.member_block.proofs.Laws.{none_returned}
use Rattle.member.proofs.Refusals.{outcome_good, words_made}
use Rattle.member.proofs.take_outcome.Goals as goal

pub returns-in_err-check_outcome-clause-result_value : goal.returns-in_err-check_outcome-clause-result_value
unfolding outcome_returns
returns-in_err-check_outcome-clause-result_value c =
    let refused = c.in_err-check_outcome in
    none_returned _ c.from_residual.ensures.0 ∙ kept none _ refused.field-0.0 refused.ensures

pub returns-in_err-check_outcome-clause-block_after : goal.returns-in_err-check_outcome-clause-block_after
unfolding outcome_words
returns-in_err-check_outcome-clause-block_after c = kept _ _ c.in_err-check_outcome.field-0.0 c.in_err-check_outcome.ensures

pub returns-clause-result_value : goal.returns-clause-result_value
unfolding outcome_returns
returns-clause-result_value c = becomes _ _ (sym c.in_ok-check_outcome.ensures) c.finish.ensures.taken

pub returns-clause-block_after : goal.returns-clause-block_after
unfolding outcome_words
returns-clause-block_after c =
    let long = c.finish.auto.block ∙ (outcome_good _ _ _ _ c.in_ok-check_outcome.ensures).block.long in
    words_made _ _ _ _ c.in_ok-check_outcome.ensures long c.finish.ensures.block_after
