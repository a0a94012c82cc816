-- `deliver_on` meets its contract: there is no such member, or the block that is lent refuses, or the step of the member's phase is taken.
use mathlib.Core.Path.{◌∙◌, ap, sym}
use mathlib.Core.Option.{none}
use Rattle.lists.specs.Functions.{Within}
use Rattle.lists.proofs.Refusals.{becomes}
use Rattle.model.specs.Kinds.{concur}
use Rattle.model.specs.Runs.{Call, answer_of, deliver, done, done_returns}
use Rattle.laws.proofs.Tests.{allowed, refused}
use Rattle.rules.specs.declared.refusal.Refusal.TheVariants.{Member}
use Rattle.rules.proofs.Refusals.{kept}
use Rattle.member_block.proofs.Begins.{within}
use Rattle.tables.proofs.Lent.{BlockLent, block_lent, member_lent}
use Rattle.table_calls.proofs.Answers.{deliver-asked, hands_on, no_deliver, none_returned, refuses, takes, turn}
use Rattle.table_calls.proofs.steps.deliver_on.Goals as goal
use Rattle.table_calls.proofs.steps.deliver_on.Goals.{After-block_size, Else-not-is_numbered, Start}

abbrev call : Start → Call
call s = deliver s.args.member

numbered : (c : Else-not-is_numbered) → Within c.args.n c.args.member
numbered c = within _ _ (allowed c.is_numbered.ensures c.if-not-is_numbered.false-raw)

lent : (c : After-block_size) → let a = c.args in
    BlockLent a.n a.member a.table.now c.block_at-at.result c.block_size.result
lent c = block_lent c.requires.table (numbered (goal.at.After-block_size c).Else-not-is_numbered) c.block_at-at.ensures c.block_size.ensures

pub returns-then-not-is_numbered-clause-answered : goal.returns-then-not-is_numbered-clause-answered
returns-then-not-is_numbered-clause-answered c =
    refuses concur _ _ (call (goal.at.returns-then-not-is_numbered-clause-answered c).Start) Member c.requires.table
    (no_deliver _ _ _ (refused c.is_numbered.ensures c.if-not-is_numbered.true-raw))

pub returns-then-not-is_numbered-clause-result_value : goal.returns-then-not-is_numbered-clause-result_value
returns-then-not-is_numbered-clause-result_value c =
    kept none _ Member (no_deliver _ _ _ (refused c.is_numbered.ensures c.if-not-is_numbered.true-raw))

pub block_at-at-requires : goal.block_at-at-requires
block_at-at-requires c = let w = numbered c in (c.requires.table.most, (w.least, w.most))

pub returns-in_err-check_deliver-clause-answered : goal.returns-in_err-check_deliver-clause-answered
returns-in_err-check_deliver-clause-answered c =
    let place = goal.at.returns-in_err-check_deliver-clause-answered c in
    hands_on concur _ _ (call place.Start) _ _ c.from_residual.ensures.1 c.requires.table
    (deliver-asked (lent place.After-block_size) c.in_err-check_deliver.ensures)

pub returns-in_err-check_deliver-clause-result_value : goal.returns-in_err-check_deliver-clause-result_value
returns-in_err-check_deliver-clause-result_value c =
    let h = lent (goal.at.returns-in_err-check_deliver-clause-result_value c).After-block_size in
    let refused = c.in_err-check_deliver in
    none_returned _ c.from_residual.ensures.0 ∙ kept none _ refused.field-0.0 (deliver-asked h refused.ensures)

pub delivered-requires : goal.delivered-requires
unfolding answer_of
delivered-requires c =
    let h = lent (goal.at.delivered-requires c).After-block_size in (
      turn c.requires h.member (sym (deliver-asked h c.in_ok-check_deliver.ensures)),
      c.phase_of-phase.ensures ∙ ap (λ m. m.phase) (member_lent h),
    )

pub returns-clause-answered : goal.returns-clause-answered
unfolding done
returns-clause-answered c =
    let place = goal.at.returns-clause-answered c in
    let asked = deliver-asked (lent place.After-block_size) c.in_ok-check_deliver.ensures in
    takes concur _ _ (call place.Start) _ asked c.delivered.ensures.left

pub returns-clause-result_value : goal.returns-clause-result_value
unfolding done_returns
returns-clause-result_value c =
    let h = lent (goal.at.returns-clause-result_value c).After-block_size in
    becomes none _ (sym (deliver-asked h c.in_ok-check_deliver.ensures)) c.delivered.ensures.taken
