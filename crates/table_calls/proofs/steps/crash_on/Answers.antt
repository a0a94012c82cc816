-- `crash_on` meets its contract: there is no such member, or the block that is lent refuses, or it is marked.
use Rattle.lists.specs.Functions.{Within}
use Rattle.model.specs.Kinds.{concur}
use Rattle.model.specs.Member.{crashed_of}
use Rattle.model.specs.Board.{board_crashed}
use Rattle.model.specs.Runs.{Call, crash, done}
use Rattle.laws.proofs.Tests.{allowed, refused}
use Rattle.rules.specs.declared.refusal.Refusal.TheVariants.{Member}
use Rattle.member_block.proofs.Begins.{within}
use Rattle.tables.proofs.Lent.{BlockLent, block_lent, step_left}
use Rattle.table_calls.proofs.Answers.{crash-asked, hands_on, no_crash, refuses, takes}
use Rattle.table_calls.proofs.steps.crash_on.Goals as goal
use Rattle.table_calls.proofs.steps.crash_on.Goals.{After-block_size, Else-not-is_numbered, Start}

abbrev call : Start → Call
call s = crash s.args.member

numbered : (c : Else-not-is_numbered) → Within c.args.n c.args.member
numbered c = within _ _ (allowed c.is_numbered.ensures c.if-not-is_numbered.false-raw)

lent : (c : After-block_size) → let a = c.args in
    BlockLent a.n a.member a.table.now c.block_at-at.result c.block_size.result
lent c = block_lent c.requires (numbered (goal.at.After-block_size c).Else-not-is_numbered) c.block_at-at.ensures c.block_size.ensures

pub returns-then-not-is_numbered : goal.returns-then-not-is_numbered
returns-then-not-is_numbered c =
    refuses concur _ _ (call (goal.at.returns-then-not-is_numbered c).Start) Member c.requires
    (no_crash _ _ _ (refused c.is_numbered.ensures c.if-not-is_numbered.true-raw))

pub block_at-at-requires : goal.block_at-at-requires
block_at-at-requires c = let w = numbered c in (c.requires.most, (w.least, w.most))

pub returns-in_err-check_crash : goal.returns-in_err-check_crash
returns-in_err-check_crash c =
    let place = goal.at.returns-in_err-check_crash c in
    hands_on concur _ _ (call place.Start) _ _ c.from_residual.ensures.1 c.requires
    (crash-asked (lent place.After-block_size) c.in_err-check_crash.ensures)

pub returns : goal.returns
unfolding done board_crashed
returns c =
    let h = lent (goal.at.returns c).After-block_size in
    takes concur _ _ (call (goal.at.returns c).Start) _ (crash-asked h c.in_ok-check_crash.ensures)
    (step_left h c.mark_crashed.new.block c.mark_crashed.auto.block crashed_of c.mark_crashed.ensures)
