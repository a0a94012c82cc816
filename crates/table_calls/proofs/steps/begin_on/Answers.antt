-- `begin_on` meets its contract for the kind that has its limit: there is no such member, or the block that is lent refuses, or the
-- operation begins on it.
use Rattle.lists.specs.Functions.{Within}
use Rattle.lists.specs.Parts.{words}
use Rattle.model.specs.RecordWords.{value_of}
use Rattle.model.specs.Member.{begun}
use Rattle.model.specs.Board.{board_begun}
use Rattle.model.specs.Runs.{Call, begin, done}
use Rattle.laws.proofs.Tests.{allowed, refused}
use Rattle.rules.specs.declared.refusal.Refusal.TheVariants.{Member}
use Rattle.member_block.proofs.Begins.{within}
use Rattle.tables.proofs.Lent.{BlockLent, block_lent, step_left}
use Rattle.table_calls.proofs.Answers.{begin-asked, hands_on, no_begin, refuses, takes}
use Rattle.table_calls.proofs.steps.begin_on.Goals as goal
use Rattle.table_calls.proofs.steps.begin_on.Goals.{After-block_size, Else-not-is_numbered, Start}

abbrev call : Start → Call
call s = let a = s.args in begin a.member a.slot a.operation (value_of (words a.value))

numbered : (c : Else-not-is_numbered) → Within c.args.n c.args.member
numbered c = within _ _ (allowed c.is_numbered.ensures c.if-not-is_numbered.false-raw)

lent : (c : After-block_size) → let a = c.args in
    BlockLent a.n a.member a.table.now c.block_at-at.result c.block_size.result
lent c = block_lent c.requires (numbered (goal.at.After-block_size c).Else-not-is_numbered) c.block_at-at.ensures c.block_size.ensures

pub returns-then-not-is_numbered : goal.returns-then-not-is_numbered
returns-then-not-is_numbered c k limit =
    refuses k _ _ (call (goal.at.returns-then-not-is_numbered c).Start) Member c.requires
    (no_begin _ _ _ k _ _ _ (refused c.is_numbered.ensures c.if-not-is_numbered.true-raw))

pub block_at-at-requires : goal.block_at-at-requires
block_at-at-requires c = let w = numbered c in (c.requires.most, (w.least, w.most))

pub returns-in_err-check_begin : goal.returns-in_err-check_begin
returns-in_err-check_begin c k limit =
    let place = goal.at.returns-in_err-check_begin c in
    hands_on k _ _ (call place.Start) _ _ c.from_residual.ensures.1 c.requires
    (begin-asked (lent place.After-block_size) k _ _ _ (c.in_err-check_begin.ensures.fact k limit))

pub returns : goal.returns
unfolding done board_begun
returns c k limit =
    let a = c.args in
    let h = lent (goal.at.returns c).After-block_size in
    takes k _ _ (call (goal.at.returns c).Start) _ (begin-asked h k _ _ _ (c.in_ok-check_begin.ensures.fact k limit))
    (step_left h c.begin.new.block c.begin.auto.block (λ m. begun m a.slot a.operation (value_of (words a.value))) c.begin.ensures)
