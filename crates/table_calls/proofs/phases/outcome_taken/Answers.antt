-- `outcome_taken` meets its contract: the block that is lent takes its outcome, and hands back what the member of the board does.
use mathlib.Core.Path.{◌∙◌, ap}
use Rattle.model.specs.Board.{outcome_taken}
use Rattle.model.specs.Member.{outcome, returned_by}
use Rattle.tables.proofs.Lent.{BlockLent, block_lent, member_lent, running_block, step_left}
use Rattle.table_calls.proofs.phases.outcome_taken.Goals as goal
use Rattle.table_calls.proofs.phases.outcome_taken.Goals.{After-block_size}

lent : (c : After-block_size) → let a = c.args in
    BlockLent a.n a.member a.table.now c.block_at-at.result c.block_size.result
lent c = block_lent c.requires.table c.requires.member c.block_at-at.ensures c.block_size.ensures

pub finish-requires : goal.finish-requires
finish-requires c = running_block (lent (goal.at.finish-requires c).After-block_size) c.requires.slot

pub returns-clause-taken : goal.returns-clause-taken
unfolding outcome_taken
returns-clause-taken c =
    let won = c.args.accepted in
    c.finish.ensures.taken ∙ ap (λ m. returned_by m won) (member_lent (lent (goal.at.returns-clause-taken c).After-block_size))

pub returns-clause-left : goal.returns-clause-left
unfolding outcome_taken
returns-clause-left c =
    let won = c.args.accepted in
    step_left (lent (goal.at.returns-clause-left c).After-block_size) c.finish.new.block c.finish.auto.block
    (λ m. outcome m won) c.finish.ensures.block_after
