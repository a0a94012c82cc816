-- `reply_taken` meets its contract: the block that is lent takes the reply that it noted, as the member of the board does.
use Rattle.model.specs.Board.{reply_taken}
use Rattle.model.specs.Member.{replied}
use Rattle.tables.proofs.Lent.{BlockLent, block_lent, running_block, step_left}
use Rattle.table_calls.proofs.phases.reply_taken.Goals as goal
use Rattle.table_calls.proofs.phases.reply_taken.Goals.{After-block_size}

lent : (c : After-block_size) → let a = c.args in
    BlockLent a.n a.member a.table.now c.block_at-at.result c.block_size.result
lent c = block_lent c.requires.table c.requires.member c.block_at-at.ensures c.block_size.ensures

pub reply_noted-requires : goal.reply_noted-requires
reply_noted-requires c = let t = c.requires in (running_block (lent (goal.at.reply_noted-requires c).After-block_size) t.slot, t.member)

pub returns : goal.returns
unfolding reply_taken
returns c =
    let a = c.args in
    step_left (lent (goal.at.returns c).After-block_size) c.reply_noted.new.block c.reply_noted.auto.block
    (λ m. replied a.n a.member m m.first m.second 3)
    c.reply_noted.ensures
