-- `sound_blocks` meets its contract: the blocks before this one passed; this one is lent, and stops the loop or is one more that passed.
use Prim.Native.Nat.{◌+◌}
use mathlib.Core.Path.{◌∙◌, ◌≡◌, ap}
use Rattle.lists.proofs.Functions.{each_none}
use Rattle.model.specs.Table.{sound_member}
use Rattle.laws.proofs.Tests.{goes_on, stops}
use Rattle.tables.proofs.Lent.{BlockLent, block_lent, member_lent, next}
use Rattle.tables.proofs.Numbers.{sound_at}
use Rattle.tables.proofs.check.sound_blocks.Goals as goal
use Rattle.tables.proofs.check.sound_blocks.Goals.{After-block_at-at, After-sound_block}

pub loop-passed-init : goal.loop-passed-init
loop-passed-init c = each_none _

lent : (c : After-block_at-at) → let a = c.args in
    BlockLent a.n (c.loop-passed.passed + 1) a.table.now c.block_at-at.result c.block_size-size.result
lent c =
    block_lent c.requires (next c.loop-passed-test.true) c.block_at-at.ensures c.block_size-size.ensures

judged : (c : After-sound_block) → let a = c.args in
    c.sound_block.result ≡ sound_at a.n a.table.now (c.loop-passed.passed + 1)
judged c = c.sound_block.ensures ∙ ap (sound_member _ _) (member_lent (lent (goal.at.After-sound_block c).After-block_at-at))

pub returns-then-not-sound_block : goal.returns-then-not-sound_block
returns-then-not-sound_block c = stops _ _ _ c.loop-passed-test.true
    (judged (goal.at.returns-then-not-sound_block c).After-sound_block) c.if-not-sound_block.true-raw

pub loop-passed-preserved : goal.loop-passed-preserved
loop-passed-preserved c = goes_on c.args.n _ _ c.loop-passed.invariant
    (judged (goal.at.loop-passed-preserved c).After-sound_block) c.if-not-sound_block.false-raw
