-- `judge` meets its contract: one word is stored, accepted or aborted, and `judged_set` reads it back.
use Rattle.member_block.proofs.Laws.{judged_set}
use Rattle.member_block.proofs.steps.judge.Goals as goal
use Rattle.member_block.proofs.steps.judge.Goals.{then-won, else-won}
use mathlib.Core.Bool.{true, false}

pub returns : goal.returns
returns c = elim c.if-won.branch [
  | then-won w ↦ rw (w.block-is, w.if-won.true) (judged_set c.requires true)
  | else-won w ↦ rw (w.block-is, w.if-won.false) (judged_set c.requires false)
]
