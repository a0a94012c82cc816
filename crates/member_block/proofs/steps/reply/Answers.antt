-- `reply` meets its contract: `halt_of` says whether the reply fails or passes, and what is then done is what `replied` says.
use mathlib.Core.Path.{◌∙◌, sym}
use Rattle.member_block.proofs.Laws.{replied_failed, replied_passed}
use Rattle.member_block.proofs.steps.reply.Goals as goal

pub returns-in-Some-clause-block_after : goal.returns-in-Some-clause-block_after
returns-in-Some-clause-block_after c =
    c.fail.ensures ∙ sym (replied_failed c.requires.0 c.requires.1 _ _ _ _ c.halt_of-found.ensures.number_value c.in-Some.is)

pub returns-in-None-clause-block_after : goal.returns-in-None-clause-block_after
returns-in-None-clause-block_after c =
    c.pass.ensures ∙ sym (replied_passed c.requires.0 c.requires.1 _ _ _ _ c.halt_of-found.ensures.number_value c.in-None.is)
