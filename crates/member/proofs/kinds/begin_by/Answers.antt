-- `begin_by` meets its contract for the kind that has its limit and its most members: a refusal leaves the block, and else the step's words
-- are left.
use mathlib.Core.Path.{◌∙◌}
use Rattle.model.specs.Halves.{member_begin_words}
use Rattle.rules.proofs.Refusals.{kept}
use Rattle.member.proofs.Refusals.{words_made}
use Rattle.member.proofs.kinds.begin_by.Goals as goal

pub returns-in_err-check_begin-clause-block_after : goal.returns-in_err-check_begin-clause-block_after
unfolding member_begin_words
returns-in_err-check_begin-clause-block_after c =
    let e = c.in_err-check_begin.ensures.value in
    λ k limit most. kept _ _ c.in_err-check_begin.field-0.0 (e k limit most)

pub returns-clause-block_after : goal.returns-clause-block_after
unfolding member_begin_words
returns-clause-block_after c =
    let e = c.in_ok-check_begin.ensures in
    let long = c.begin.auto.block ∙ e.begins.block.long in
    λ k limit most. words_made _ _ _ _ (e.value k limit most) long c.begin.ensures
