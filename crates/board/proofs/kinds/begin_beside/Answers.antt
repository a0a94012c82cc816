-- `begin_beside` meets its contract for the kind that has its limit and its most members: a number that no argument has a part in, the
-- value's length, or `begin_on` with the value that is read.
use mathlib.Core.Path.{ap, ◌∙◌}
use Rattle.lists.specs.Parts.{words}
use Rattle.lists.proofs.Functions.{from_zero}
use Rattle.model.specs.RecordWords.{value_of}
use Rattle.rules.proofs.Refusals.{handed_on, not_done}
use Rattle.board.proofs.Answers.{of_begin}
use Rattle.board.proofs.Beside.{done-beside, long-beside, own_beside, same_value}
use Rattle.board.proofs.kinds.begin_beside.Goals as goal

pub returns-in_err-n : goal.returns-in_err-n
returns-in_err-n c k limit most =
    let r = c.from_residual in
    own_beside k _ _ _ _ (handed_on r.result _ r.ensures.1 (of_begin k _ _ _ _ _ (c.in_err-n.ensures.number_value k most)))
    (not_done r.result r.ensures.0)

pub returns-then-value-ne8 : goal.returns-then-value-ne8
returns-then-value-ne8 c k limit most =
    long-beside k _ _ _ _ (of_begin k _ _ _ _ _ (c.in_ok-n.ensures.number_value k most)) c.if-value-ne8.true

pub returns : goal.returns
returns c k limit most =
    let value = c.load_value.ensures ∙ ap value_of (from_zero (words c.args.value.now)) in
    let checked = c.in_ok-n.ensures in
    done-beside k _ _ _ _ (of_begin k _ _ _ _ _ (checked.number_value k most)) c.if-value-ne8.false checked.sound
    (same_value value (c.begin_on.ensures k limit))
