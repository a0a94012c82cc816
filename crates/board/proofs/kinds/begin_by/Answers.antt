-- `begin_by` meets its contract for the kind that has its limit and its most members: a number that no argument has a part in refuses, or
-- the table is sound and `begin_on` answers.
use Rattle.rules.proofs.Refusals.{handed_on, not_done}
use Rattle.board.proofs.Answers.{call-done, of_begin, own_call}
use Rattle.board.proofs.kinds.begin_by.Goals as goal

pub returns-in_err-n : goal.returns-in_err-n
returns-in_err-n c k limit most =
    let r = c.from_residual in
    own_call k _ _ (handed_on r.result _ r.ensures.1 (of_begin k _ _ _ _ _ (c.in_err-n.ensures.number_value k most)))
    (not_done r.result r.ensures.0)

pub returns : goal.returns
returns c k limit most =
    let checked = c.in_ok-n.ensures in
    call-done k _ _ _ checked.sound (of_begin k _ _ _ _ _ (checked.number_value k most)) (c.begin_on.ensures k limit)
