-- `check_kind` meets its contract: the table's own number refuses, or it is 0 and the kind's answers.
use Rattle.rules.proofs.Refusals.{handed_on, not_done}
use Rattle.model.specs.TableCalls.{begin_number}
use Rattle.board.proofs.kinds.check_kind.Goals as goal

pub returns-in_err-n-clause-number_value : goal.returns-in_err-n-clause-number_value
unfolding begin_number
returns-in_err-n-clause-number_value c =
    let r = c.from_residual in
    let e = handed_on r.result _ r.ensures.1 c.in_err-n.ensures.number_value in
    λ k most. rw (← e, not_done r.result r.ensures.0)

pub returns-in_err-check_size-clause-number_value : goal.returns-in_err-check_size-clause-number_value
unfolding begin_number
returns-in_err-check_size-clause-number_value c =
    let r = c.from_residual-in_err-check_size in
    let checked = c.in_ok-n.ensures in
    λ k most. rw (← checked.number_value, ← checked.size_value) (handed_on r.result _ r.ensures.1 (c.in_err-check_size.ensures k most))

pub returns-clause-number_value : goal.returns-clause-number_value
unfolding begin_number
returns-clause-number_value c =
    let checked = c.in_ok-n.ensures in
    λ k most. rw (← checked.number_value, ← checked.size_value) (c.in_ok-check_size.ensures k most)
