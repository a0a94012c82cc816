-- `deliver` meets its contract: the table's own number refuses, or the table is sound and `deliver_on` answers and hands back.
use mathlib.Core.Path.{◌∙◌}
use Rattle.rules.specs.Refusals.{answer}
use Rattle.rules.proofs.Refusals.{handed_on, not_done}
use Rattle.model.specs.Kinds.{concur}
use Rattle.model.specs.Runs.{deliver}
use Rattle.table_calls.proofs.Answers.{none_returned}
use Rattle.board.specs.Calls.{OnTable}
use Rattle.board.proofs.Answers.{call-done, call_returns, of_deliver, own_call, own_returns}
use Rattle.board.proofs.deliver.Goals as goal
use Rattle.board.proofs.deliver.Goals.{After-from_residual, After-deliver_on}

refused : (c : After-from_residual) → let l = c.args.table.now in
    OnTable concur l (deliver c.args.member) (answer c.from_residual.result) l
refused c =
    let r = c.from_residual in
    own_call concur _ _ (handed_on r.result _ r.ensures.1 (of_deliver concur _ _ c.in_err-n.ensures.number_value))
    (not_done r.result r.ensures.0)

taken : (c : After-deliver_on) → let call = c.deliver_on in
    OnTable concur c.args.table.now (deliver c.args.member) (answer call.result) call.new.table
taken c =
    let checked = c.in_ok-n.ensures in
    call-done concur _ _ _ checked.sound (of_deliver concur _ _ checked.number_value) c.deliver_on.ensures.answered

pub returns-in_err-n-clause-number_value : goal.returns-in_err-n-clause-number_value
returns-in_err-n-clause-number_value c = (refused (goal.at.returns-in_err-n-clause-number_value c).After-from_residual).0

pub returns-in_err-n-clause-table_after : goal.returns-in_err-n-clause-table_after
returns-in_err-n-clause-table_after c = (refused (goal.at.returns-in_err-n-clause-table_after c).After-from_residual).1.0

pub returns-in_err-n-clause-table_after_2 : goal.returns-in_err-n-clause-table_after_2
returns-in_err-n-clause-table_after_2 c = (refused (goal.at.returns-in_err-n-clause-table_after_2 c).After-from_residual).1.1

pub returns-in_err-n-clause-result_value : goal.returns-in_err-n-clause-result_value
returns-in_err-n-clause-result_value c =
    let r = c.from_residual in
    none_returned r.result r.ensures.0
    ∙ own_returns concur _ _ (handed_on r.result _ r.ensures.1 (of_deliver concur _ _ c.in_err-n.ensures.number_value))
    (not_done r.result r.ensures.0)

pub returns-clause-number_value : goal.returns-clause-number_value
returns-clause-number_value c = (taken (goal.at.returns-clause-number_value c).After-deliver_on).0

pub returns-clause-table_after : goal.returns-clause-table_after
returns-clause-table_after c = (taken (goal.at.returns-clause-table_after c).After-deliver_on).1.0

pub returns-clause-table_after_2 : goal.returns-clause-table_after_2
returns-clause-table_after_2 c = (taken (goal.at.returns-clause-table_after_2 c).After-deliver_on).1.1

pub returns-clause-result_value : goal.returns-clause-result_value
returns-clause-result_value c =
    let checked = c.in_ok-n.ensures in
    call_returns concur _ c.deliver_on.new.table _ checked.sound (of_deliver concur _ _ checked.number_value)
    c.deliver_on.ensures.result_value
