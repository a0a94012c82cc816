-- `crash` meets its contract: the table's own number refuses, or the table is sound and `crash_on` answers.
use Rattle.rules.specs.Refusals.{answer}
use Rattle.rules.proofs.Refusals.{handed_on, not_done}
use Rattle.model.specs.Kinds.{concur}
use Rattle.model.specs.Runs.{crash}
use Rattle.board.specs.Calls.{OnTable}
use Rattle.board.proofs.Answers.{call-done, of_crash, own_call}
use Rattle.board.proofs.crash.Goals as goal
use Rattle.board.proofs.crash.Goals.{After-from_residual, After-crash_on}

refused : (c : After-from_residual) → let l = c.args.table.now in
    OnTable concur l (crash c.args.member) (answer c.from_residual.result) l
refused c =
    let r = c.from_residual in
    own_call concur _ _ (handed_on r.result _ r.ensures.1 (of_crash concur _ _ c.in_err-n.ensures.number_value))
    (not_done r.result r.ensures.0)

taken : (c : After-crash_on) → let call = c.crash_on in
    OnTable concur c.args.table.now (crash c.args.member) (answer call.result) call.new.table
taken c =
    let checked = c.in_ok-n.ensures in
    call-done concur _ _ _ checked.sound (of_crash concur _ _ checked.number_value) c.crash_on.ensures

pub returns-in_err-n-clause-value : goal.returns-in_err-n-clause-value
returns-in_err-n-clause-value c = (refused (goal.at.returns-in_err-n-clause-value c).After-from_residual).0

pub returns-in_err-n-clause-table_after : goal.returns-in_err-n-clause-table_after
returns-in_err-n-clause-table_after c = (refused (goal.at.returns-in_err-n-clause-table_after c).After-from_residual).1.0

pub returns-in_err-n-clause-table_after_2 : goal.returns-in_err-n-clause-table_after_2
returns-in_err-n-clause-table_after_2 c = (refused (goal.at.returns-in_err-n-clause-table_after_2 c).After-from_residual).1.1

pub crash_on-requires : goal.crash_on-requires
crash_on-requires c = c.in_ok-n.ensures.sound.table

pub returns-clause-value : goal.returns-clause-value
returns-clause-value c = (taken (goal.at.returns-clause-value c).After-crash_on).0

pub returns-clause-table_after : goal.returns-clause-table_after
returns-clause-table_after c = (taken (goal.at.returns-clause-table_after c).After-crash_on).1.0

pub returns-clause-table_after_2 : goal.returns-clause-table_after_2
returns-clause-table_after_2 c = (taken (goal.at.returns-clause-table_after_2 c).After-crash_on).1.1
