-- `deliver_beside` meets its contract: the table's own number, the slice's length, or `deliver_on`; a refusal leaves the slice, and else
-- what is handed back is written to it.
use mathlib.Core.Path.{◌∙◌, ap, refl}
use lib.ListN.{length}
use Rattle.rules.specs.Refusals.{answer, number}
use Rattle.rules.proofs.Refusals.{handed_on, not_done, refuses}
use Rattle.model.specs.Kinds.{concur}
use Rattle.model.specs.Runs.{deliver}
use Rattle.board.specs.Interface.{Beside, returned_size, returned_words}
use Rattle.board.proofs.Answers.{call_returns, of_deliver}
use Rattle.board.proofs.Beside.{done-beside, long-beside, own_beside, returned_kept, returned_written}
use Rattle.board.proofs.interface.deliver_beside.Goals as goal
use Rattle.board.proofs.interface.deliver_beside.Goals.{After-from_residual, After-hand_returned, In_err-value, Then-returned-ne9}

own : (c : After-from_residual) → let a = c.args in
    Beside concur (length a.returned.now) returned_size a.table.now (deliver a.member) (answer c.from_residual.result) a.table.now
own c =
    let r = c.from_residual in
    own_beside concur _ _ _ _ (handed_on r.result _ r.ensures.1 (of_deliver concur _ _ c.in_err-n.ensures.number_value))
    (not_done r.result r.ensures.0)

misfit : (c : Then-returned-ne9) → let a = c.args in
    Beside concur (length a.returned.now) returned_size a.table.now (deliver a.member) 2 a.table.now
misfit c = long-beside concur _ _ _ _ (of_deliver concur _ _ c.in_ok-n.ensures.number_value) c.if-returned-ne9.true

refused : (c : In_err-value) → let a = c.args in
    Beside concur (length a.returned.now) returned_size a.table.now (deliver a.member) (number c.in_err-value.field-0.0)
    c.deliver_on.new.table
refused c =
    let checked = c.in_ok-n.ensures in
    done-beside concur _ _ _ _ (of_deliver concur _ _ checked.number_value) c.if-returned-ne9.false checked.sound
    c.in_err-value.ensures.answered

done : (c : After-hand_returned) → let a = c.args in
    Beside concur (length a.returned.now) returned_size a.table.now (deliver a.member) 0 c.deliver_on.new.table
done c =
    let checked = c.in_ok-n.ensures in
    done-beside concur _ _ _ _ (of_deliver concur _ _ checked.number_value) c.if-returned-ne9.false checked.sound
    c.in_ok-value.ensures.answered

pub returns-in_err-n-clause-value : goal.returns-in_err-n-clause-value
returns-in_err-n-clause-value c =
    (own (goal.at.returns-in_err-n-clause-value c).After-from_residual).0

pub returns-in_err-n-clause-table_after : goal.returns-in_err-n-clause-table_after
returns-in_err-n-clause-table_after c =
    (own (goal.at.returns-in_err-n-clause-table_after c).After-from_residual).1

pub returns-in_err-n-clause-returned_after : goal.returns-in_err-n-clause-returned_after
returns-in_err-n-clause-returned_after c =
    let r = c.from_residual in
    returned_kept _ _ _ (own (goal.at.returns-in_err-n-clause-returned_after c).After-from_residual).0 (not_done r.result r.ensures.0)

pub returns-then-returned-ne9-clause-value : goal.returns-then-returned-ne9-clause-value
returns-then-returned-ne9-clause-value c =
    (misfit (goal.at.returns-then-returned-ne9-clause-value c).Then-returned-ne9).0

pub returns-then-returned-ne9-clause-table_after : goal.returns-then-returned-ne9-clause-table_after
returns-then-returned-ne9-clause-table_after c =
    (misfit (goal.at.returns-then-returned-ne9-clause-table_after c).Then-returned-ne9).1

pub returns-then-returned-ne9-clause-returned_after : goal.returns-then-returned-ne9-clause-returned_after
returns-then-returned-ne9-clause-returned_after c =
    returned_kept _ _ _ (misfit (goal.at.returns-then-returned-ne9-clause-returned_after c).Then-returned-ne9).0 refl

pub returns-in_err-value-clause-value : goal.returns-in_err-value-clause-value
returns-in_err-value-clause-value c =
    let r = c.from_residual-in_err-value in
    handed_on r.result _ r.ensures.1 (refused (goal.at.returns-in_err-value-clause-value c).In_err-value).0

pub returns-in_err-value-clause-table_after : goal.returns-in_err-value-clause-table_after
returns-in_err-value-clause-table_after c =
    (refused (goal.at.returns-in_err-value-clause-table_after c).In_err-value).1

pub returns-in_err-value-clause-returned_after : goal.returns-in_err-value-clause-returned_after
returns-in_err-value-clause-returned_after c =
    returned_kept _ _ _ (refused (goal.at.returns-in_err-value-clause-returned_after c).In_err-value).0 (refuses c.in_err-value.field-0.0)

pub deliver_on-requires : goal.deliver_on-requires
deliver_on-requires c = c.in_ok-n.ensures.sound

pub returns-clause-value : goal.returns-clause-value
returns-clause-value c =
    (done (goal.at.returns-clause-value c).After-hand_returned).0

pub returns-clause-table_after : goal.returns-clause-table_after
returns-clause-table_after c =
    (done (goal.at.returns-clause-table_after c).After-hand_returned).1

pub returns-clause-returned_after : goal.returns-clause-returned_after
returns-clause-returned_after c =
    let checked = c.in_ok-n.ensures in
    let value = call_returns concur _ c.deliver_on.new.table _ checked.sound (of_deliver concur _ _ checked.number_value)
    c.in_ok-value.ensures.result_value in
    returned_written _ _ _ (done (goal.at.returns-clause-returned_after c).After-hand_returned).0 (c.hand_returned.ensures ∙ ap returned_words value)
