-- `run_line` meets its contract: the line is malformed, or its call is made on the table, which stays whole, and its phase is read after
-- it.
use Rattle.std.specs.Prelude.{Some}
use mathlib.Core.Path.{sym, ap, ◌∙◌}
use Rattle.model.specs.Kinds.{concur}
use Rattle.model.specs.TableCalls.{phase_words}
use Rattle.model.specs.Script.{step_line}
use Rattle.script_run.specs.Meaning.{call_by, StepHeld}
use Rattle.script_run.specs.declared.Done.{Done}
use Rattle.script_run.proofs.Held.{whole_after, step_malformed, step_made, call_shown}
use Rattle.script_run.proofs.Made.{line_made}
use Rattle.script_run.proofs.lines.run_line.Goals as goal
use Rattle.script_run.proofs.lines.run_line.Goals.{After-phase_of-phase}

-- What is known at the end.

abbrev done : After-phase_of-phase → Done
done c =
    let parts = c.outcome_parts-answer.result in
    record { line = c.in_ok-line.line; answer = parts.0; returned = parts.1; phase = c.phase_of-phase.result }

held : (c : After-phase_of-phase) → StepHeld (Some (done c)) (step_line concur c.args.table.now c.args.line.now).happened
held c =
    let m = c.make_call-outcome in
    let parts = c.outcome_parts-answer.ensures in
    rw (step_made c.args.table.now c.args.line.now c.in_ok-line.line c.in_ok-line.ensures)
    (call_shown c.args.table.now (done c) m.new.table (parts.number_value ∙ m.ensures.number_value)
    (parts.result_value ∙ m.ensures.result_value) m.ensures.table_after
    (c.phase_of-phase.ensures ∙ ap (phase_words m.new.table) c.member-member.ensures))

-- The goals.

pub returns-in_err-line-clause-table_after : goal.returns-in_err-line-clause-table_after
returns-in_err-line-clause-table_after c =
    ap (λ s. s.table) (sym (step_malformed c.args.table.now c.args.line.now c.in_err-line.ensures))

pub returns-in_err-line-clause-step_held : goal.returns-in_err-line-clause-step_held
returns-in_err-line-clause-step_held c =
    rw (c.from_residual.ensures, step_malformed c.args.table.now c.args.line.now c.in_err-line.ensures) tt

pub phase_of-phase-requires : goal.phase_of-phase-requires
phase_of-phase-requires c =
    rw c.make_call-outcome.ensures.table_after (whole_after c.args.table.now (call_by c.in_ok-line.line) c.requires)

pub returns-clause-table_after : goal.returns-clause-table_after
returns-clause-table_after c =
    c.make_call-outcome.ensures.table_after
    ∙ ap (λ s. s.table) (sym (step_made c.args.table.now c.args.line.now c.in_ok-line.line c.in_ok-line.ensures))

pub returns-clause-step_held : goal.returns-clause-step_held
returns-clause-step_held c = held c

pub returns-clause-made : goal.returns-clause-made
returns-clause-made c = line_made c.args.table.now c.args.line.now (done c) c.requires (held c)
