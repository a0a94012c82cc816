-- A call that is answered 0 is one of a member's: by the numbers that begin, deliver and crash answer.
use Prim.Native.Nat.{ℕ}
use mathlib.Core.Path.{◌≡◌, ap, subst, ◌∙◌}
use mathlib.Core.Bool.{true}
use mathlib.Core.List.{List}
use mathlib.Core.Option.{Option, none, some}
use native.Mathlib.Omega.{arith}
use Rattle.lists.specs.Functions.{inside}
use Rattle.lists.specs.Parts.{words}
use Rattle.lists.proofs.Functions.{inside_low, inside_high}
use Rattle.lists.proofs.Refusals.{no_number}
use Rattle.model.specs.Kinds.{concur}
use Rattle.model.specs.Board.{Board}
use Rattle.model.specs.Runs.{Call, begin, deliver, crash, answer_of}
use Rattle.model.specs.TableCalls.{board_in, call_number, table_answer, table_seen}
use Rattle.model.specs.Script.{line_call, caller, stepped, step_line}
use Rattle.model.proofs.Answers.{begin_taken, deliver_taken, crash_taken}
use Rattle.std.specs.Prelude.{Option as CodeOption, Some, None}
use Rattle.script.specs.Meaning.{line_member}
use Rattle.script_run.specs.Feeding.{Event}
use Rattle.script_run.specs.Meaning.{StepHeld, Made, EventsHeld, MadeIn, Whole}
use Rattle.script_run.specs.declared.Done.{Done}
use Rattle.script_run.specs.declared.Event.{Event as EventSeen}
use Rattle.script_run.specs.declared.Event.TheVariants.{Refused, Opened, Step as StepSeen}
use Rattle.script_run.proofs.Held.{caller_by}

answered_inside : (n : ℕ) (b : Board) (call : Call) → answer_of concur n b call ≡ 0 → inside n (caller call) ≡ true
unfolding answer_of caller
answered_inside n b (begin i r t v) h =
    let m = b.members i in (begin_taken concur n m.phase m.crashed (m.own r) i r t h).member
answered_inside n b (deliver i) h = let m = b.members i in (deliver_taken n m.phase m.crashed i h).member
answered_inside n b (crash i) h = let m = b.members i in crash_taken n m.phase m.crashed i h

table_inside : (l : List ℕ) (call : Call) → table_answer concur l call ≡ 0 → inside (words l 0) (caller call) ≡ true
unfolding table_answer
table_inside l call h = answered_inside (words l 0) (board_in l) call (no_number (call_number concur l call) h).1

call_made : (l : List ℕ) (call : Option Call) (d : Done) → Whole l → StepHeld (Some d) (stepped concur l call).happened → Made (Some d)
unfolding stepped table_seen
call_made l none d w h z = absurd h
call_made l (some call) d w h z =
    let e : inside (words l 0) (line_member d.line) ≡ true =
    subst (λ m. inside (words l 0) m ≡ true) (ap caller h.made ∙ caller_by d.line) (table_inside l call (h.answer ∙ z)) in
    let low = inside_low (words l 0) (line_member d.line) e in
    let high = inside_high (words l 0) (line_member d.line) e in
    record { least = low; most = omega (arith, w.most) }

pub line_made : (l line : List ℕ) (d : Done) → Whole l → StepHeld (Some d) (step_line concur l line).happened → Made (Some d)
unfolding step_line
line_made l line d w h = call_made l (line_call line) d w h

-- what is known of the step among events that are held
pub made_in : (e : CodeOption EventSeen) (l : List Event) → EventsHeld e l → MadeIn e
made_in None l h = tt
made_in (Some (Refused number)) l h = tt
made_in (Some (Opened n)) l h = tt
made_in (Some (StepSeen k d)) l h = h.2.made
