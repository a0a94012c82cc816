-- `print_step` meets its contract: the line printed of the done step's parts is what a step that it holds prints.
use borrow.Author.Rules.{rules}
use Prim.Native.Nat.{ℕ, ◌≤◌, ◌+◌}
use mathlib.Core.Path.{◌≡◌, sym, ap, ◌∙◌}
use native.Mathlib.Omega.{arith}
use mathlib.Core.Bool.{cond}
use mathlib.Core.Option.{none, some}
use lib.Dec.{eqb}
use lib.ListN.{length}
use Rattle.std.specs.Prelude.{None}
use Rattle.model.specs.Script.{last_word, printed_line}
use Rattle.script.specs.Meaning.{given}
use Rattle.script.proofs.Printing.{line_short}
use Rattle.member_block.specs.Results.{returned_in}
use Rattle.script_run.proofs.Held.{malformed_shown, step_shown, wrote}
use Rattle.script_run.proofs.steps.print_step.Goals as goal
use Rattle.script_run.proofs.steps.print_step.Goals.{After-number, After-returned_word-word}

-- The lines that are printed are short.

malformed_room : (c : After-number)
    → c.args.at + length (printed_line c.args.step c.number.result (given None) (given None)) ≤ length c.args.out.now
malformed_room c = omega (arith, line_short c.args.step c.number.result None None (search rules) (search rules) tt tt, c.requires)

room : (c : After-returned_word-word)
    → c.args.at + length
    (printed_line c.args.step c.answer-answer.result (given c.shown_phase-phase.result) (given c.returned_word-word.result))
    ≤ length c.args.out.now
room c =
    omega (
      arith,
      line_short c.args.step c.answer-answer.result c.shown_phase-phase.result c.returned_word-word.result (search rules) (search rules)
          (search rules) (search rules),
      c.requires,
    )

-- The goals.

pub print_line-requires : goal.print_line-requires
print_line-requires c = malformed_room (goal.at.print_line-requires c).After-number

pub returns-in_default : goal.returns-in_default
returns-in_default c s h =
    rw (malformed_shown c.args.step s (rw c.in_default.is at h), sym c.number.ensures)
    (wrote c.print_line.ensures (malformed_room (goal.at.returns-in_default c).After-number))

pub print_line-requires-2 : goal.print_line-requires-2
print_line-requires-2 c = room (goal.at.print_line-requires-2 c).After-returned_word-word

pub returns : goal.returns
returns c s h =
    let k = c.args.step in
    let answer = c.answer-answer.result in
    let phase = c.in-Some.done.phase in
    let word = last_word (returned_in c.in-Some.done.returned) in
    let parts : printed_line k answer (given c.shown_phase-phase.result) (given c.returned_word-word.result)
    ≡ printed_line k answer (cond (eqb answer 4) none (some phase)) word = λ i.
    printed_line k answer (c.shown_phase-phase.ensures i) (c.returned_word-word.ensures i) in
    let numbered = ap (λ (n : ℕ). printed_line k n (cond (eqb n 4) none (some phase)) word) c.answer-answer.ensures in
    rw (step_shown k c.in-Some.done s (rw c.in-Some.is at h) ∙ sym (parts ∙ numbered))
    (wrote c.print_line-2.ensures (room (goal.at.returns c).After-returned_word-word))
