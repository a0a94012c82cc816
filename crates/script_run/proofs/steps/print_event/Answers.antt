-- `print_event` meets its contract: by the event's cases.
use borrow.Author.Rules.{rules}
use native.Mathlib.Omega.{arith}
use Rattle.script.proofs.Printing.{board_short, refused_short}
use Rattle.script_run.proofs.Held.{nothing_shown, refused_shown, opened_shown, stepped_shown, wrote, wrote_nothing}
use Rattle.script_run.proofs.steps.print_event.Goals as goal

pub returns-in_default : goal.returns-in_default
returns-in_default c l h =
    rw (nothing_shown l (rw c.in_default.is at h)) (wrote_nothing c.args.out.now c.args.at (omega (arith, c.requires)))

pub returns-in-Refused : goal.returns-in-Refused
returns-in-Refused c l h =
    rw (refused_shown c.in-Refused.number l (rw (c.in-Some.is, c.in-Refused.is) at h))
    (wrote (search rules) (omega (arith, c.requires, refused_short c.in-Refused.number (search rules))))

pub returns-in-Opened : goal.returns-in-Opened
returns-in-Opened c l h =
    rw (opened_shown c.in-Opened.n l (rw (c.in-Some.is, c.in-Opened.is) at h))
    (wrote (search rules) (omega (arith, c.requires, board_short c.in-Opened.n (search rules))))

pub returns-in-Step : goal.returns-in-Step
returns-in-Step c l h =
    let held = (rw (c.in-Some.is, c.in-Step.is) at h) in
    rw (stepped_shown c.in-Step.number c.in-Step.done l held) (c.print_step.ensures held.2.happened held.2.held)
