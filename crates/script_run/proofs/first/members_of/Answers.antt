-- `members_of` meets its contract: the line is malformed, or its n is out of range, or there is a board of that size.
use mathlib.Core.Path.{◌≡◌, sym, ap, ◌∙◌}
use mathlib.Core.Option.{some}
use Rattle.lists.proofs.Functions.{inside_low, inside_high}
use Rattle.model.specs.Kinds.{concur}
use Rattle.model.specs.Script.{first_of}
use Rattle.script.proofs.Reading.{held_none, held_some}
use Rattle.script_run.specs.Feeding.{first_run}
use Rattle.script_run.proofs.States.{first_none, first_outside, first_inside}
use Rattle.script_run.proofs.first.members_of.Goals as goal
use Rattle.script_run.proofs.first.members_of.Goals.{In-Some}

well_formed : (c : In-Some) → first_of c.args.line.now ≡ some c.in-Some.n
well_formed c = held_some (first_of c.args.line.now) c.in-Some.n (sym c.in-Some.ensures)

pub returns-in_default-clause-ends : goal.returns-in_default-clause-ends
returns-in_default-clause-ends c table =
    ap (first_run concur table) (held_none (first_of c.args.line.now) (sym c.parse_members.ensures ∙ c.in_default.is)) ∙ first_none table

pub returns-then-not-is_numbered-clause-ends : goal.returns-then-not-is_numbered-clause-ends
returns-then-not-is_numbered-clause-ends c table =
    ap (first_run concur table) (well_formed (goal.at.returns-then-not-is_numbered-clause-ends c).In-Some)
    ∙ first_outside table c.in-Some.n (sym c.if-not-is_numbered.ensures)

pub returns-clause-ends : goal.returns-clause-ends
returns-clause-ends c table =
    ap (first_run concur table) (well_formed (goal.at.returns-clause-ends c).In-Some)
    ∙ first_inside table c.in-Some.n (sym c.if-not-is_numbered.ensures)

pub returns-clause-within : goal.returns-clause-within
returns-clause-within c =
    let e = sym c.if-not-is_numbered.ensures in
    record { least = inside_low 12 c.in-Some.n e; most = inside_high 12 c.in-Some.n e }
