-- `last_line` meets its contract: the script is over, or no line has begun, or the one that has is ended.
use mathlib.Core.Path.{◌≡◌, sym, ◌∙◌}
use mathlib.Core.Bool.{cond}
use mathlib.Core.List.{[]}
use native.Mathlib.Omega.{arith}
use borrow.Author.Tests.{ltb-false}
use Prim.Native.Nat.{◌≤◌}
use Rattle.model.specs.Kinds.{concur}
use Rattle.model.specs.Script.{most_steps}
use Rattle.script_run.specs.Feeding.{State, line_run, last_events}
use Rattle.script_run.specs.Meaning.{state_of}
use Rattle.script_run.proofs.Streams.{over_last}
use Rattle.script_run.proofs.States.{last_begun_lem}
use Rattle.script_run.proofs.steps.last_line.Goals as goal
use Rattle.script_run.proofs.steps.last_line.Goals.{After-begun, Else-is_over, Start}

-- What is known at each place, built on the place before.

abbrev state : Start → State
state s = state_of s.args.p s.args.table.now s.args.kept.now

going : (c : Else-is_over) → c.args.p.step ≤ most_steps
unfolding state_of
going c =
    let a = c.args in
    ltb-false most_steps a.p.step (sym (c.is_over.ensures a.table.now a.kept.now) ∙ c.if-is_over.false)

-- the events are those of the line's end if it has begun
events : (c : After-begun)
    → last_events concur (state (goal.at.After-begun c).Start) ≡ cond c.begun.result
    (line_run concur (state (goal.at.After-begun c).Start)).events []
events c =
    let a = c.args in
    last_begun_lem a.p a.table.now a.kept.now (going (goal.at.After-begun c).Else-is_over)
    (omega (arith, c.requires.line, c.requires.keeps)) c.begun.result
    c.begun.ensures

-- The needs.

pub returns-then-is_over : goal.returns-then-is_over
returns-then-is_over c =
    let a = c.args in
    over_last concur (state (goal.at.returns-then-is_over c).Start) (sym (c.if-is_over.ensures a.table.now a.kept.now))

pub returns-then-not-begun : goal.returns-then-not-begun
returns-then-not-begun c = rw (events (goal.at.returns-then-not-begun c).After-begun, c.if-not-begun.true)

pub end_line-requires : goal.end_line-requires
end_line-requires c =
    (c.requires, going (goal.at.end_line-requires c).Else-is_over)

pub returns : goal.returns
returns c =
    rw (events (goal.at.returns c).After-begun, c.if-not-begun.false)
    c.end_line.ensures.events
