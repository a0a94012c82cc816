-- `end_line` meets its contract: the first line, or a step on the part of the words that holds the table.
use Prim.Native.Nat.{ℕ, ◌+◌}
use mathlib.Core.Path.{◌≡◌, refl, sym, ap, ◌∙◌}
use mathlib.Core.List.{List}
use native.Mathlib.Omega.{arith}
use lib.ListN.{length, take}
use lib.Seq.{length-take-le}
use Rattle.model.specs.Kinds.{concur}
use Rattle.model.specs.Script.{step_line}
use Rattle.script_run.specs.Feeding.{ended, line_run, steps}
use Rattle.script_run.specs.Meaning.{Whole, state_of}
use Rattle.script_run.proofs.Held.{step_whole}
use Rattle.script_run.proofs.States.{line_first, line_step, ended-ran}
use Rattle.script_run.proofs.lines.end_line.Goals as goal
use Rattle.script_run.proofs.lines.end_line.Goals.{Else-step-eq0, Start}

-- What is known at each place, built on the place before.

-- the table that the state holds, and the line
abbrev lent : Start → List ℕ
lent s = take s.args.p.size s.args.table.now

abbrev line : Start → List ℕ
line s = take s.args.p.kept s.args.kept.now

lent_long : (s : Start) → length (lent s) ≡ s.args.p.size
lent_long s = let r = s.requires.0 in length-take-le s.args.p.size s.args.table.now (omega (arith, r.size, r.room))

whole : (c : Else-step-eq0) → Whole (lent (goal.at.Else-step-eq0 c).Start)
whole c =
    let n = c.if-step-eq0.false in
    c.requires.0.whole (omega arith) c.requires.1

-- The needs.

pub returns-then-step-eq0 : goal.returns-then-step-eq0
returns-then-step-eq0 c =
    let a = c.args in
    rw (line_first a.p a.table.now a.kept.now c.if-step-eq0.true) c.run_first.ensures

pub returns : goal.returns
returns c =
    let start = (goal.at.returns c).Start in
    let a = c.args in
    let r = c.run_line-done in
    let happened = (step_line concur (lent start) (line start)).happened in
    let e = line_step a.p a.table.now a.kept.now c.if-step-eq0.false
    ∙ ap (λ t. ended (a.p.step + 1) t (steps a.p.step happened)) (sym r.ensures.table_after) in
    let kept : Whole r.new.table = rw r.ensures.table_after
    (step_whole (lent start) (line start) (whole (goal.at.returns c).Else-step-eq0)) in
    ended-ran a.p a.table.now a.kept.now c.requires.0 (line_run concur (state_of a.p a.table.now a.kept.now)) _
    (a.p.step + 1) a.p.size r.new.table (r.auto.table ∙ lent_long start) c.requires.0.size kept (steps a.p.step happened) e refl
    (record { happened = happened; is = refl; held = r.ensures.step_held; made = r.ensures.made })
