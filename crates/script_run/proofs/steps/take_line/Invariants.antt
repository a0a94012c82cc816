use Prim.Native.Nat.{ℕ, ◌≤◌}
use mathlib.Core.Path.{◌≡◌}
use mathlib.Core.List.{List}
use lib.ListN.{take}
use Rattle.model.specs.Kinds.{concur}
use Rattle.model.specs.Script.{most_steps}
use Rattle.script_run.specs.Feeding.{silent, fed}
use Rattle.script_run.specs.Meaning.{state_of, Ready}
use Rattle.script_run.specs.declared.Progress.{Progress}
use Rattle.script_run.proofs.steps.take_line.Given as goal

-- the bytes taken so far: none ended a line, and what is kept of it is held
pub record Upto (p : Progress) (table kept bytes : List ℕ) (line : Progress) (taken : ℕ) (table' kept' : List ℕ) : Type 0 where
  pub ready : Ready line table' kept'
  pub going : line.step ≤ most_steps
  pub held : fed concur (state_of p table kept) (take taken bytes) ≡ silent (state_of line table' kept')

abbrev pub invariant-loop-i : goal.invariant-loop-i
invariant-loop-i l = Upto l.initial.line l.initial.table l.initial.kept l.bytes l.line l.i l.table l.kept
