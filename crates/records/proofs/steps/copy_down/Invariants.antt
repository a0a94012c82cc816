use mathlib.Core.Path.{◌≡◌}
use Rattle.lists.specs.Functions.{from, pasted}
use Rattle.lists.specs.Parts.{words}
use Rattle.records.proofs.steps.copy_down.Given as goal

abbrev pub invariant-loop-i : goal.invariant-loop-i
invariant-loop-i l = words l.t ≡ pasted l.at l.i (from (words l.initial.t) l.source) (words l.initial.t)
