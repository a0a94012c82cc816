use mathlib.Core.Path.{◌≡◌}
use Rattle.lists.specs.Functions.{pasted}
use Rattle.lists.specs.Parts.{words}
use Rattle.records.proofs.steps.store_value.Given as goal

abbrev pub invariant-loop-i : goal.invariant-loop-i
invariant-loop-i l = words l.t ≡ pasted l.at l.i (words l.value) (words l.initial.t)
