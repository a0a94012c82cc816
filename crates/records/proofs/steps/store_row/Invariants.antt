use mathlib.Core.Path.{◌≡◌}
use Prim.Native.Nat.{min}
use Rattle.lists.specs.Functions.{pasted}
use Rattle.lists.specs.Parts.{words}
use Rattle.records.proofs.steps.store_row.Given as goal

abbrev pub invariant-loop-i : goal.invariant-loop-i
invariant-loop-i l = words l.t ≡ pasted l.at (min l.i l.n) (words l.row.counts) (words l.initial.t)
