use mathlib.Core.Bool.{true}
use mathlib.Core.Path.{◌≡◌}
use Rattle.lists.specs.Functions.{each}
use Rattle.host.proofs.Lent.{sound_slot}
use Rattle.host.proofs.steps.sound_entries.Given as goal

abbrev pub invariant-loop-passed : goal.invariant-loop-passed
invariant-loop-passed l = each l.passed (sound_slot l.n l.entries) ≡ true
