use mathlib.Core.Bool.{true}
use mathlib.Core.Path.{◌≡◌}
use Rattle.lists.specs.Functions.{each}
use Rattle.tables.proofs.Numbers.{sound_at}
use Rattle.tables.proofs.check.sound_blocks.Given as goal

abbrev pub invariant-loop-passed : goal.invariant-loop-passed
invariant-loop-passed l = each l.passed (sound_at l.n l.table) ≡ true
