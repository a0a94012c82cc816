use Prim.Native.Nat.{◌-◌}
use mathlib.Core.Path.{◌≡◌}
use lib.ListN.{length}
use Rattle.script_run.specs.Meaning.{Ready, FedInto}
use Rattle.script_run.proofs.steps.feed.Given as goal

abbrev pub invariant-loop-taken : goal.invariant-loop-taken
invariant-loop-taken l =
    (FedInto l.initial.progress l.initial.table l.initial.kept l.bytes
    (record { progress = l.progress; taken = l.taken; written = l.at }) l.table l.kept l.out)
    × ((Ready l.initial.progress l.initial.table l.initial.kept) × (length l.out ≡ length l.initial.out))

abbrev pub decreases-loop-taken : goal.decreases-loop-taken
decreases-loop-taken l = length l.bytes - l.taken
