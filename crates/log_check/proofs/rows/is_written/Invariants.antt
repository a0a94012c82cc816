use Prim.Native.Nat.{ℕ, ◌<◌}
use Rattle.lists.specs.Parts.{words}
use Rattle.log_check.proofs.Values.{SameAt}
use Rattle.log_check.proofs.rows.is_written.Given as goal

abbrev pub invariant-loop-i : goal.invariant-loop-i
invariant-loop-i l = (j : ℕ) → j < l.i → SameAt (words l.log) l.value l.written j
