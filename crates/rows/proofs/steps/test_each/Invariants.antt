use Prim.Native.Nat.{ℕ, ◌≤◌, ◌<◌, ◌*◌}
use mathlib.Core.Bool.{Bool, true}
use mathlib.Core.Path.{◌≡◌}
use Rattle.laws.proofs.Tests.{Walked}
use Rattle.rows.specs.declared.Check.{Check}
use Rattle.rows.specs.Tested.{Tells}
use Rattle.rows.proofs.steps.test_each.Given as goal

-- each place so far passed, whatever its answer is said to tell
abbrev pub invariant-loop-k : goal.invariant-loop-k
invariant-loop-k g l = record {
  passed : l.found.passed ≡ true;
  few : l.found.pairs ≤ 12 * l.k;
  walked : (test : ℕ → Bool) (cost : ℕ → ℕ) → ((k : ℕ) (c : Check) → k < l.n → goal.F-post g l.test k c → Tells test cost k c)
      → Walked test cost 12 l.k l.found.pairs;
}
