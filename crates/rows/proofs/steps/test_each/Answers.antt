-- `test_each` meets its contract: where each answer tells a test and a cost, the loop walks by them.
use mathlib.Core.Path.{◌∙◌}
use native.Mathlib.Omega.{arith}
use borrow.Author.Rules.{rules}
use Rattle.laws.proofs.Tests.{walk_starts, walks-on, walk-stops, walk_ends}
use Rattle.rows.proofs.steps.test_each.Goals as goal

pub loop-k-init : goal.loop-k-init
loop-k-init g c =
    let none = c.skipped-found.ensures in
    record { passed = none.0; few = omega arith; walked = λ test cost tells. rw none.1 (walk_starts test cost 12) }

pub loop-k-preserved : goal.loop-k-preserved
loop-k-preserved g c =
    let few = c.requires.few c.loop-k.k c.test-check.result (omega arith) c.test-check.ensures in
    record {
      passed = c.loop-k.invariant.passed;
      few = omega (arith, few);
      walked = λ test cost tells.
          let told = tells c.loop-k.k c.test-check.result (omega arith) c.test-check.ensures in
          walks-on test cost 12 (c.loop-k.invariant.walked test cost tells) told.0 told.1 (omega (arith, few, told.1)) (search rules);
    }

pub returns-then-not-check : goal.returns-then-not-check
returns-then-not-check g c test cost tells =
    let told = tells c.loop-k.k c.test-check.result (omega arith) c.test-check.ensures in
    walk-stops test cost 12 (c.loop-k.invariant.walked test cost tells) told.0 told.1 c.args.n (omega arith) (search rules)

pub returns : goal.returns
returns g c test cost tells =
    let all = walk_ends test cost 12 (c.loop-k.invariant.walked test cost tells) (omega arith) in
    (c.loop-k.invariant.passed ∙ all.0, all.1)
