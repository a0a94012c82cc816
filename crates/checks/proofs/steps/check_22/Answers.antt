-- `check_22` meets its contract: the two counts at each place are those of the definition.
use Prim.Native.Nat.{◌<◌}
use native.Mathlib.Omega.{arith}
use borrow.Author.Rules.{rules}
use Rattle.lists.specs.Functions.{Within}
use Rattle.model.specs.Member.{check22, entry22}
use Rattle.model.specs.Pairs.{otherwise, pairs22}
use Rattle.rows.specs.Meaning.{matrix_in}
use Rattle.checks.proofs.Matrices.{entry_22}
use Rattle.checks.proofs.steps.check_22.Goals as goal

pub returns : goal.returns
unfolding check22 pairs22
returns c =
    let a = c.args in
    let w : Within 12 a.slot = record { least = omega arith; most = omega arith } in
    let told = c.test_each.ensures (entry22 a.member a.slot (matrix_in a.known) (matrix_in a.newest)) (otherwise a.member 1)
    (λ k check h post. let s : k < 12 = omega arith in rw (← entry_22 a.known a.newest a.member a.slot k w s) (search rules)) in
    record { passed_value = told.0; pairs_value = told.1 }
