-- `check_27` meets its contract: the two counts at each place are those of the definition.
use Prim.Native.Nat.{◌<◌}
use native.Mathlib.Omega.{arith}
use borrow.Author.Rules.{rules}
use Rattle.lists.specs.Functions.{Within}
use Rattle.model.specs.Member.{check27, row27}
use Rattle.model.specs.Pairs.{otherwise, pairs27}
use Rattle.rows.specs.Meaning.{row_in, matrix_in}
use Rattle.checks.proofs.Matrices.{row_27}
use Rattle.checks.proofs.steps.check_27.Goals as goal

pub returns : goal.returns
unfolding check27 pairs27
returns c =
    let a = c.args in
    let w : Within 12 a.member = record { least = omega arith; most = omega arith } in
    let told = c.test_each.ensures (row27 a.member a.slot (row_in a.accepted) (matrix_in a.newest)) (otherwise a.slot 1)
    (λ k check h post. let s : k < 12 = omega arith in rw (← row_27 a.accepted a.newest a.member a.slot k w s) (search rules)) in
    record { passed_value = told.0; pairs_value = told.1 }
