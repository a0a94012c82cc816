-- `check_26` meets its contract: the two rows at each place are those of the definition.
use Prim.Native.Nat.{◌<◌}
use native.Mathlib.Omega.{arith}
use borrow.Author.Rules.{rules}
use Rattle.model.specs.Member.{check26, row26}
use Rattle.model.specs.Pairs.{otherwise, pairs26}
use Rattle.rows.specs.Meaning.{matrix_in}
use Rattle.checks.proofs.Matrices.{row_26}
use Rattle.checks.proofs.steps.check_26.Goals as goal

pub returns : goal.returns
unfolding check26 pairs26
returns c =
    let a = c.args in
    let told = c.test_each.ensures (row26 a.n a.slot (matrix_in a.known) (matrix_in a.newest)) (otherwise a.slot a.n)
    (λ k check h post. let s : k < 12 = omega arith in rw (← row_26 a.known a.newest a.n a.slot k (omega arith) s) (search rules)) in
    record { passed_value = told.0; pairs_value = told.1 }
