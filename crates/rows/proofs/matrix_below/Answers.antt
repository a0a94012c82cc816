-- `matrix_below` meets its contract: the rows are tested in turn, each by `row_below`.
use Prim.Native.Nat.{◌<◌, min}
use native.Mathlib.Omega.{arith}
use borrow.Author.Rules.{rules}
use Rattle.model.specs.Pairs.{row25, row_pairs25}
use Rattle.model.specs.Rows.{matrix_below}
use Rattle.rows.specs.Meaning.{matrix_in}
use Rattle.rows.proofs.Laws.{row_at}
use Rattle.rows.proofs.matrix_below.Goals as goal

pub returns : goal.returns
unfolding matrix_below row_pairs25
returns c =
    let a = c.args in
    let n = min a.n 12 in
    let told = c.test_each.ensures (row25 n (matrix_in a.a) (matrix_in a.b)) (λ j. n)
    (λ k check h post. let s : k < 12 = omega arith in rw (row_at a.a k s, row_at a.b k s) (search rules)) in
    let e = c.min.ensures in
    record { passed_value = rw e at told.0; pairs_value = rw e at told.1 }
