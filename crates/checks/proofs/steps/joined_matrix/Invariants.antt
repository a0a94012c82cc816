use Prim.Native.Nat.{ℕ, ◌+◌}
use mathlib.Core.Path.{◌≡◌}
use mathlib.Core.List.{List}
use lib.ListN.{length}
use Rattle.lists.specs.Functions.{pasted}
use Rattle.lists.proofs.Parts.{seen}
use Rattle.model.specs.Rows.{zero_matrix, larger}
use Rattle.rows.specs.declared.Row.{Row}
use Rattle.rows.specs.Meaning.{row_in, matrix_in, no_row}
use Rattle.checks.proofs.steps.joined_matrix.Given as goal

abbrev pub row : ℕ → List Row → List Row → ℕ → ℕ → ℕ
row n known newest j = larger n (matrix_in known (j + 1)) (matrix_in newest (j + 1))

abbrev pub invariant-loop-j : goal.invariant-loop-j
invariant-loop-j l = record {
  long : length l.matrix ≡ 12;
  rows : seen row_in no_row l.matrix ≡ pasted 0 l.j (row l.n l.known l.newest) zero_matrix;
}
