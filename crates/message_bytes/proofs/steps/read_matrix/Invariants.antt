use Prim.Native.Nat.{ℕ, ◌*◌}
use mathlib.Core.Path.{◌≡◌}
use lib.ListN.{length}
use Rattle.lists.specs.Functions.{from, pasted}
use Rattle.lists.specs.Parts.{words}
use Rattle.lists.proofs.Parts.{seen}
use Rattle.model.specs.Rows.{Row, zero_matrix}
use Rattle.model.specs.RecordWords.{row_of}
use Rattle.model.specs.Messages.{number_in}
use Rattle.rows.specs.Meaning.{row_in, no_row}
use Rattle.message_bytes.proofs.steps.read_matrix.Given as goal

-- row k of the matrix in the bytes b
abbrev pub row : ℕ → (ℕ → ℕ) → ℕ → Row
row n b k = row_of n (from (number_in b) (k * n))

abbrev pub invariant-loop-j : goal.invariant-loop-j
invariant-loop-j l = record {
  long : length l.matrix ≡ 12;
  read : seen row_in no_row l.matrix ≡ pasted 0 l.j (row l.n (from (words l.s) l.at)) zero_matrix;
}
