use Prim.Native.Nat.{◌*◌}
use mathlib.Core.Path.{◌≡◌}
use lib.ListN.{length}
use Rattle.lists.specs.Functions.{from, pasted}
use Rattle.lists.specs.Parts.{words}
use Rattle.lists.proofs.Parts.{seen}
use Rattle.model.specs.Rows.{zero_matrix}
use Rattle.model.specs.RecordWords.{row_of}
use Rattle.rows.specs.Meaning.{row_in, no_row}
use Rattle.records.proofs.steps.load_matrix.Given as goal

abbrev pub invariant-loop-j : goal.invariant-loop-j
invariant-loop-j l = record {
  long : length l.matrix ≡ 12;
  read : seen row_in no_row l.matrix ≡ pasted 0 l.j (λ k. row_of l.n (from (from (words l.t) l.at) (k * l.n))) zero_matrix;
}
