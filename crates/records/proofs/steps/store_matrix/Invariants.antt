use Prim.Native.Nat.{◌*◌}
use mathlib.Core.Path.{◌≡◌}
use Rattle.lists.specs.Functions.{pasted}
use Rattle.lists.specs.Parts.{words}
use Rattle.model.specs.RecordWords.{matrix_word}
use Rattle.rows.specs.Meaning.{matrix_in}
use Rattle.records.proofs.steps.store_matrix.Given as goal

abbrev pub invariant-loop-j : goal.invariant-loop-j
invariant-loop-j l = words l.t ≡ pasted l.at (l.j * l.n) (matrix_word l.n (matrix_in l.matrix)) (words l.initial.t)
