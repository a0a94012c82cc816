use Prim.Native.Nat.{◌*◌}
use mathlib.Core.Path.{◌≡◌}
use Rattle.lists.specs.Functions.{pasted}
use Rattle.lists.specs.Parts.{words}
use Rattle.model.specs.RecordWords.{matrix_word}
use Rattle.model.specs.Messages.{byte_in}
use Rattle.rows.specs.Meaning.{matrix_in}
use Rattle.message_bytes.proofs.steps.write_matrix.Given as goal

abbrev pub invariant-loop-j : goal.invariant-loop-j
invariant-loop-j l = words l.t ≡ pasted l.at (l.j * l.n * 4) (byte_in (matrix_word l.n (matrix_in l.matrix))) (words l.initial.t)
