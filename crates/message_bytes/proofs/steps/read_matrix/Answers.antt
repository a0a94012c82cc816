-- `read_matrix` meets its contract: the first j rows are those passed, the others zero.
use Prim.Native.Nat.{ℕ, ◌*◌}
use mathlib.Core.Path.{◌≡◌, refl, sym, ap, ◌∙◌}
use native.Mathlib.Omega.{arith}
use lib.ListN.{length-set}
use Rattle.lists.specs.Functions.{from}
use Rattle.lists.specs.Parts.{words}
use Rattle.lists.proofs.Functions.{pasted_none, from_from}
use Rattle.lists.proofs.Parts.{seen_more}
use Rattle.model.specs.Rows.{zero_matrix}
use Rattle.model.specs.RecordWords.{row_of, matrix_of}
use Rattle.model.specs.Messages.{number_in}
use Rattle.laws.proofs.Messages.{number_in_from}
use Rattle.rows.specs.Meaning.{row_in, no_row}
use Rattle.rows.proofs.Laws.{zero_rows, matrix_read}
use Rattle.message_bytes.proofs.steps.read_matrix.Invariants.{row}
use Rattle.message_bytes.proofs.steps.read_matrix.Goals as goal

pub loop-j-init : goal.loop-j-init
loop-j-init c = record { long = refl; read = zero_rows ∙ sym (pasted_none 0 _ _) }

pub loop-j-preserved : goal.loop-j-preserved
loop-j-preserved c =
    let a = c.args in
    let l = c.loop-j in
    let w : ℕ → ℕ = words a.s.now in
    let this : row_in c.read_row.result ≡ row a.n (from w a.at) l.j =
    c.read_row.ensures
    ∙ ap (λ f. row_of a.n (number_in f)) (sym (from_from w a.at (l.j * a.n * 4)))
    ∙ ap (row_of a.n) (sym (number_in_from (from w a.at) (l.j * a.n))) in
    record {
      long = simp length-set (omega arith);
      read = seen_more row_in no_row l.matrix 0 l.j l.j c.read_row.result (row a.n (from w a.at)) zero_matrix
          l.invariant.read (omega arith) (omega arith) this;
    }

pub returns : goal.returns
unfolding matrix_of
returns c =
    let a = c.args in
    let l = c.loop-j in
    let e : l.j ≡ a.n = omega arith in
    matrix_read l.matrix a.n (row a.n (from (words a.s.now) a.at)) (omega arith) (rw e at l.invariant.read)
