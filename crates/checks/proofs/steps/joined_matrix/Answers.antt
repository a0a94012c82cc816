-- `joined_matrix` meets its contract: the first j rows are the larger of known and newest. Assumes nothing.
use Prim.Native.Nat.{◌<◌, ◌-◌, min}
use mathlib.Core.Path.{◌≡◌, refl, sym, ap, ◌∙◌}
use native.Mathlib.Omega.{arith}
use lib.ListN.{get_or, length-set}
use Rattle.lists.specs.Functions.{put}
use Rattle.lists.proofs.Functions.{pasted_none}
use Rattle.lists.proofs.Parts.{seen_more}
use Rattle.model.specs.Rows.{zero_matrix}
use Rattle.model.proofs.Rows.{with_count_in}
use Rattle.rows.specs.Meaning.{row_in, matrix_in, no_row}
use Rattle.rows.proofs.Laws.{zero_rows, row_at}
use Rattle.checks.proofs.Matrices.{row_of, joined_rows}
use Rattle.checks.proofs.steps.joined_matrix.Invariants.{row}
use Rattle.checks.proofs.steps.joined_matrix.Goals as goal

pub loop-j-init : goal.loop-j-init
loop-j-init c = record { long = refl; rows = zero_rows ∙ sym (pasted_none 0 _ _) }

pub loop-j-preserved : goal.loop-j-preserved
loop-j-preserved c =
    let a = c.args in
    let l = c.loop-j in
    let m : min a.n 12 ≡ a.n = omega arith in
    let h : l.j < 12 = omega arith in
    record {
      long = simp length-set (omega arith);
      rows = seen_more row_in no_row l.matrix 0 l.j l.j c.larger.result (row a.n a.known a.newest) zero_matrix l.invariant.rows
          (omega arith) (omega arith) (rw (row_at a.known l.j h, row_at a.newest l.j h) (rw m at c.larger.ensures));
    }

pub returns : goal.returns
returns c =
    let a = c.args in
    let l = c.loop-j in
    let e : l.j ≡ a.n = omega arith in
    joined_rows l.matrix c.with.result a.n a.member a.slot a.count (matrix_in a.known) (matrix_in a.newest)
    (omega arith) (omega arith) (omega arith) l.invariant.long (rw e at l.invariant.rows)
    (c.with.ensures
    ∙ with_count_in 12 (row_in (get_or a.newest (a.slot - 1) no_row)) a.member a.count (omega arith) (omega arith)
    ∙ ap (λ r. put r a.member a.count) (sym (row_of a.newest a.slot (omega arith) (omega arith))))
