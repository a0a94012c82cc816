-- `write_matrix` meets its contract: j rows are written.
use Prim.Native.Nat.{◌+◌, ◌*◌}
use mathlib.Core.Path.{sym, ap, ◌∙◌}
use native.Mathlib.Omega.{arith}
use native.Mathlib.Nat.{zero-mul}
use Rattle.lists.specs.Functions.{pasted}
use Rattle.lists.specs.Parts.{words}
use Rattle.lists.proofs.Functions.{pasted_none}
use Rattle.message_bytes.proofs.Laws.{row_written}
use Rattle.message_bytes.proofs.steps.write_matrix.Goals as goal

pub loop-j-init : goal.loop-j-init
loop-j-init c = rw zero-mul (sym (pasted_none _ _ _))

pub loop-j-preserved : goal.loop-j-preserved
loop-j-preserved c =
    let a = c.args in
    let l = c.loop-j in
    c.write_row.ensures
    ∙ ap (pasted (a.at + l.j * a.n * 4) (a.n * 4) _) l.invariant
    ∙ row_written a.matrix a.n l.j a.at (words a.t.now) (omega arith) (omega arith)
