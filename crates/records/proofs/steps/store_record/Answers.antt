-- `store_record` meets its contract: the four numbers, the value and the matrix are stored one after the other.
use mathlib.Core.Path.{◌∙◌}
use native.Mathlib.Omega.{arith}
use lib.ListN.{length-set}
use Rattle.records.proofs.Laws.{record_stored}
use Rattle.records.proofs.steps.store_record.Goals as goal

pub returns : goal.returns
returns c =
    let a = c.args in
    record_stored a.n a.r a.t.now a.at (omega arith)
    c.store_value.new.t c.store_matrix.new.t
    c.store_value.ensures
    c.store_matrix.ensures
    (c.store_matrix.auto.t
    ∙ (simp length-set at c.store_value.auto.t))
