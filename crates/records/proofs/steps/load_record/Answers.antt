-- `load_record` meets its contract: the four numbers, the value and the matrix are read from their places.
use mathlib.Core.Path.{sym}
use Rattle.lists.specs.Parts.{words}
use Rattle.laws.proofs.Records.{record_of_parts}
use Rattle.records.specs.Meaning.{record_in}
use Rattle.records.proofs.steps.load_record.Goals as goal

pub returns : goal.returns
unfolding record_in
returns c =
    let a = c.args in
    rw (c.load_value-value.ensures, c.load_matrix-matrix.ensures)
    (sym (record_of_parts a.n (words a.t.now) a.at))
