-- `read_record` meets its contract: each part is read where it stands in the record's bytes.
use mathlib.Core.Path.{sym}
use Rattle.laws.proofs.Messages.{record_from_parts}
use Rattle.records.specs.Meaning.{record_in}
use Rattle.message_bytes.proofs.steps.read_record.Goals as goal

pub returns : goal.returns
unfolding record_in
returns c =
    rw (
      c.wide.ensures,
      c.wide-2.ensures,
      c.wide-3.ensures,
      c.read_number-count.ensures,
      c.read_value-value.ensures,
      c.read_matrix-matrix.ensures,
    )
    (sym (record_from_parts _ _ _))
