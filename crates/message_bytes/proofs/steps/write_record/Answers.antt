-- `write_record` meets its contract: three bytes, the count, the value and the matrix are written one after the other, and none of it
-- changes the output's length.
use Rattle.message_bytes.proofs.Laws.{record_written}
use Rattle.message_bytes.proofs.steps.write_record.Goals as goal

pub returns : goal.returns
returns c =
    let a = c.args in
    record_written a.n a.r a.t.now a.at c.requires.1.0 c.write_number.new.t c.write_value.new.t
    c.write_matrix.new.t c.write_number.ensures c.write_value.ensures c.write_matrix.ensures
