-- `concur_bench_read` meets its contract: the sum is that of the counts which the reader read.
use Rattle.std.proofs.Common.{ap, sym}
use Rattle.model.specs.Records.{zero_record}
use Rattle.records.specs.Meaning.{record_in}
use Rattle.messages.specs.Meaning.{fields_of}
use Rattle.test_calls.specs.Counts.{both_counts}
use Rattle.test_calls.proofs.Laws.{unread}
use Rattle.test_calls.proofs.timed.concur_bench_read.Goals as goal

pub returns-in-Ok : goal.returns-in-Ok
unfolding both_counts record_in
returns-in-Ok c = ap both_counts c.in-Ok.ensures.fields_value

pub returns-in-Err : goal.returns-in-Err
unfolding both_counts fields_of zero_record
returns-in-Err c = ap (λ m. both_counts (fields_of m)) (sym (unread _ _ c.in-Err.field-0 c.in-Err.ensures.number_value))
