-- `concur_call_write` meets its contract: a message's length fits its word, and where the writer refuses it, no byte is
-- written.
use Rattle.std.proofs.Common.{arith}
use Rattle.test_calls.specs.Beside.{beside, beside_two}
use Rattle.test_calls.specs.Handed.{message_given}
use Rattle.test_calls.proofs.Laws.{one_stored, unwritten, written_small}
use Rattle.test_calls.proofs.wire.concur_call_write.Goals as goal

pub overflow_cast-written : goal.overflow_cast-written
overflow_cast-written c = grind (arith, written_small, c.in-Ok.ensures.length_value)

pub returns-in-Err-clause-written_after : goal.returns-in-Err-clause-written_after
unfolding beside beside_two message_given
returns-in-Err-clause-written_after c = grind (arith, one_stored, unwritten _ _ _ c.in-Err.refusal c.in-Err.ensures.number_value)
