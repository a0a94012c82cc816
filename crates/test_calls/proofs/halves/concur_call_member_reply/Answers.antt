-- `concur_call_member_reply` meets its contract: where the half refuses the reply, no pairs of counts were compared.
use Rattle.std.proofs.Common.{arith}
use Rattle.test_calls.specs.Beside.{beside, beside_two}
use Rattle.test_calls.specs.Handed.{record_given}
use Rattle.test_calls.proofs.Laws.{one_stored, uncompared}
use Rattle.test_calls.proofs.halves.concur_call_member_reply.Goals as goal

pub returns-in-Err-clause-pairs_after : goal.returns-in-Err-clause-pairs_after
unfolding beside beside_two record_given
returns-in-Err-clause-pairs_after c = grind (arith, one_stored, uncompared _ _ _ _ _ _ c.in-Err.refusal c.in-Err.ensures.number_value)
