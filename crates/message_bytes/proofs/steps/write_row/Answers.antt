-- `write_row` meets its contract: i counts are written.
use mathlib.Core.Path.{sym}
use Rattle.lists.proofs.Functions.{pasted_none}
use Rattle.laws.proofs.Messages.{number_written_lem}
use Rattle.message_bytes.proofs.steps.write_row.Goals as goal

pub loop-i-init : goal.loop-i-init
loop-i-init c = sym (pasted_none _ _ _)

pub loop-i-preserved : goal.loop-i-preserved
loop-i-preserved c = let l = c.loop-i in number_written_lem _ _ l.i _ _ _ l.invariant c.write_number.ensures
