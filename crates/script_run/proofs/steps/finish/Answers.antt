-- `finish` meets its contract: what is printed of the last event stands at the front of the output.
use native.Mathlib.Omega.{arith}
use Rattle.model.specs.Kinds.{concur}
use Rattle.script_run.specs.Feeding.{last_events}
use Rattle.script_run.specs.Meaning.{state_of}
use Rattle.script_run.proofs.Held.{wrote_front}
use Rattle.script_run.proofs.steps.finish.Goals as goal

pub returns : goal.returns
returns c =
    let a = c.args in
    let w = c.print_event.ensures (last_events concur (state_of a.p a.table.now a.kept.now)) c.last_line.ensures in
    record { room = w.room; printed = wrote_front w (omega arith) }
