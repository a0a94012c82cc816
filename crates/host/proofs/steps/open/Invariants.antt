use mathlib.Core.Path.{◌≡◌}
use lib.ListN.{length}
use Rattle.lists.specs.Parts.{words}
use Rattle.model.specs.Board.{opening_entry}
use Rattle.model.specs.Records.{opening}
use Rattle.model.specs.Table.{host_of, host_size, stored_records_of}
use Rattle.host.proofs.Slots.{Agree}
use Rattle.host.proofs.steps.open.Given as goal

abbrev pub invariant-loop-done : goal.invariant-loop-done
invariant-loop-done l =
    (length l.entries ≡ host_size l.n)
    × ((Agree l.done (host_of l.n (words l.entries)) opening_entry)
    × (Agree l.done (stored_records_of l.n (words l.entries)) opening))
