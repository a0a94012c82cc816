-- `open_all` meets its contract: the words before the host's are cleared, n is written, and the host's part is lent and comes back opened.
use lib.ListN.{set}
use Rattle.tables.specs.Needs.{Table}
use Rattle.tables.proofs.Lent.{HostLent, host_lent}
use Rattle.tables.proofs.Opened.{some, sized_table, open-left}
use Rattle.tables.proofs.steps.open_all.Goals as goal
use Rattle.tables.proofs.steps.open_all.Goals.{After-clear}

-- What is known at each place, built on the place before.

-- with n written the table is whole, whichever words are zero
table : (c : After-clear) → let n = c.args.n in Table n (set c.clear.new.t 0 n)
table c =
    sized_table c.args.n c.args.table.now c.requires.0 c.requires.1.0 c.requires.1.1 c.clear.new.t c.clear.auto.t

lent : (c : After-clear) → let n = c.args.n in
    HostLent n (set c.clear.new.t 0 n) c.host_at-host.result c.host_size.result
lent c = host_lent (table c) c.host_at-host.ensures c.host_size.ensures

-- The needs.

pub bounds-table-0 : goal.bounds-table-0
bounds-table-0 c =
    some c.args.n c.args.table.now c.requires.0 c.requires.1.0 c.requires.1.1 c.clear.new.t c.clear.auto.t

pub returns : goal.returns
returns c =
    open-left c.args.n c.args.table.now c.requires.0 c.requires.1.0 c.requires.1.1 c.clear.new.t c.clear.auto.t
    c.host_at-host.ensures.begins c.clear.ensures (lent (goal.at.returns c).After-clear)
    c.open.new.entries c.open.auto.entries c.open.ensures.entries_after c.open.ensures.entries_after_2
