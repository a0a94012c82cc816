-- `sound_host` meets its contract: the entries are lent, and are sound where the board's are.
use mathlib.Core.Path.{◌∙◌}
use Rattle.tables.proofs.Lent.{HostLent, host_lent, sound_lent}
use Rattle.tables.proofs.check.sound_host.Goals as goal
use Rattle.tables.proofs.check.sound_host.Goals.{After-host_size}

lent : (c : After-host_size) → HostLent c.args.n c.args.table.now c.host_at-at.result c.host_size.result
lent c = host_lent c.requires c.host_at-at.ensures c.host_size.ensures

pub returns : goal.returns
returns c = c.sound_entries.ensures ∙ sound_lent (lent (goal.at.returns c).After-host_size)
