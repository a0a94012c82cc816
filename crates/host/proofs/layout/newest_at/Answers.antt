-- `newest_at` meets its contract: the newest record stands behind the stored one.
use native.Mathlib.Omega.{arith}
use Rattle.model.specs.Table.{newest_at}
use Rattle.laws.proofs.Records.{record_size-small}
use Rattle.host.proofs.layout.newest_at.Goals as goal

pub overflow_add-result : goal.overflow_add-result
overflow_add-result c = omega (arith, record_size-small c.args.n c.requires)

pub returns : goal.returns
unfolding newest_at
returns c = omega arith
