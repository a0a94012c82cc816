-- `entry_size` meets its contract: two records behind the submit's two words.
use native.Mathlib.Omega.{arith}
use Rattle.model.specs.Table.{entry_size}
use Rattle.laws.proofs.Tables.{entry_small}
use Rattle.host.proofs.EntryWords.{sizes}
use Rattle.host.proofs.layout.entry_size.Goals as goal

pub overflow_add-result : goal.overflow_add-result
overflow_add-result c =
    let s = sizes c.args.n in
    omega (arith, entry_small c.args.n c.requires)

pub returns : goal.returns
unfolding entry_size
returns c = omega arith
