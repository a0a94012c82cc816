-- `host_size` meets its contract: n entries of one size.
use Prim.Native.Nat.{◌*◌, ◌≤◌}
use native.Mathlib.Omega.{arith}
use Rattle.model.specs.Table.{host_size}
use Rattle.host.proofs.EntryWords.{host_small}
use Rattle.host.proofs.steps.host_size.Goals as goal

pub overflow_mul-result : goal.overflow_mul-result
unfolding host_size
overflow_mul-result c =
    let h : c.args.n * c.entry_size.result ≤ 3768 = rw c.entry_size.ensures
    (host_small c.args.n c.requires) in
    omega arith

pub returns : goal.returns
unfolding host_size
returns c = rw c.entry_size.ensures
