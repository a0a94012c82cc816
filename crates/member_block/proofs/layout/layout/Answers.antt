-- `layout` meets its contract: the parts follow each other, and of 12 members none is large.
use native.Mathlib.Omega.{arith}
use mathlib.Core.Path.{refl}
use Rattle.model.specs.Table.{accepted_at, block_size, first_at, known_at, last_at, pending_at, second_at}
use Rattle.laws.proofs.Records.{record_size-small, square_small}
use Rattle.member_block.proofs.layout.layout.Goals as goal

pub overflow_add-second : goal.overflow_add-second
overflow_add-second c =
    record { fits = omega (arith, square_small c.args.n c.requires, record_size-small c.args.n c.requires, c.record_size.ensures) }

pub overflow_add-size : goal.overflow_add-size
overflow_add-size c =
    let first = c.record_size.ensures in
    record { fits = omega (arith, square_small c.args.n c.requires, record_size-small c.args.n c.requires, c.record_size-2.ensures) }

pub returns : goal.returns
unfolding accepted_at last_at pending_at known_at first_at second_at block_size
returns c = record { accepted = refl; last = refl; pending = refl; known = refl; first = refl; second = omega arith; size = omega arith }
