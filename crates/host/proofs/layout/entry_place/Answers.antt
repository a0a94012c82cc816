-- `entry_place` meets its contract: the entries lie one after the other, and all of them are at most 3,768 words.
use Prim.Native.Nat.{◌-◌, ◌≤◌}
use native.Mathlib.Omega.{arith}
use mathlib.Core.Path.{refl}
use Rattle.lists.specs.Pieces.{place}
use Rattle.lists.proofs.Pieces.{few_pieces, place_room}
use Rattle.model.specs.Table.{host_size}
use Rattle.laws.proofs.Tables.{entry_small}
use Rattle.host.proofs.EntryWords.{host_small}
use Rattle.host.proofs.layout.entry_place.Goals as goal

pub overflow_mul-result : goal.overflow_mul-result
overflow_mul-result c =
    let small = few_pieces (let p : c.args.slot - 1 ≤ 12 = omega arith in p) c.entry_size.ensures
    (entry_small _ c.requires.0) in
    omega arith

pub returns : goal.returns
unfolding place host_size
returns c =
    rw c.entry_size.ensures
    (record {
      begins = refl;
      ends = place_room _ c.args.n c.args.slot c.requires.1.0 c.requires.1.1;
      small = host_small c.args.n c.requires.0;
    })
