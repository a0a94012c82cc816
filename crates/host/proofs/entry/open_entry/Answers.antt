-- `open_entry` meets its contract: it accepts the opening record, which becomes stored.
use borrow.Author.Tests.{eq-eqb}
use Prim.Native.Nat.{ℕ}
use mathlib.Core.Path.{◌≡◌, refl}
use mathlib.Core.Bool.{true}
use Rattle.model.specs.Records.{opening}
use Rattle.model.specs.Kinds.{becomes_stored}
use Rattle.model.specs.Board.{opening_entry}
use Rattle.laws.proofs.Records.{within_opening}
use Rattle.host.proofs.entry.open_entry.Goals as goal

stored_opening : (slot : ℕ) → becomes_stored (opening slot) ≡ true
unfolding becomes_stored opening
stored_opening slot = eq-eqb slot slot refl

pub returns-clause-after : goal.returns-clause-after
unfolding opening_entry
returns-clause-after c =
    let first = c.opening.ensures in
    rw (first, within_opening) at c.accept.ensures.after

pub returns-clause-after_2 : goal.returns-clause-after_2
unfolding opening_entry
returns-clause-after_2 c =
    let first = c.opening.ensures in
    rw (first, within_opening, stored_opening) at c.accept.ensures.after_2
