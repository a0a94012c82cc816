-- `write_submit` meets its contract: the heading, two bytes and the count are written one behind the other.
use Prim.Native.Nat.{◌≤◌}
use mathlib.Core.Path.{refl}
use mathlib.Core.List.{[], ◌∷◌, ◌++◌}
use native.Mathlib.Omega.{arith}
use lib.ListN.{length, set}
use Rattle.model.specs.Messages.{number_bytes}
use Rattle.laws.proofs.Messages.{heading}
use Rattle.message_bytes.proofs.Laws.{stores, stored}
use Rattle.messages.proofs.Laws.{fronted_more}
use Rattle.messages.proofs.writer.write_submit.Goals as goal

pub returns : goal.returns
unfolding number_bytes
returns c =
    let a = c.args in
    let t = c.write_heading.new.t in
    let long : 11 ≤ length t = omega (arith, c.write_heading.auto.t) in
    let front = heading 9 1 a.member in
    let behind = a.slot ∷ a.operation ∷ [] in
    fronted_more (front ++ behind) (number_bytes a.count) a.t.now (stores (set t 5 a.slot) 5 1 (a.operation ∷ []))
    c.write_number.new.t 7 refl
    (fronted_more front behind a.t.now t (stores (set t 5 a.slot) 5 1 (a.operation ∷ [])) 5 refl c.write_heading.ensures
    (stored t 5 a.slot (a.operation ∷ []) (omega arith)))
    c.write_number.ensures
