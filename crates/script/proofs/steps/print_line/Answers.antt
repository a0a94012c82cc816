-- `print_line` meets its contract: four fields, one behind the other.
use Prim.Native.Nat.{ℕ, ◌+◌, ◌≤◌}
use mathlib.Core.List.{List, ◌++◌}
use mathlib.Core.Option.{some}
use lib.ListN.{length}
use Rattle.model.specs.Script.{space, line_feed, field, printed_line}
use Rattle.script.specs.Meaning.{given}
use Rattle.script.proofs.Printing.{room_first, room_then, printed_then}
use Rattle.script.proofs.steps.print_line.Goals as goal
use Rattle.script.proofs.steps.print_line.Goals.{After-print_field-fourth, After-print_field-second, After-print_field-third, Start}

-- The four fields.

abbrev f1 : Start → List ℕ
f1 s = field (some s.args.step) space

abbrev f2 : Start → List ℕ
f2 s = field (some s.args.answer) space

abbrev f3 : Start → List ℕ
f3 s = field (given s.args.phase) space

abbrev f4 : Start → List ℕ
f4 s = field (given s.args.value) line_feed

-- The places, and the room that is left at each.

room : (s : Start) → s.args.at + length (f1 s ++ (f2 s ++ (f3 s ++ f4 s))) ≤ length s.args.out.now
unfolding printed_line
room s = s.requires

room2 : (c : After-print_field-second) → let start_ = (goal.at.After-print_field-second c).Start in
    c.print_field-second.result + length (f2 start_ ++ (f3 start_ ++ f4 start_)) ≤ length c.print_field-second.new.out
room2 c =
    let start_ = (goal.at.After-print_field-second c).Start in
    room_then c.print_field-second.ensures (f2 start_ ++ (f3 start_ ++ f4 start_)) (room start_)

room3 : (c : After-print_field-third) → let start_ = (goal.at.After-print_field-third c).Start in
    c.print_field-third.result + length (f3 start_ ++ f4 start_) ≤ length c.print_field-third.new.out
room3 c =
    let start_ = (goal.at.After-print_field-third c).Start in
    room_then c.print_field-third.ensures (f3 start_ ++ f4 start_) (room2 (goal.at.After-print_field-third c).After-print_field-second)

room4 : (c : After-print_field-fourth) → c.print_field-fourth.result + length
    (f4 (goal.at.After-print_field-fourth c).Start) ≤ length c.print_field-fourth.new.out
room4 c = room_then c.print_field-fourth.ensures (f4 (goal.at.After-print_field-fourth c).Start)
    (room3 (goal.at.After-print_field-fourth c).After-print_field-third)

-- The goals.

pub print_field-second-requires : goal.print_field-second-requires
print_field-second-requires c =
    let start_ = (goal.at.print_field-second-requires c).Start in
    room_first c.args.out.now c.args.at (f1 start_) (f2 start_ ++ (f3 start_ ++ f4 start_)) (room start_)

pub print_field-third-requires : goal.print_field-third-requires
print_field-third-requires c =
    let start_ = (goal.at.print_field-third-requires c).Start in
    room_first c.print_field-second.new.out c.print_field-second.result (f2 start_) (f3 start_ ++ f4 start_)
    (room2 (goal.at.print_field-third-requires c).After-print_field-second)

pub print_field-fourth-requires : goal.print_field-fourth-requires
print_field-fourth-requires c =
    let start_ = (goal.at.print_field-fourth-requires c).Start in
    room_first c.print_field-third.new.out c.print_field-third.result (f3 start_) (f4 start_)
    (room3 (goal.at.print_field-fourth-requires c).After-print_field-third)

pub print_field-requires : goal.print_field-requires
print_field-requires c = room4 (goal.at.print_field-requires c).After-print_field-fourth

pub returns : goal.returns
unfolding printed_line
returns c =
    let start_ = (goal.at.returns c).Start in
    printed_then c.print_field-second.ensures (f2 start_ ++ (f3 start_ ++ f4 start_)) (room start_)
    (printed_then c.print_field-third.ensures (f3 start_ ++ f4 start_) (room2 (goal.at.returns c).After-print_field-second)
    (printed_then c.print_field-fourth.ensures (f4 start_) (room3 (goal.at.returns c).After-print_field-third) c.print_field.ensures))
