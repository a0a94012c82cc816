-- `print_field` meets its contract: a dash and the byte behind it, or the digits and the byte behind them.
use Prim.Native.Nat.{◌+◌, ◌≤◌}
use mathlib.Core.List.{[], ◌∷◌, ◌++◌}
use native.Mathlib.Omega.{arith}
use lib.ListN.{length}
use Rattle.model.specs.Script.{digits, or_dash}
use Rattle.script.proofs.Printing.{printed_one, room_first, room_then, printed_then}
use Rattle.script.proofs.steps.print_field.Goals as goal
use Rattle.script.proofs.steps.print_field.Goals.{After-print_number-next, In-Some}

-- What is known at each place, built on the place before: there is room for the digits with the byte behind them.

fits : (c : In-Some) → let a = c.args in a.at + length (digits c.in-Some.x ++ (a.end ∷ [])) ≤ length a.out.now
unfolding or_dash
fits c = rw c.in-Some.is at c.requires

room : (c : After-print_number-next) → c.print_number-next.result + 1 ≤ length c.print_number-next.new.out
room c = room_then c.print_number-next.ensures (c.args.end ∷ []) (fits (goal.at.After-print_number-next c).In-Some)

-- The goals.

pub print_bytes-requires : goal.print_bytes-requires
unfolding or_dash
print_bytes-requires c = rw c.in_default.is at c.requires

pub returns-in_default : goal.returns-in_default
unfolding or_dash
returns-in_default c = rw c.in_default.is c.print_bytes.ensures

pub print_number-next-requires : goal.print_number-next-requires
print_number-next-requires c =
    let a = c.args in
    room_first a.out.now a.at (digits c.in-Some.x) (a.end ∷ []) (fits (goal.at.print_number-next-requires c).In-Some)

pub bounds-out-next : goal.bounds-out-next
bounds-out-next c = omega (arith, room (goal.at.bounds-out-next c).After-print_number-next)

pub returns : goal.returns
unfolding or_dash
returns c =
    let k = c.print_number-next in
    rw c.in-Some.is
    (printed_then k.ensures (c.args.end ∷ []) (fits (goal.at.returns c).In-Some)
    (printed_one k.new.out k.result c.args.end (omega (arith, room (goal.at.returns c).After-print_number-next))))
