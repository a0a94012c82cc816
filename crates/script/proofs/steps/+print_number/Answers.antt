-- `print_number` meets its contract: what stands before the last digit is printed, and that digit behind it.
use Prim.Native.Nat.{ℕ, ◌+◌, ◌%◌, ◌≤◌}
use mathlib.Core.List.{[], ◌∷◌, ◌++◌}
use native.Mathlib.Omega.{arith}
use borrow.Author.Tests.{lt-ltb, le-ltb}
use lib.ListN.{length}
use Rattle.model.specs.Script.{digit_zero}
use Rattle.script.specs.Meaning.{Printed}
use Rattle.script.proofs.Digits.{front_digits, digits_front, length_more}
use Rattle.script.proofs.Printing.{printed_none, printed_one, printed_then, room_then}
use Rattle.script.proofs.steps.+print_number.Goals as goal
use Rattle.script.proofs.steps.+print_number.Goals.{Start, After-last_digit, then-x-ge10, else-x-ge10}

pub print_number-last-requires : goal.print_number-last-requires
print_number-last-requires t c = (omega (arith, c.decreases), omega (arith, length_more c.args.x c.if-x-ge10.true))

fits : (t : ℕ) (c : Start t) → let a = c.args in a.at + length (front_digits a.x ++ ((digit_zero + a.x % 10) ∷ [])) ≤ length a.out.now
fits t c = rw digits_front at c.requires

front : (t : ℕ) (c : After-last_digit t) → Printed c.args.out.now c.if-x-ge10.out c.args.at (front_digits c.args.x) c.if-x-ge10.last
front t c = elim c.if-x-ge10.branch [
  | then-x-ge10 w ↦ rw (w.out-is, w.last-is, le-ltb c.args.x 10 w.if-x-ge10.true) w.print_number-last.ensures
  | else-x-ge10 w ↦ rw (w.out-is, w.last-is, lt-ltb c.args.x 10 w.if-x-ge10.false) (printed_none c.args.out.now c.args.at)
]

room : (t : ℕ) (c : After-last_digit t) → c.if-x-ge10.last + 1 ≤ length c.if-x-ge10.out
room t c = room_then (front t c) ((digit_zero + c.args.x % 10) ∷ []) (fits t (goal.at.After-last_digit t c).Start)

pub bounds-out-last : goal.bounds-out-last
bounds-out-last t c = omega (arith, room t c)

pub returns : goal.returns
returns t c =
    let p = (goal.at.returns t c).After-last_digit in
    let q = (goal.at.returns t c).Start in
    rw (digits_front, c.last_digit.ensures)
    (printed_then (front t p) ((digit_zero + c.args.x % 10) ∷ []) (fits t q)
    (printed_one c.if-x-ge10.out c.if-x-ge10.last (digit_zero + c.args.x % 10) (omega (arith, room t p))))
