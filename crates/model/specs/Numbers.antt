-- The number that a call is answered with: document 01's "Numbers by the place of the check", from number 4 on, top down. 0 is the
-- answer where no ground holds. Each is a function of the member's phase and crash mark, of its own count on the slot, and of the
-- arguments, so that the contracts, the board and the reference share it. Before number 4 a begin asks whether its kind may have so many
-- members.
use Rattle.std.specs.Prelude.{ℕ, cond, not, ◌&&◌, ◌||◌, eqb, leb}
use Rattle.lists.specs.Functions.{inside}
use Rattle.model.specs.Kinds.{Kind, is_operation, barred}

-- the first ground that holds: "Checks go down the table."
abbrev pub or_else : ℕ → ℕ → ℕ
or_else number rest = cond (eqb number 0) rest number

-- 4 to 7, of a begin and of what comes to the host: "no such member", "no such slot", "type not 1 or 2", and what 7 refuses
unfoldable pub fields_number : ℕ → ℕ → ℕ → ℕ → ℕ
fields_number n i r t =
    cond (not (inside n i)) 4
    (cond (not (inside n r)) 5
    (cond (not (is_operation t)) 6
    (cond (barred i r t) 7
    0)))

-- begin, on a board of n that the numbers 2 and 3 have passed: document 02, (b), "Its own opening and begin refuse 1 above 4 members, in
-- begin after 3". Document 01's begin never does, since no board has more than 12.
unfoldable pub kind_number : Kind → ℕ → ℕ
kind_number kind n = cond (not (leb n kind.most)) 1 0

-- begin, by member i, on slot r, of type t: then "8 not in phase 0, or crashed", and 9
unfoldable pub begin_answer : Kind → ℕ → ℕ → ℕ → ℕ → ℕ → ℕ → ℕ → ℕ
begin_answer kind n phase crashed count i r t =
    or_else (fields_number n i r t)
    (cond (not (eqb phase 0) || not (eqb crashed 0)) 8
    (cond (leb kind.limit count) 9
    0))

-- deliver, to or from member i: "10 phase 0 or 6; crashed in phase 2, 4 or 5"
unfoldable pub deliver_answer : ℕ → ℕ → ℕ → ℕ → ℕ
deliver_answer n phase crashed i =
    cond (not (inside n i)) 4
    (cond (eqb phase 0 || eqb phase 6) 10
    (cond (not (eqb crashed 0) && (eqb phase 2 || eqb phase 4 || eqb phase 5)) 10
    0))

-- crash of member i: "11 already crashed, or halted"
unfoldable pub crash_answer : ℕ → ℕ → ℕ → ℕ → ℕ
crash_answer n phase crashed i =
    cond (not (inside n i)) 4
    (cond (not (eqb crashed 0) || eqb phase 6) 11
    0)
