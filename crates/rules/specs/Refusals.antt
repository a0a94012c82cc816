-- The number of each refusal: document 01's "Numbers by the place of the check", and those that document 02's requests add; and what a
-- call that may be refused answers by number.
use Rattle.std.specs.Prelude.{ℕ, Result, Ok, Err}
use Rattle.rules.specs.declared.refusal.Refusal.{Refusal}
use Rattle.rules.specs.declared.refusal.Refusal.TheVariants.{Size, Length, Word, Member, Slot, Operation, Barred, Busy, Spent, NotDue}
use Rattle.rules.specs.declared.refusal.Refusal.TheVariants.{Down, Frame, Version, Kind, Field, Room, Line, NotOvertaken, Rows, Lines}

abbrev pub number : Refusal → ℕ
-- "n not 1 to 12"; document 02, (b), of an auction board: "above 4 members"
number Size = 1
-- "wrong length"
number Length = 2
-- "a phase above 6, crash mark above 1, halt number not 0 or 21 to 27, slot or member above n, type above 2 .."
number Word = 3
-- "no such member"
number Member = 4
-- "no such slot"
number Slot = 5
-- "type not 1 or 2"
number Operation = 6
-- document 02, (a): "a write to another's slot"
number Barred = 7
-- "not in phase 0, or crashed"
number Busy = 8
-- "own count is 4,294,967,295"; document 02, (b): "closed after 9,999 operations per slot and member"
number Spent = 9
-- "phase 0 or 6; crashed in phase 2, 4 or 5; a half in another phase than the message needs, or crashed"
number NotDue = 10
-- "already crashed, or halted"
number Down = 11
-- "under 4 bytes, or length field not the rest"
number Frame = 12
-- "version"
number Version = 13
-- "kind not 1 to 4"
number Kind = 14
-- "wrong length for kind, wrong n, member or slot not 1 to n, type, outcome"; "a seals value above 3, or a reply or outcome with a field
-- as above"
number Field = 15
-- "output shorter than the message"
number Room = 16
-- "a line of another form"
number Line = 17
-- document 02, (e) and (m): the operation that is asked for was not aborted
number NotOvertaken = 31
-- document 02, (l): a log of more rows than 1,024
number Rows = 34
-- document 02, (m): a script of more lines than 256 behind the first
number Lines = 35

-- "0 means done, and is the answer wherever no ground holds"
abbrev pub answer : {A : Type 0} → Result A Refusal → ℕ
answer (Ok x) = 0
answer (Err refusal) = number refusal
