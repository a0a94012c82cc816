-- The number of each halt, and that of what the checks of a reply found: document 01's "Halts, in this order, member m, slot r".
use Rattle.std.specs.Prelude.{ℕ, Option, Some, None}
use Rattle.checks.specs.declared.halt.Halt.{Halt}
use Rattle.checks.specs.declared.halt.Halt.TheVariants.{Seal, SlotRow, OwnCount, Owner, Stored, OtherRow, OtherCount}

abbrev pub number : Halt → ℕ
-- "a seal did not hold"
number Seal = 21
-- "for some k other than m, known row r exceeds the newest record's at k"
number SlotRow = 22
-- "the newest record's row r at m is not the accepted count"
number OwnCount = 23
-- "the stored record's member is not r"
number Owner = 24
-- "the stored matrix is not below the newest, or they differ in row r at r"
number Stored = 25
-- "in another row, known and newest are not comparable"
number OtherRow = 26
-- "in another row, the newest record's entry for m exceeds m's accepted count there"
number OtherCount = 27

-- the number of the check that failed; 0 where none did, as the member's halt number has it
abbrev pub number_of : Option Halt → ℕ
number_of None = 0
number_of (Some h) = number h
