-- What the calls require of a table that was checked, and promise each other.
use Rattle.std.specs.Prelude.{ℕ, ◌≡◌, List}
use Rattle.lists.specs.Parts.{words}
use Rattle.model.specs.Kinds.{Kind}
use Rattle.model.specs.Runs.{Call, answer_of, after}
use Rattle.model.specs.Table.{board_of}
use Rattle.lists.specs.Functions.{Within}
use Rattle.tables.specs.Needs.{Table, Left}

-- a table, and one of its members whose operation has a slot of the board
pub record Turn (n i : ℕ) (l : List ℕ) : Type 0 where
  pub table : Table n l
  pub member : Within n i
  pub slot : Within n ((board_of n (words l)).members i).slot

-- a call on the table l: its number, and the table that it left, which a refusal leaves as it was
pub record Answered (kind : Kind) (n : ℕ) (l : List ℕ) (call : Call) (answer : ℕ) (exit : List ℕ) : Type 0 where
  pub number : answer ≡ answer_of kind n (board_of n (words l)) call
  pub left : Left n (after kind n (board_of n (words l)) call) exit
