-- What the steps require of a block, and what their callers have checked.
use Rattle.std.specs.Prelude.{ℕ, ◌+◌, ◌≤◌, ◌<◌, ◌^◌, ◌≡◌, List, length}
use Rattle.lists.specs.Parts.{words}
use Rattle.lists.specs.Functions.{Within}
use Rattle.model.specs.Table.{block_size, member_of}

-- a whole block of a board of n
pub record Block (n : ℕ) (l : List ℕ) : Type 0 where
  pub least : 1 ≤ n
  pub most : n ≤ 12
  pub long : length l ≡ block_size n

-- a block on which an operation on slot r can begin: there is such a slot, and its own count has room
pub record Begins (n : ℕ) (l : List ℕ) (r : ℕ) : Type 0 where
  pub block : Block n l
  pub slot : Within n r
  pub room : (member_of n (words l)).own r + 1 < 2 ^ 32

-- a block whose operation has a slot of the board
pub record Running (n : ℕ) (l : List ℕ) : Type 0 where
  pub block : Block n l
  pub slot : Within n (member_of n (words l)).slot
