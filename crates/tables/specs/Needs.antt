-- What the functions on a table require of it and promise.
use Rattle.std.specs.Prelude.{ℕ, ◌+◌, ◌≤◌, ◌≡◌, true, List, length}
use Rattle.lists.specs.Parts.{words}
use Rattle.model.specs.Board.{Board}
use Rattle.model.specs.Table.{block_size, block_at, host_at, host_size, table_size, board_of, sound_board}

-- a whole table of a board of n
pub record Table (n : ℕ) (l : List ℕ) : Type 0 where
  pub least : 1 ≤ n
  pub most : n ≤ 12
  pub long : length l ≡ table_size n
  pub size : words l 0 ≡ n

-- a table that passed its check
pub record Sound (n : ℕ) (l : List ℕ) : Type 0 where
  pub table : Table n l
  pub sound : sound_board n (board_of n (words l)) ≡ true

-- the table of a board of n that stands for b
pub record Left (n : ℕ) (b : Board) (l : List ℕ) : Type 0 where
  pub table : Table n l
  pub board : board_of n (words l) ≡ b

-- where member i's block begins, and that it ends before the host entries, all of them within few words
pub record BlockPlace (n i at : ℕ) : Type 0 where
  pub begins : at ≡ block_at n i
  pub ends : at + block_size n ≤ table_size n
  pub small : table_size n ≤ 9781

-- where the host entries begin
pub record HostPlace (n at : ℕ) : Type 0 where
  pub begins : at ≡ host_at n
  pub ends : at + host_size n ≡ table_size n
  pub small : table_size n ≤ 9781
