-- What the steps require of the host entries that they are lent, and what their callers have checked; what the functions within the
-- crate promise each other.
use Rattle.std.specs.Prelude.{ℕ, ◌+◌, ◌≤◌, ◌≡◌, List, length}
use Rattle.lists.specs.Pieces.{place}
use Rattle.model.specs.Table.{entry_size, host_size}

-- the n host entries of a board of n
pub record Entries (n : ℕ) (l : List ℕ) : Type 0 where
  pub most : n ≤ 12
  pub long : length l ≡ host_size n

-- the same, and one of its slots
pub record Slot (n r : ℕ) (l : List ℕ) : Type 0 where
  pub most : n ≤ 12
  pub long : length l ≡ host_size n
  pub slot_least : 1 ≤ r
  pub slot_most : r ≤ n

-- one host entry of a board of n
pub record OneEntry (n : ℕ) (l : List ℕ) : Type 0 where
  pub most : n ≤ 12
  pub long : length l ≡ entry_size n

-- where slot r's entry begins, and that it ends within the entries, which are few words
pub record EntryPlace (n r at : ℕ) : Type 0 where
  pub begins : at ≡ place (entry_size n) r
  pub ends : at + entry_size n ≤ host_size n
  pub small : host_size n ≤ 3768
