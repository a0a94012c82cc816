-- The parts of a member's block lie within it, for the bounds of what a step reads and writes.
use Prim.Native.Nat.{ℕ, ◌+◌, ◌-◌, ◌*◌, ◌≤◌}
use mathlib.Core.Path.{◌≡◌, refl, ap, ◌∙◌}
use mathlib.Core.Bool.{cond}
use mathlib.Core.List.{List}
use native.Mathlib.Omega.{arith}
use Rattle.lists.specs.Functions.{inside, numbered, from, Within}
use Rattle.lists.specs.Parts.{words}
use Rattle.model.specs.RecordWords.{record_size, row_of}
use Rattle.model.specs.Table.{own_at, accepted_at, last_at, pending_at, known_at, first_at, second_at, block_size, slot_at, member_of}
use Rattle.laws.proofs.Records.{row_of_at}
use Rattle.laws.proofs.Tables.{block_small}
use Rattle.member_block.specs.Needs.{Running}

pub record Rooms (n : ℕ) : Type 0 where
  pub head : 5 ≤ block_size n
  pub own : own_at + n ≤ block_size n
  pub accepted : accepted_at n + n ≤ block_size n
  pub last : last_at n + 8 ≤ block_size n
  pub pending : pending_at n + 8 ≤ block_size n
  pub known : known_at n + n * n ≤ block_size n
  pub first : first_at n + record_size n ≤ block_size n
  pub second : second_at n + record_size n ≤ block_size n
  pub messages : first_at n + 2 * record_size n ≤ block_size n
  pub known_first : known_at n + n * n ≤ first_at n
  pub last_pending : last_at n + 8 ≤ pending_at n
  pub value_and_matrix : 4 + 8 + n * n ≤ record_size n
  pub small : n ≤ 12 → block_size n ≤ 501

pub rooms : (n : ℕ) → Rooms n
unfolding block_size second_at first_at known_at pending_at last_at accepted_at record_size
rooms n = record {
  head = omega arith;
  own = omega arith;
  accepted = omega arith;
  last = omega arith;
  pending = omega arith;
  known = omega arith;
  first = omega arith;
  second = omega arith;
  messages = omega arith;
  known_first = omega arith;
  last_pending = omega arith;
  value_and_matrix = omega arith;
  small = block_small n;
}

-- The word of a running operation's slot is one of 1 to n.
pub running_slot : (n : ℕ) (l : List ℕ) → Running n l → Within n (words l slot_at)
unfolding member_of
running_slot n l r = r.slot

-- the own count of slot k, by its word, where there is such a slot
pub own_of : (n : ℕ) (w : ℕ → ℕ) (k : ℕ) → (member_of n w).own k ≡ cond (inside n k) (w (own_at + (k - 1))) 0
unfolding member_of row_of numbered from
own_of n w k = refl

-- the own count of slot k, by its word
pub own_at_lem : (n : ℕ) (w : ℕ → ℕ) (k : ℕ) → 1 ≤ k → k ≤ n → (member_of n w).own k ≡ w (own_at + k - 1)
unfolding member_of from
own_at_lem n w k p q =
    ap (row_of n (from w own_at)) (let e : k ≡ k - 1 + 1 = omega arith in e)
    ∙ row_of_at n (from w own_at) (k - 1) (omega arith)
    ∙ ap w (let e : own_at + (k - 1) ≡ own_at + k - 1 = omega arith in e)
