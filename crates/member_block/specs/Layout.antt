-- What the layout of a block, as the code works it out, stands for.
use Rattle.std.specs.Prelude.{ℕ, ◌≡◌}
use Rattle.model.specs.Table.{accepted_at, last_at, pending_at, known_at, first_at, second_at, block_size}
use Rattle.member_block.specs.declared.layout.Places.{Places}

pub record LayoutOf (n : ℕ) (r : Places) : Type 0 where
  pub accepted : r.accepted ≡ accepted_at n
  pub last : r.last ≡ last_at n
  pub pending : r.pending ≡ pending_at n
  pub known : r.known ≡ known_at n
  pub first : r.first ≡ first_at n
  pub second : r.second ≡ second_at n
  pub size : r.size ≡ block_size n
