-- What is claimed of the numbers: document 01's table under "Numbers by the place of the check", in its words, for begin, deliver and
-- crash. "Checks go down the table .. 0 means done, and is the answer wherever no ground holds": a number is the answer exactly if its
-- ground holds and none before it does. The answers are those of Numbers.antt; here are only numbers and what holds of them.
use Rattle.std.specs.Prelude.{ℕ, ◌≤◌, ◌<◌, ◌≡◌, ◌↔◌, ◌⊎◌}
use Rattle.model.specs.Kinds.{Kind, concur, auction}
use Rattle.model.specs.Numbers.{begin_answer, deliver_answer, crash_answer}

-- there is a member k, and a slot k, on a board of n
abbrev pub OneTo : ℕ → ℕ → Type 0
OneTo n k = (1 ≤ k) × (k ≤ n)

-- Types are 1 read and 2 write. Document 02, (a): "Number 7 stays for a write to another's slot". Left are a write to one's own slot and
-- a read of any.
abbrev pub Barred : ℕ → ℕ → ℕ → Type 0
Barred i r t = (t ≡ 2) × (i ≡ r → ⊥)

abbrev pub Allowed : ℕ → ℕ → ℕ → Type 0
Allowed i r t = ((t ≡ 2) × (i ≡ r)) ⊎ (t ≡ 1)

-- begin, by member i of n in a phase and with a crash mark, on slot r, of type t; count is its own count there
pub record BeginNumbers (limit n phase crashed count i r t answer : ℕ) : Type 0 where
  -- "no such member", "no such slot", "type not 1 or 2"
  pub four : (answer ≡ 4) ↔ (OneTo n i → ⊥)
  pub five : (answer ≡ 5) ↔ (OneTo n i × (OneTo n r → ⊥))
  pub six : (answer ≡ 6) ↔ (OneTo n i × OneTo n r × (t ≡ 1 → ⊥) × (t ≡ 2 → ⊥))
  pub seven : (answer ≡ 7) ↔ (OneTo n i × OneTo n r × Barred i r t)
  -- "not in phase 0, or crashed"
  pub eight : (answer ≡ 8) ↔ (OneTo n i × OneTo n r × Allowed i r t × ((phase ≡ 0 → ⊥) ⊎ (crashed ≡ 0 → ⊥)))
  -- the own count has reached the limit
  pub nine : (answer ≡ 9) ↔ (OneTo n i × OneTo n r × Allowed i r t × (phase ≡ 0) × (crashed ≡ 0) × (limit ≤ count))
  pub done : (answer ≡ 0) ↔ (OneTo n i × OneTo n r × Allowed i r t × (phase ≡ 0) × (crashed ≡ 0) × (count < limit))
  pub no_other : (answer ≡ 0) ⊎ ((4 ≤ answer) × (answer ≤ 9))

-- "phase 0 or 6; crashed in phase 2, 4 or 5"
abbrev pub NothingToDeliver : ℕ → ℕ → Type 0
NothingToDeliver phase crashed =
    (phase ≡ 0) ⊎ (phase ≡ 6) ⊎ ((crashed ≡ 0 → ⊥) × ((phase ≡ 2) ⊎ (phase ≡ 4) ⊎ (phase ≡ 5)))

pub record DeliverNumbers (n phase crashed i answer : ℕ) : Type 0 where
  pub four : (answer ≡ 4) ↔ (OneTo n i → ⊥)
  pub ten : (answer ≡ 10) ↔ (OneTo n i × NothingToDeliver phase crashed)
  pub done : (answer ≡ 0) ↔ (OneTo n i × (NothingToDeliver phase crashed → ⊥))
  pub no_other : (answer ≡ 0) ⊎ (answer ≡ 4) ⊎ (answer ≡ 10)

pub record CrashNumbers (n phase crashed i answer : ℕ) : Type 0 where
  pub four : (answer ≡ 4) ↔ (OneTo n i → ⊥)
  -- "already crashed, or halted"
  pub eleven : (answer ≡ 11) ↔ (OneTo n i × ((crashed ≡ 0 → ⊥) ⊎ (phase ≡ 6)))
  pub done : (answer ≡ 0) ↔ (OneTo n i × (crashed ≡ 0) × (phase ≡ 6 → ⊥))
  pub no_other : (answer ≡ 0) ⊎ (answer ≡ 4) ⊎ (answer ≡ 11)

pub record NumbersAsListed (n : ℕ) : Type 0 where
  pub begins : (kind : Kind) (phase crashed count i r t : ℕ)
      → BeginNumbers kind.limit n phase crashed count i r t (begin_answer kind n phase crashed count i r t)
  -- document 01's board: "9 own count is 4,294,967,295"
  pub concur_begins : (phase crashed count i r t : ℕ)
      → BeginNumbers 4294967295 n phase crashed count i r t (begin_answer concur n phase crashed count i r t)
  -- document 02, (b): "9 where the own count is 9,999 or more"
  pub auction_begins : (phase crashed count i r t : ℕ)
      → BeginNumbers 9999 n phase crashed count i r t (begin_answer auction n phase crashed count i r t)
  pub delivers : (phase crashed i : ℕ) → DeliverNumbers n phase crashed i (deliver_answer n phase crashed i)
  pub crashes : (phase crashed i : ℕ) → CrashNumbers n phase crashed i (crash_answer n phase crashed i)
