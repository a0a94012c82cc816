-- What is claimed of the pairs that a reply's checks look at (Pairs.antt), document 02, (i): the ceiling, and the number for each verdict,
-- by the first place that failed.
use Rattle.std.specs.Prelude.{ℕ, ◌+◌, ◌-◌, ◌*◌, ◌≤◌, ◌<◌, ◌≡◌, Bool, true, false, cond}
use Rattle.lists.specs.Functions.{Within, inside}
use Rattle.model.specs.Rows.{matrix_below}
use Rattle.model.specs.Records.{Rec}
use Rattle.model.specs.Member.{Member, entry22, row26, row27, halt_number}
use Rattle.model.specs.Pairs.{row25, halt_pairs, most_pairs}

-- the first of the places 1 to n whose test fails
pub record First (n : ℕ) (test : ℕ → Bool) : Type 0 where
  pub at : ℕ
  pub within : Within n at
  pub fails : test at ≡ false
  pub before : (k : ℕ) → 1 ≤ k → k < at → test k ≡ true

-- how many of 1 to k are other than one
unfoldable pub others : ℕ → ℕ → ℕ
others k one = cond (inside k one) (k - 1) k

-- all the pairs up to a check that passed: "check 22 has n − 1, 23 one, 25 n² + 1, 26 n for each other row"
abbrev pub to23 : ℕ → ℕ
to23 n = n - 1 + 1

abbrev pub to25 : ℕ → ℕ
to25 n = to23 n + (n * n + 1)

abbrev pub to26 : ℕ → ℕ
to26 n = to25 n + (n - 1) * n

module _ (n i : ℕ) (m : Member) (newest stored : Rec) where
  -- a reply's halt number, 0 where it passes, and the pairs that were looked at
  pub data Verdict : ℕ → ℕ → Type 0 where
    -- "an accepted reply gives exactly that"
    passes : Verdict 0 (most_pairs n)
    -- 21 and 24 compare no counts
    fails21 : Verdict 21 0
    -- "in 22 and 27 the failing pair is the last looked at"
    fails22 : (k : First n (entry22 i m.slot m.known newest.matrix)) → Verdict 22 (others k.at i)
    fails23 : Verdict 23 (to23 n)
    fails24 : Verdict 24 (to23 n)
    -- "in 25 and 26 the row that fails is looked at to its end, and the pair at r in row r is 25's last, looked at only where no row
    -- failed"
    fails25 : (j : First n (row25 n stored.matrix newest.matrix)) → Verdict 25 (to23 n + j.at * n)
    differs25 : matrix_below n stored.matrix newest.matrix ≡ true → Verdict 25 (to25 n)
    fails26 : (j : First n (row26 n m.slot m.known newest.matrix)) → Verdict 26 (to25 n + others j.at m.slot * n)
    fails27 : (j : First n (row27 i m.slot m.accepted newest.matrix)) → Verdict 27 (to26 n + others j.at m.slot)

pub record PairsAsAsked (n i : ℕ) (m : Member) (newest stored : Rec) (seals : ℕ) : Type 0 where
  pub verdict : Verdict n i m newest stored (halt_number n i m newest stored seals) (halt_pairs n i m newest stored seals)
  -- "The number is never above 2n² + n, and an accepted reply gives exactly that"
  pub most : halt_pairs n i m newest stored seals ≤ most_pairs n
  pub exactly : halt_number n i m newest stored seals ≡ 0 → halt_pairs n i m newest stored seals ≡ most_pairs n

-- ".. 300 for n = 12"; a board of one has the pair of 23 and the two of 25
abbrev pub Ceilings : Type 0
Ceilings = (most_pairs 12 ≡ 300) × (most_pairs 1 ≡ 3)
