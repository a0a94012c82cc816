-- Tests made place by place by a function that is passed in.
use Rattle.std.specs.Prelude.{ℕ, ◌+◌, ◌<◌, ◌≡◌, Bool}
use Rattle.lists.specs.Functions.{each, looked}
use Rattle.rows.specs.declared.Check.{Check}

-- what was found at a place says of it what `test` and `cost` say of the places 1 to n
abbrev pub Tells : (ℕ → Bool) → (ℕ → ℕ) → ℕ → Check → Type 0
Tells test cost k c = (c.passed ≡ test (k + 1)) × (c.pairs ≡ cost (k + 1))

-- the tests of the places in turn, up to the first that fails: whether each passed, and what all that were looked at cost
abbrev pub OfEach : ℕ → (ℕ → Check → Type 0) → Check → Type 0
OfEach n answers r = (test : ℕ → Bool) (cost : ℕ → ℕ) → ((k : ℕ) (c : Check) → k < n → answers k c → Tells test cost k c)
    → (r.passed ≡ each n test) × (r.pairs ≡ looked n test cost)
