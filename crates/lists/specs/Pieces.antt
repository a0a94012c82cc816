-- Things of one size laid one after the other, and numbered from 1: how they lie in words, and how each is read.
use Rattle.std.specs.Prelude.{ℕ, zero, suc, ◌-◌, ◌*◌, List, [], ◌++◌}
use Rattle.lists.specs.Functions.{from, within}

-- where number k of things of s words each begins
unfoldable pub place : ℕ → ℕ → ℕ
place s k = (k - 1) * s

module _ {A : Type 0} where
  -- things 1 to n of s words each, read by f from where each begins in the words w; d outside 1 to n
  unfoldable pub pieces : ℕ → A → ℕ → ((ℕ → ℕ) → A) → (ℕ → ℕ) → ℕ → A
  pieces n d s f w = within n d (λ k. f (from w (place s k)))

-- f 1 ++ f 2 ++ .. ++ f n
unfoldable pub laid : ℕ → (ℕ → List ℕ) → List ℕ
laid zero f = []
laid (suc n) f = laid n f ++ f (suc n)
