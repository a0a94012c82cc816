-- Functions of an index: how words, rows and matrices are written in every specification. A function has no length, so that a
-- definition says only what stands where.
use Rattle.std.specs.Prelude.{ℕ, zero, suc, ◌+◌, ◌-◌, ◌≤◌, Bool, true, cond, ◌&&◌, eqb, leb, ltb}

module _ {A : Type 0} where
  -- f with v at place k
  unfoldable pub put : (ℕ → A) → ℕ → A → ℕ → A
  put f k v i = cond (eqb i k) v (f i)

  -- f with the first k values of g in the k places from a on
  unfoldable pub pasted : ℕ → ℕ → (ℕ → A) → (ℕ → A) → ℕ → A
  pasted a k g f i = cond (leb a i && ltb i (a + k)) (g (i - a)) (f i)

  -- f from place a on
  unfoldable pub from : (ℕ → A) → ℕ → ℕ → A
  from f a i = f (a + i)

-- is k one of 1 to n
unfoldable pub inside : ℕ → ℕ → Bool
inside n k = leb 1 k && leb k n

-- the same, known of k
pub record Within (n k : ℕ) : Type 0 where
  pub least : 1 ≤ k
  pub most : k ≤ n

module _ {A : Type 0} where
  -- f on 1 to n, and d elsewhere
  unfoldable pub within : ℕ → A → (ℕ → A) → ℕ → A
  within n d f k = cond (inside n k) (f k) d

  -- f's first n values under the numbers 1 to n, and d elsewhere: members, slots and the words of a value are numbered from 1
  unfoldable pub numbered : ℕ → A → (ℕ → A) → ℕ → A
  numbered n d f k = cond (inside n k) (f (k - 1)) d

-- does test hold of each of 1 to n
unfoldable pub each : ℕ → (ℕ → Bool) → Bool
each zero test = true
each (suc n) test = each n test && test (suc n)

-- Of the places 1 to n in turn, a place is looked at where each before it passed its test, so that the first that fails is the last. What
-- all those cost together, where place k costs `cost k`.
unfoldable pub looked : ℕ → (ℕ → Bool) → (ℕ → ℕ) → ℕ
looked zero test cost = 0
looked (suc n) test cost = looked n test cost + cond (each n test) (cost (suc n)) 0
