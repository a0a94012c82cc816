-- Laws of what is looked at in turn, up to the first place that fails: place by place, all of it, and how much at most.
use Prim.Native.Nat.{ℕ, zero, suc, ◌+◌, ◌≤◌, ◌<◌}
use mathlib.Core.Path.{◌≡◌, refl, sym, ap}
use mathlib.Core.Bool.{Bool, true, false}
use native.Mathlib.Numerals.{add-one}
use native.Mathlib.Omega.{arith}
use lib.Dec.{eqb}
use borrow.Author.Tests.{eqb-true, eqb-false}
use Rattle.lists.specs.Functions.{each, looked}
use Rattle.lists.proofs.Functions.{on, each_all, each_fails, each_same}

pub looked_none : (test : ℕ → Bool) (cost : ℕ → ℕ) → looked 0 test cost ≡ 0
unfolding looked
looked_none test cost = refl

-- one place more, where none failed before it
pub looked_more : (k : ℕ) (test : ℕ → Bool) (cost : ℕ → ℕ) → each k test ≡ true
    → looked (k + 1) test cost ≡ looked k test cost + cost (k + 1)
unfolding looked
looked_more k test cost p = rw (add-one, p)

-- the place that fails is the last
pub looked_stops : (n : ℕ) (test : ℕ → Bool) (cost : ℕ → ℕ) (k : ℕ) → 1 ≤ k → k ≤ n → test k ≡ false
    → looked n test cost ≡ looked k test cost
unfolding looked
looked_stops zero test cost k p q h = absurd (omega arith)
looked_stops (suc n) test cost k p q h = on (eqb k (suc n))
    (λ e. ap (λ i. looked i test cost) (sym (eqb-true k (suc n) e)))
    (λ e. let d : k ≡ suc n → ⊥ = eqb-false k (suc n) e in
    let low : k ≤ n = omega arith in
    rw (each_fails n test k p low h, looked_stops n test cost k p low h) (omega arith))

-- the same where the tests agree on 1 to n
pub looked_same : (n : ℕ) (s t : ℕ → Bool) (cost : ℕ → ℕ) → ((k : ℕ) → 1 ≤ k → k ≤ n → s k ≡ t k) → looked n s cost ≡ looked n t cost
unfolding looked
looked_same zero s t cost h = refl
looked_same (suc n) s t cost h =
    rw (looked_same n s t cost (λ k p q. h k p (omega arith)), each_same n s t (λ k p q. h k p (omega arith)))

-- A sum that grows place by place as the costs do: it is what is looked at up to and with the first place that fails, and no test lets more
-- be looked at.
module _ (cost sum : ℕ → ℕ) (none : sum 0 ≡ 0) (more : (k : ℕ) → sum (suc k) ≡ sum k + cost (suc k)) (test : ℕ → Bool) where
  pub looked_sum : (k : ℕ) → ((j : ℕ) → 1 ≤ j → j < k → test j ≡ true) → looked k test cost ≡ sum k
  unfolding looked
  looked_sum zero h = sym none
  looked_sum (suc k) h = rw (
    looked_sum k (λ j p q. h j p (omega arith)),
    each_all k test (λ j p q. h j p (omega arith)),
  ) (sym (more k))

  pub looked_most : (n : ℕ) → looked n test cost ≤ sum n
  unfolding looked
  looked_most zero = omega arith
  looked_most (suc n) = on (each n test)
      (λ e. rw (e, more n) (omega (arith, looked_most n)))
      (λ e. rw (e, more n) (omega (arith, looked_most n)))
