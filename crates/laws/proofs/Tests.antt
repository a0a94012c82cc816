-- Tests made by calls: what a test that was taken or passed says, and loops over each of 1 to n, those that count what they look at too.
use Prim.Native.Nat.{ℕ, ◌+◌, ◌*◌, ◌≤◌, ◌<◌}
use mathlib.Core.Path.{◌≡◌, sym, ap, ap₂, ◌∙◌}
use mathlib.Core.Bool.{Bool, true, false, not}
use native.Mathlib.Nat.{mul-add, mul-one}
use native.Mathlib.Omega.{arith}
use borrow.Author.Tests.{not-true, not-false}
use Rattle.lists.specs.Functions.{each, looked}
use Rattle.lists.proofs.Functions.{each_none, each_more, each_fails}
use Rattle.lists.proofs.Looked.{looked_none, looked_more, looked_stops}

-- `if !f(..) { return .. }`, where f answers the test b: taken, and passed
pub refused : {r b : Bool} → r ≡ b → not r ≡ true → b ≡ false
refused {r} e t = sym e ∙ not-true r t

pub allowed : {r b : Bool} → r ≡ b → not r ≡ false → b ≡ true
allowed {r} e t = sym e ∙ not-false r t

-- A loop that makes the test of 1, 2, .. by such a call: where it stops, where it goes on, and where it ends.
module _ (n : ℕ) (test : ℕ → Bool) where
  pub stops : (k : ℕ) → k < n → {r : Bool} → r ≡ test (k + 1) → not r ≡ true → false ≡ each n test
  stops k h e t = sym (each_fails n test (k + 1) (omega arith) (omega arith) (refused e t))

  pub goes_on : (k : ℕ) → each k test ≡ true → {r : Bool} → r ≡ test (k + 1) → not r ≡ false → each (k + 1) test ≡ true
  goes_on k p e t = each_more k test p (allowed e t)

  pub ends : (k : ℕ) → k ≡ n → each k test ≡ true → true ≡ each n test
  ends k e p = sym p ∙ ap (λ i. each i test) e

-- What such a loop keeps that counts too: the first k places passed, and the pairs are theirs, at most so many at a place.
pub record Walked (test : ℕ → Bool) (cost : ℕ → ℕ) (most k pairs : ℕ) : Type 0 where
  pub passed : each k test ≡ true
  pub counted : pairs ≡ looked k test cost
  pub small : pairs ≤ most * k

module _ (test : ℕ → Bool) (cost : ℕ → ℕ) (most : ℕ) where
  pub walk_starts : Walked test cost most 0 0
  walk_starts = record { passed = each_none test; counted = sym (looked_none test cost); small = omega arith }

  -- the next place, where the call answered r and looked at q pairs
  module _ {k pairs : ℕ} (w : Walked test cost most k pairs) {r : Bool} {q : ℕ} (tested : r ≡ test (k + 1)) (looks : q ≡ cost (k + 1)) where
    more : pairs + q ≡ looked (k + 1) test cost
    more = ap₂ (λ x y. x + y) w.counted looks ∙ sym (looked_more k test cost w.passed)

    pub walks-on : q ≤ most → not r ≡ false → Walked test cost most (k + 1) (pairs + q)
    walks-on h t =
        let e : most * (k + 1) ≡ most * k + most = mul-add most k 1 ∙ ap (λ x. most * k + x) (mul-one most) in
        record {
          passed = each_more k test w.passed (allowed tested t);
          counted = more;
          small = rw e (omega (arith, w.small, h));
        }

    pub walk-stops : (n : ℕ) → k < n → not r ≡ true → (false ≡ each n test) × (pairs + q ≡ looked n test cost)
    walk-stops n h t = (
      stops n test k h tested t,
      more ∙ sym (looked_stops n test cost (k + 1) (omega arith) (omega arith) (refused tested t)),
    )

  pub walk_ends : {n k pairs : ℕ} → Walked test cost most k pairs → k ≡ n → (true ≡ each n test) × (pairs ≡ looked n test cost)
  walk_ends {n} {k} w e = (ends n test k e w.passed, w.counted ∙ ap (λ i. looked i test cost) e)
