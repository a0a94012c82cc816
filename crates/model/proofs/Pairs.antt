-- The pairs that each check of a reply looks at: where it passed, where it failed, and at most. A check that passed looked at every place,
-- one that failed at all up to the first that fails; what the places up to one cost is a sum that grows with them.
use Prim.Native.Nat.{ℕ, zero, suc, ◌+◌, ◌-◌, ◌*◌, ◌≤◌}
use mathlib.Core.Path.{◌≡◌, refl, sym, ap, ◌∙◌}
use mathlib.Core.Bool.{Bool, true, false}
use native.Mathlib.Nat.{le_refl, zero-mul, suc-mul, one-mul, add-mul}
use native.Mathlib.Omega.{arith}
use lib.Dec.{eqb}
use borrow.Author.Tests.{eqb-true, eqb-false}
use Rattle.lists.specs.Functions.{each, inside, looked, Within}
use Rattle.lists.proofs.Functions.{on, apart, split, each_at, inside_in, inside_above, inside_low, inside_high}
use Rattle.lists.proofs.Looked.{looked_stops, looked_sum, looked_most}
use Rattle.model.specs.Rows.{Matrix, matrix_below}
use Rattle.model.specs.Member.{entry22, row26, row27, check22, check26, check27}
use Rattle.model.specs.Pairs.{otherwise, pairs22, pairs25, pairs26, pairs27, row_pairs25, row25}
use Rattle.model.specs.PairClaims.{First, others}

-- Places in turn.

-- where not each passes, there is a first that fails
pub first_of : (n : ℕ) (test : ℕ → Bool) → each n test ≡ false → First n test
unfolding each
first_of zero test h = absurd (apart refl h)
first_of (suc n) test h = on (each n test)
    (λ e. record {
      at = suc n;
      within = record { least = omega arith; most = omega arith };
      fails = rw e at h;
      before = λ k p q. each_at n test e k p (omega arith);
    })
    (λ e. let f = first_of n test e in
    record {
      at = f.at;
      within = record { least = f.within.least; most = omega (arith, f.within.most) };
      fails = f.fails;
      before = f.before;
    })

-- What the places up to one cost.

others_more : (k one : ℕ) → others (suc k) one ≡ others k one + otherwise one 1 (suc k)
unfolding others
others_more k one = on (eqb (suc k) one)
    (λ e. let d : suc k ≡ one = eqb-true (suc k) one e in
    rw (e, inside_in (suc k) one (omega arith) (omega arith), inside_above k one (omega arith)) (omega arith))
    (λ e. let d : suc k ≡ one → ⊥ = eqb-false (suc k) one e in
    on (inside k one)
    (λ p. let low = inside_low k one p in let high = inside_high k one p in
    rw (e, p, inside_in (suc k) one low (omega arith)) (omega arith))
    (λ p. let off : inside (suc k) one ≡ false = on (inside (suc k) one)
    (λ q. absurd (apart (inside_in k one (inside_low (suc k) one q) (omega (arith, inside_high (suc k) one q))) p)) (λ q. q) in
    rw (e, p, off) (omega arith)))

otherwise_times : (one c k : ℕ) → otherwise one 1 k * c ≡ otherwise one c k
otherwise_times one c k = on (eqb k one) (λ e. rw e (zero-mul c)) (λ e. rw e (one-mul c))

pub otherwise_most : (one c k : ℕ) → otherwise one c k ≤ c
otherwise_most one c k = split (λ x. x ≤ c) (eqb k one) (λ e. omega arith) (λ e. le_refl c)

times_more : (one c k : ℕ) → others (suc k) one * c ≡ others k one * c + otherwise one c (suc k)
times_more one c k =
    ap (λ x. x * c) (others_more k one)
    ∙ add-mul (others k one) (otherwise one 1 (suc k)) c
    ∙ ap (λ x. others k one * c + x) (otherwise_times one c (suc k))

others_none : (one : ℕ) → others 0 one ≡ 0
unfolding others
others_none one = on (inside 0 one) (λ e. rw e) (λ e. rw e)

-- a sum that grows as the costs do
record Sums (cost sum : ℕ → ℕ) : Type 0 where
  none : sum 0 ≡ 0
  more : (k : ℕ) → sum (suc k) ≡ sum k + cost (suc k)

one_each : (one : ℕ) → Sums (otherwise one 1) (λ k. others k one)
one_each one = record { none = others_none one; more = λ k. others_more k one }

row_each : (one c : ℕ) → Sums (otherwise one c) (λ k. others k one * c)
row_each one c = record { none = ap (λ x. x * c) (others_none one) ∙ zero-mul c; more = times_more one c }

all_rows : (c : ℕ) → Sums (λ j. c) (λ k. k * c)
all_rows c = record { none = zero-mul c; more = λ k. suc-mul k c }

module _ {cost sum : ℕ → ℕ} (grows : Sums cost sum) (n : ℕ) (test : ℕ → Bool) where
  all-looked : each n test ≡ true → looked n test cost ≡ sum n
  all-looked e = looked_sum cost sum grows.none grows.more test n (λ k p q. each_at n test e k p (omega arith))

  first-looked : (k : First n test) → looked n test cost ≡ sum k.at
  first-looked k =
      looked_stops n test cost k.at k.within.least k.within.most k.fails
      ∙ looked_sum cost sum grows.none grows.more test k.at k.before

  most-looked : looked n test cost ≤ sum n
  most-looked = looked_most cost sum grows.none grows.more test n

others_in : (n one : ℕ) → Within n one → others n one ≡ n - 1
unfolding others
others_in n one w = rw (inside_in n one w.least w.most)

pub row_pairs25-most : (n : ℕ) (a b : Matrix) → row_pairs25 n a b ≤ n * n
unfolding row_pairs25
row_pairs25-most n a b = most-looked (all_rows n) n (row25 n a b)

-- n rows are one row and the others
pub square : (n : ℕ) → 1 ≤ n → n * n ≡ (n - 1) * n + n
square zero p = absurd (omega arith)
square (suc n) p = suc-mul n (suc n) ∙ ap (λ x. x * suc n + suc n) (let e : n ≡ suc n - 1 = omega arith in e)

-- Each check.

module _ (n i r : ℕ) (own : Within n i) (known newest : Matrix) where
  pub all22 : check22 n i r known newest ≡ true → pairs22 n i r known newest ≡ n - 1
  unfolding check22 pairs22
  all22 e = all-looked (one_each i) n (entry22 i r known newest) e ∙ others_in n i own

  pub most22 : pairs22 n i r known newest ≤ n - 1
  unfolding pairs22
  most22 = rw (sym (others_in n i own)) (most-looked (one_each i) n (entry22 i r known newest))

pub stopped22 : (n i r : ℕ) (known newest : Matrix) (k : First n (entry22 i r known newest)) → pairs22 n i r known newest ≡ others k.at i
unfolding pairs22
stopped22 n i r known newest k = first-looked (one_each i) n (entry22 i r known newest) k

module _ (n : ℕ) (stored newest : Matrix) where
  pub all25 : matrix_below n stored newest ≡ true → pairs25 n stored newest ≡ n * n + 1
  unfolding pairs25 row_pairs25 matrix_below
  all25 e = rw (e, all-looked (all_rows n) n (row25 n stored newest) e)

  pub first25 : matrix_below n stored newest ≡ false → First n (row25 n stored newest)
  unfolding matrix_below
  first25 e = first_of n (row25 n stored newest) e

  pub stopped25 : matrix_below n stored newest ≡ false → (j : First n (row25 n stored newest)) → pairs25 n stored newest ≡ j.at * n
  unfolding pairs25 row_pairs25
  stopped25 e j = rw (e, first-looked (all_rows n) n (row25 n stored newest) j) (omega arith)

  pub most25 : pairs25 n stored newest ≤ n * n + 1
  unfolding pairs25
  most25 = split (λ x. row_pairs25 n stored newest + x ≤ n * n + 1) (matrix_below n stored newest)
      (λ e. omega (arith, row_pairs25-most n stored newest))
      (λ e. omega (arith, row_pairs25-most n stored newest))

module _ (n r : ℕ) (slot : Within n r) (known newest : Matrix) where
  pub all26 : check26 n r known newest ≡ true → pairs26 n r known newest ≡ (n - 1) * n
  unfolding check26 pairs26
  all26 e = all-looked (row_each r n) n (row26 n r known newest) e ∙ ap (λ x. x * n) (others_in n r slot)

  pub most26 : pairs26 n r known newest ≤ (n - 1) * n
  unfolding pairs26
  most26 = rw (sym (others_in n r slot)) (most-looked (row_each r n) n (row26 n r known newest))

pub stopped26 : (n r : ℕ) (known newest : Matrix) (j : First n (row26 n r known newest)) → pairs26 n r known newest ≡ others j.at r * n
unfolding pairs26
stopped26 n r known newest j = first-looked (row_each r n) n (row26 n r known newest) j

module _ (n i r : ℕ) (slot : Within n r) (accepted : ℕ → ℕ) (newest : Matrix) where
  pub all27 : check27 n i r accepted newest ≡ true → pairs27 n i r accepted newest ≡ n - 1
  unfolding check27 pairs27
  all27 e = all-looked (one_each r) n (row27 i r accepted newest) e ∙ others_in n r slot

  pub most27 : pairs27 n i r accepted newest ≤ n - 1
  unfolding pairs27
  most27 = rw (sym (others_in n r slot)) (most-looked (one_each r) n (row27 i r accepted newest))

pub stopped27 : (n i r : ℕ) (accepted : ℕ → ℕ) (newest : Matrix) (j : First n (row27 i r accepted newest))
    → pairs27 n i r accepted newest ≡ others j.at r
unfolding pairs27
stopped27 n i r accepted newest j = first-looked (one_each r) n (row27 i r accepted newest) j
