-- Laws of functions of an index.
use Prim.Native.Nat.{ℕ, zero, suc, ◌+◌, ◌-◌, ◌≤◌, ◌<◌}
use mathlib.Core.Path.{◌≡◌, refl, sym, ap, ◌∙◌, fun_ext}
use mathlib.Core.Bool.{Bool, true, false, cond, ◌&&◌, ◌||◌, false≢true}
use native.Mathlib.Numerals.{add-one}
use native.Mathlib.Omega.{arith}
use lib.Dec.{eqb, leb, ltb}
use borrow.Author.Tests.{eq-eqb, ne_eqb, le-leb, lt-leb, lt-ltb, le-ltb, leb-true, leb-false, ltb-true, ltb-false, eqb-true, eqb-false}
use Rattle.lists.specs.Functions.{put, pasted, from, inside, Within, each, within, numbered}

-- A test's two outcomes, each with its equation: a case split that keeps what was tested.
pub on {ℓ} : {B : Type ℓ} (b : Bool) → (b ≡ true → B) → (b ≡ false → B) → B
on true t f = t refl
on false t f = f refl

-- The same of where i stands: before, in or after the k places from a on.
pub by_place : {B : Type 0} (a k i : ℕ) → (i < a → B) → (a ≤ i → i < a + k → B) → (a + k ≤ i → B) → B
by_place a k i before within after = on (leb a i)
    (λ p. on (ltb i (a + k)) (λ q. within (leb-true a i p) (ltb-true i (a + k) q)) (λ q. after (ltb-false i (a + k) q)))
    (λ p. before (leb-false a i p))

-- What holds on either side of a test holds of its outcome, or of its two outcomes.
pub split {ℓ} : {A : Type 0} (P : A → Type ℓ) (b : Bool) {x y : A} → (b ≡ true → P x) → (b ≡ false → P y) → P (cond b x y)
split P true p q = p refl
split P false p q = q refl

pub split-both {ℓ} : {A B : Type 0} (P : A → B → Type ℓ) (b : Bool) {x y : A} {z t : B}
    → (b ≡ true → P x z) → (b ≡ false → P y t) → P (cond b x y) (cond b z t)
split-both P true p q = p refl
split-both P false p q = q refl

-- Pairs in a row, nested to the right as `Every` nests them.
infixr 4 ◌and◌
abbrev pub ◌and◌ : {A B : Type 0} → A → B → A × B
a and b = (a, b)

pub both : {a b : Bool} → a ≡ true → b ≡ true → (a && b) ≡ true
both p q = rw (p, q)

pub first : (a b : Bool) → (a && b) ≡ true → a ≡ true
first true b h = refl
first false b h = h

pub second : (a b : Bool) → (a && b) ≡ true → b ≡ true
second true b h = h
second false true h = refl
second false false h = h

pub fails : (a : Bool) {b : Bool} → b ≡ false → (a && b) ≡ false
fails true h = h
fails false h = refl

pub either : (a : Bool) {b : Bool} → b ≡ true → (a || b) ≡ true
either true h = refl
either false h = h

pub neither : (a b : Bool) → (a || b) ≡ false → (a ≡ false) × (b ≡ false)
neither true b h = absurd (false≢true (sym h))
neither false b h = (refl, h)

pub apart : {b : Bool} → b ≡ true → b ≡ false → ⊥
apart p q = let z : ◌≡◌ {A = ℕ} 0 1 = ap (λ t. cond t 0 1) (sym p ∙ q) in omega arith

-- One place replaced.

module _ {A : Type 0} where
  pub put_at : (f : ℕ → A) (k : ℕ) (v : A) → put f k v k ≡ v
  unfolding put
  put_at f k v = rw (eq-eqb k k refl)

  pub put_off : (f : ℕ → A) (k : ℕ) (v : A) (i : ℕ) → (i ≡ k → ⊥) → put f k v i ≡ f i
  unfolding put
  put_off f k v i h = rw (ne_eqb i k h)

  -- replaced by what was there
  pub put_same : (f : ℕ → A) (k : ℕ) → put f k (f k) ≡ f
  put_same f k = fun_ext λ i. on (eqb i k)
      (λ e. let d : i ≡ k = eqb-true i k e in rw d (put_at f k (f k)))
      (λ e. put_off f k (f k) i (eqb-false i k e))

  -- what holds of the new value at its place, and of the others at theirs, holds everywhere
  pub put_all : (Q : ℕ → A → Type 0) (f : ℕ → A) (k : ℕ) (v : A) → Q k v → ((i : ℕ) → (i ≡ k → ⊥) → Q i (f i)) → (i : ℕ) → Q i (put f k v i)
  put_all Q f k v here off i = on (eqb i k)
      (λ e. let d : i ≡ k = eqb-true i k e in rw d (rw (put_at f k v) here))
      (λ e. let d = eqb-false i k e in rw (put_off f k v i d) (off i d))

  -- a run of none, and a run with one value more
  pub pasted_none : (a : ℕ) (g f : ℕ → A) → pasted a 0 g f ≡ f
  unfolding pasted
  pasted_none a g f = fun_ext λ i. on (leb a i)
      (λ p. rw (p, le-ltb i (a + 0) (let q : a ≤ i = leb-true a i p in omega arith)))
      (λ p. rw p)

  pub pasted_in : (a k : ℕ) (g f : ℕ → A) (i : ℕ) → a ≤ i → i < a + k → pasted a k g f i ≡ g (i - a)
  unfolding pasted
  pasted_in a k g f i p q = rw (le-leb a i p, lt-ltb i (a + k) q)

  pub pasted_below : (a k : ℕ) (g f : ℕ → A) (i : ℕ) → i < a → pasted a k g f i ≡ f i
  unfolding pasted
  pasted_below a k g f i p = rw (lt-leb a i p)

  pub pasted_above : (a k : ℕ) (g f : ℕ → A) (i : ℕ) → a + k ≤ i → pasted a k g f i ≡ f i
  unfolding pasted
  pasted_above a k g f i p = rw (le-leb a i (omega arith), le-ltb i (a + k) p)

  pub pasted_more : (a k : ℕ) (g f : ℕ → A) → put (pasted a k g f) (a + k) (g k) ≡ pasted a (k + 1) g f
  pasted_more a k g f = fun_ext λ i. on (eqb i (a + k))
      (λ p. let e : i ≡ a + k = eqb-true i (a + k) p in here i e)
      (λ p. let n : i ≡ a + k → ⊥ = eqb-false i (a + k) p in
      put_off (pasted a k g f) (a + k) (g k) i n ∙ rest i n)
    where
      here : (i : ℕ) → i ≡ a + k → put (pasted a k g f) (a + k) (g k) i ≡ pasted a (k + 1) g f i
      here i e =
          ap (put (pasted a k g f) (a + k) (g k)) e
          ∙ put_at (pasted a k g f) (a + k) (g k)
          ∙ ap g (omega arith)
          ∙ sym (pasted_in a (k + 1) g f i (omega arith) (omega arith))

      rest : (i : ℕ) → (i ≡ a + k → ⊥) → pasted a k g f i ≡ pasted a (k + 1) g f i
      rest i n = by_place a k i
          (λ p. pasted_below a k g f i p ∙ sym (pasted_below a (k + 1) g f i p))
          (λ p q. pasted_in a k g f i p q ∙ sym (pasted_in a (k + 1) g f i p (omega arith)))
          (λ p. pasted_above a k g f i p ∙ sym (pasted_above a (k + 1) g f i (omega arith)))

  -- the same where the pasted values agree
  pub pasted_same : (a k : ℕ) (g h f : ℕ → A) → ((i : ℕ) → i < k → g i ≡ h i) → pasted a k g f ≡ pasted a k h f
  pasted_same a k g h f e = fun_ext λ i. by_place a k i
      (λ p. pasted_below a k g f i p ∙ sym (pasted_below a k h f i p))
      (λ p q. pasted_in a k g f i p q ∙ e (i - a) (omega arith) ∙ sym (pasted_in a k h f i p q))
      (λ p. pasted_above a k g f i p ∙ sym (pasted_above a k h f i p))

-- two functions at once
pub put_both : {A B : Type 0} (Q : ℕ → A → B → Type 0) (f : ℕ → A) (g : ℕ → B) (k : ℕ) (v : A) (w : B)
    → Q k v w → ((i : ℕ) → (i ≡ k → ⊥) → Q i (f i) (g i)) → (i : ℕ) → Q i (put f k v i) (put g k w i)
put_both Q f g k v w here off i = on (eqb i k)
    (λ e. let d : i ≡ k = eqb-true i k e in rw d (rw (put_at f k v, put_at g k w) here))
    (λ e. let d = eqb-false i k e in rw (put_off f k v i d, put_off g k w i d) (off i d))

-- Each of 1 to n.

pub each_none : (test : ℕ → Bool) → each 0 test ≡ true
unfolding each
each_none test = refl

pub each_step : (i : ℕ) (test : ℕ → Bool) → each (i + 1) test ≡ (each i test && test (i + 1))
unfolding each
each_step i test = rw add-one

pub each_more : (i : ℕ) (test : ℕ → Bool) → each i test ≡ true → test (i + 1) ≡ true → each (i + 1) test ≡ true
each_more i test p q = each_step i test ∙ both p q

-- what holds of each holds of one
pub each_at : (n : ℕ) (test : ℕ → Bool) → each n test ≡ true → (k : ℕ) → 1 ≤ k → k ≤ n → test k ≡ true
unfolding each
each_at zero test h k p q = absurd (omega arith)
each_at (suc n) test h k p q = on (eqb k (suc n))
    (λ e. rw (eqb-true k (suc n) e) (second (each n test) (test (suc n)) h))
    (λ e. let d : k ≡ suc n → ⊥ = eqb-false k (suc n) e in
    each_at n test (first (each n test) (test (suc n)) h) k p (omega arith))

pub each_all : (n : ℕ) (test : ℕ → Bool) → ((k : ℕ) → 1 ≤ k → k ≤ n → test k ≡ true) → each n test ≡ true
unfolding each
each_all zero test h = refl
each_all (suc n) test h = both (each_all n test (λ k p q. h k p (omega arith))) (h (suc n) (omega arith) (omega arith))

-- one that fails
pub each_fails : (n : ℕ) (test : ℕ → Bool) (k : ℕ) → 1 ≤ k → k ≤ n → test k ≡ false → each n test ≡ false
each_fails n test k p q h = on (each n test) (λ e. absurd (apart (each_at n test e k p q) h)) (λ e. e)

-- the same where the tests agree on 1 to n
pub each_same : (n : ℕ) (s t : ℕ → Bool) → ((k : ℕ) → 1 ≤ k → k ≤ n → s k ≡ t k) → each n s ≡ each n t
unfolding each
each_same zero s t h = refl
each_same (suc n) s t h =
    rw (each_same n s t (λ k p q. h k p (omega arith)), h (suc n) (omega arith) (omega arith))

pub inside_in : (n i : ℕ) → 1 ≤ i → i ≤ n → inside n i ≡ true
unfolding inside
inside_in n i p q = both (le-leb 1 i p) (le-leb i n q)

-- one of 1 to n is one of 1 to 12
pub widened : (n k : ℕ) → n ≤ 12 → Within n k → Within 12 k
widened n k h w = record { least = w.least; most = omega (arith, w.most) }

pub inside_zero : (n : ℕ) → inside n 0 ≡ false
unfolding inside
inside_zero n = refl

pub inside_above : (n i : ℕ) → n < i → inside n i ≡ false
unfolding inside
inside_above n i p = fails (leb 1 i) (lt-leb i n p)

pub inside_low : (n i : ℕ) → inside n i ≡ true → 1 ≤ i
unfolding inside
inside_low n i h = leb-true 1 i (first (leb 1 i) (leb i n) h)

pub inside_high : (n i : ℕ) → inside n i ≡ true → i ≤ n
unfolding inside
inside_high n i h = leb-true i n (second (leb 1 i) (leb i n) h)

-- Values under the numbers 1 to n.

module _ {A : Type 0} where
  pub within_at : (n : ℕ) (d : A) (f : ℕ → A) (k : ℕ) → 1 ≤ k → k ≤ n → within n d f k ≡ f k
  unfolding within
  within_at n d f k p q = rw (inside_in n k p q)

  pub within_off : (n : ℕ) (d : A) (f : ℕ → A) (k : ℕ) → inside n k ≡ false → within n d f k ≡ d
  unfolding within
  within_off n d f k h = rw h

  pub within_same : (n : ℕ) (d : A) (f g : ℕ → A) → ((k : ℕ) → 1 ≤ k → k ≤ n → f k ≡ g k) → within n d f ≡ within n d g
  within_same n d f g h = fun_ext λ k. on (inside n k)
      (λ p. let a = inside_low n k p in let b = inside_high n k p in
      within_at n d f k a b ∙ h k a b ∙ sym (within_at n d g k a b))
      (λ p. within_off n d f k p ∙ sym (within_off n d g k p))

  -- `numbered` is `within` of the values one place on
  pub numbered_within : (n : ℕ) (d : A) (f : ℕ → A) → numbered n d f ≡ within n d (λ k. f (k - 1))
  unfolding numbered within
  numbered_within n d f = refl

  pub numbered_off : (n : ℕ) (d : A) (f : ℕ → A) (k : ℕ) → inside n k ≡ false → numbered n d f k ≡ d
  unfolding numbered
  numbered_off n d f k h = rw h

  pub numbered_at : (n : ℕ) (d : A) (f : ℕ → A) (i : ℕ) → i < n → numbered n d f (i + 1) ≡ f i
  numbered_at n d f i h =
      ap (λ g. g (i + 1)) (numbered_within n d f)
      ∙ within_at n d (λ k. f (k - 1)) (i + 1) (omega arith) (omega arith)
      ∙ ap f (omega arith)

  pub numbered_same : (n : ℕ) (d : A) (f g : ℕ → A) → ((i : ℕ) → i < n → f i ≡ g i) → numbered n d f ≡ numbered n d g
  numbered_same n d f g h =
      numbered_within n d f
      ∙ within_same n d (λ k. f (k - 1)) (λ k. g (k - 1)) (λ k p q. h (k - 1) (omega arith))
      ∙ sym (numbered_within n d g)

  -- one value replaced
  pub numbered_put : (n : ℕ) (d : A) (f : ℕ → A) (i : ℕ) (v : A) → i < n → numbered n d (put f i v) ≡ put (numbered n d f) (i + 1) v
  unfolding numbered put
  numbered_put n d f i v h = fun_ext λ k. on (eqb k (i + 1))
      (λ p. let e : k ≡ i + 1 = eqb-true k (i + 1) p in
      rw (p, inside_in n k (omega arith) (omega arith), eq-eqb (k - 1) i (omega arith)))
      (λ p. on (inside n k)
      (λ q. let d = eqb-false k (i + 1) p in let a = inside_low n k q in
      rw (p, q, ne_eqb (k - 1) i (λ e. d (omega arith))))
      (λ q. rw (p, q)))

  -- the first k values alone, the rest blank
  pub numbered_padded : (n k : ℕ) (d : A) (g : ℕ → A) → k ≤ n → numbered n d (pasted 0 k g (λ i. d)) ≡ numbered k d g
  numbered_padded n k d g h = fun_ext λ j. by_place 1 k j
      (λ p. let e : j ≡ 0 = omega arith in
      rw e (numbered_off n d (pasted 0 k g (λ i. d)) 0 (inside_zero n) ∙ sym (numbered_off k d g 0 (inside_zero k))))
      (λ p q. let e : j ≡ j - 1 + 1 = omega arith in rw e
      (numbered_at n d (pasted 0 k g (λ i. d)) (j - 1) (omega arith)
      ∙ pasted_in 0 k g (λ i. d) (j - 1) (omega arith) (omega arith)
      ∙ ap g (omega arith)
      ∙ sym (numbered_at k d g (j - 1) (omega arith))))
      (λ p. on (inside n j)
      (λ q. let a = inside_high n j q in let e : j ≡ j - 1 + 1 = omega arith in
      ap (numbered n d (pasted 0 k g (λ i. d))) e
      ∙ numbered_at n d (pasted 0 k g (λ i. d)) (j - 1) (omega arith)
      ∙ pasted_above 0 k g (λ i. d) (j - 1) (omega arith)
      ∙ sym (numbered_off k d g j (inside_above k j (omega arith))))
      (λ q. numbered_off n d (pasted 0 k g (λ i. d)) j q ∙ sym (numbered_off k d g j (inside_above k j (omega arith)))))

-- Runs side by side, and what is read from a place on.

module _ {A : Type 0} where
  -- the first value of a run
  pub pasted_one : (a : ℕ) (g f : ℕ → A) → put f a (g 0) ≡ pasted a 1 g f
  pasted_one a g f =
      ap (λ h. put h a (g 0)) (sym (pasted_none a g f))
      ∙ ap (λ i. put (pasted a 0 g f) i (g 0)) (let e : a ≡ a + 0 = omega arith in e)
      ∙ pasted_more a 0 g f

  -- a run that goes on where another ends
  pub pasted_join : (a k m : ℕ) (g h f : ℕ → A) → ((i : ℕ) → i < m → h i ≡ g (k + i))
      → pasted (a + k) m h (pasted a k g f) ≡ pasted a (k + m) g f
  pasted_join a k m g h f e = fun_ext λ i. by_place (a + k) m i
      (λ p. pasted_below (a + k) m h (pasted a k g f) i p ∙ by_place a k i
      (λ q. pasted_below a k g f i q ∙ sym (pasted_below a (k + m) g f i q))
      (λ q r. pasted_in a k g f i q r ∙ sym (pasted_in a (k + m) g f i q (omega arith)))
      (λ q. absurd (omega arith)))
      (λ p q. pasted_in (a + k) m h (pasted a k g f) i p q
      ∙ e (i - (a + k)) (omega arith)
      ∙ ap g (let s : k + (i - (a + k)) ≡ i - a = omega arith in s)
      ∙ sym (pasted_in a (k + m) g f i (omega arith) (omega arith)))
      (λ p. pasted_above (a + k) m h (pasted a k g f) i p
      ∙ pasted_above a k g f i (omega arith)
      ∙ sym (pasted_above a (k + m) g f i (omega arith)))

  pub from_at : (f : ℕ → A) (a i : ℕ) → from f a i ≡ f (a + i)
  unfolding from
  from_at f a i = refl

  pub from_first : (f : ℕ → A) (a : ℕ) → from f a 0 ≡ f a
  unfolding from
  from_first f a = ap f (let e : a + 0 ≡ a = omega arith in e)

  pub from_zero : (f : ℕ → A) → from f 0 ≡ f
  unfolding from
  from_zero f = fun_ext λ i. ap f (let e : 0 + i ≡ i = omega arith in e)

  pub from_from : (f : ℕ → A) (a b : ℕ) → from (from f a) b ≡ from f (a + b)
  unfolding from
  from_from f a b = fun_ext λ i. ap f (let e : a + (b + i) ≡ a + b + i = omega arith in e)

  -- where a run was pasted: in it, from its first place on, before it and after it
  pub from_pasted_in : (a k : ℕ) (g f : ℕ → A) (b i : ℕ) → a ≤ b → b + i < a + k → from (pasted a k g f) b i ≡ from g (b - a) i
  unfolding from
  from_pasted_in a k g f b i p q =
      pasted_in a k g f (b + i) (omega arith) q ∙ ap g (let e : b + i - a ≡ b - a + i = omega arith in e)

  pub from_pasted_at : (a k : ℕ) (g f : ℕ → A) (i : ℕ) → i < k → from (pasted a k g f) a i ≡ g i
  unfolding from
  from_pasted_at a k g f i h =
      pasted_in a k g f (a + i) (omega arith) (omega arith) ∙ ap g (let e : a + i - a ≡ i = omega arith in e)

  pub from_pasted_below : (a k : ℕ) (g f : ℕ → A) (b i : ℕ) → b + i < a → from (pasted a k g f) b i ≡ from f b i
  unfolding from
  from_pasted_below a k g f b i h = pasted_below a k g f (b + i) h

  pub from_pasted_above : (a k : ℕ) (g f : ℕ → A) (b : ℕ) → a + k ≤ b → from (pasted a k g f) b ≡ from f b
  unfolding from
  from_pasted_above a k g f b h = fun_ext λ i. pasted_above a k g f (b + i) (omega arith)

  -- values that were numbered from 1 already
  pub numbered_next : (n : ℕ) (d : A) (f : ℕ → A) → numbered n d (λ i. f (i + 1)) ≡ within n d f
  numbered_next n d f =
      numbered_within n d (λ i. f (i + 1))
      ∙ within_same n d (λ k. f (k - 1 + 1)) f (λ k p q. ap f (let e : k - 1 + 1 ≡ k = omega arith in e))

  -- nothing but blanks
  pub within_blank : (n : ℕ) (d : A) → within n d (λ k. d) ≡ (λ k. d)
  within_blank n d = fun_ext λ k. on (inside n k)
      (λ p. within_at n d (λ k. d) k (inside_low n k p) (inside_high n k p))
      (λ p. within_off n d (λ k. d) k p)

  pub numbered_blank : (n : ℕ) (d : A) → numbered n d (λ i. d) ≡ (λ k. d)
  numbered_blank n d = numbered_within n d (λ i. d) ∙ within_blank n d
