-- Chains of grounds, of which the first that holds gives the number, and 0 says that none does. A ground t of number k stands as
-- `cond t k rest`; the number of a call, before grounds that are looked at where it is 0, as `cond (eqb number 0) rest number`.
use Prim.Native.Nat.{ℕ, ◌<◌}
use mathlib.Core.Path.{◌≡◌, refl, sym, ◌∙◌}
use mathlib.Core.Bool.{Bool, true, false, cond, not}
use native.Mathlib.Omega.{arith}
use lib.Dec.{eqb}
use borrow.Author.Tests.{eq-eqb, ne_eqb, eqb-true, eqb-false}
use Rattle.lists.proofs.Functions.{on}

-- Answered 0: the first ground does not hold, and the rest is answered 0.

pub no_ground : (t : Bool) {k rest : ℕ} → 0 < k → cond t k rest ≡ 0 → (t ≡ false) × (rest ≡ 0)
no_ground true p h = absurd (omega arith)
no_ground false p h = (refl, h)

-- the ground is that a test fails
pub no_failure : (t : Bool) {k rest : ℕ} → 0 < k → cond (not t) k rest ≡ 0 → (t ≡ true) × (rest ≡ 0)
no_failure true p h = (refl, h)
no_failure false p h = absurd (omega arith)

pub no_number : (number : ℕ) {rest : ℕ} → cond (eqb number 0) rest number ≡ 0 → (number ≡ 0) × (rest ≡ 0)
no_number number h = on (eqb number 0)
    (λ p. (eqb-true number 0 p, rw p at h))
    (λ p. let z : number ≡ 0 = rw p at h in absurd (eqb-false number 0 p z))

-- A call gave the number that stands first: it is the answer, or it is 0 and the rest is.

pub number_refuses : {number a : ℕ} (rest : ℕ) → number ≡ a → (number ≡ 0 → ⊥) → number ≡ cond (eqb a 0) rest a
number_refuses {number} {a} rest e h = rw (ne_eqb a 0 (λ z. h (e ∙ z))) e

pub number_passes : {number a rest r : ℕ} → number ≡ a → number ≡ 0 → r ≡ rest → r ≡ cond (eqb a 0) rest a
number_passes {number} {a} e z h = rw (eq-eqb a 0 (sym e ∙ z)) h

-- numbers asked in a row may be grouped from either end
pub grouped : (a b rest : ℕ)
    → cond (eqb (cond (eqb a 0) b a) 0) rest (cond (eqb a 0) b a) ≡ cond (eqb a 0) (cond (eqb b 0) rest b) a
grouped a b rest = on (eqb a 0) (λ e. rw e) (λ e. rw (e, e))

-- one ground more may count to the number that stands first
pub regrouped : (a : ℕ) (t : Bool) (k rest : ℕ) → 0 < k
    → cond (eqb (cond (eqb a 0) (cond t k 0) a) 0) rest (cond (eqb a 0) (cond t k 0) a) ≡ cond (eqb a 0) (cond t k rest) a
regrouped a true k rest p = grouped a k rest ∙ rw (ne_eqb k 0 (omega arith))
regrouped a false k rest p = grouped a 0 rest

-- What a call of number k leaves: all as it was where it is refused, and else what it makes.

module _ {A : Type 0} {k : ℕ} (before made : A) where
  pub stays : {number : ℕ} → number ≡ k → (number ≡ 0 → ⊥) → before ≡ cond (eqb k 0) made before
  stays e h = rw (ne_eqb k 0 (λ z. h (e ∙ z)))

  pub becomes : {after : A} → k ≡ 0 → after ≡ made → after ≡ cond (eqb k 0) made before
  becomes z e = rw (eq-eqb k 0 z) e
