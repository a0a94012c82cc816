-- The comparison of two rows answers exactly what is so, and the words of the paper by its answer. Two rows go through the tests of the
-- definition: what was found is so; and what is so decides every test.
use Prim.Native.Nat.{ℕ}
use native.Mathlib.Nat.{le_refl}
use mathlib.Core.Path.{◌≡◌, refl, sym, subst}
use mathlib.Core.Bool.{Bool, true, false, cond, not, ◌||◌}
use lib.Dec.{eqb}
use borrow.Author.Tests.{eq-eqb, eqb-true}
use Rattle.lists.specs.Functions.{each}
use Rattle.lists.proofs.Functions.{on, apart, split, each_at, each_all}
use Rattle.model.specs.Rows.{Row, below, comparable, larger}
use Rattle.model.specs.Rows.{Comparison, is_equal, is_below, is_above, is_crossed, equal, compared, equal_or_below, crossed}
use Rattle.model.specs.RowClaims.{EachEqual, NoneExceeds, IsSo, RowsCompared}
use Rattle.model.proofs.Rows.{below_at, below_of, below_antisym}

-- The tests, and what they say of the entries.

refuted : (b : Bool) → (b ≡ true → ⊥) → b ≡ false
refuted b d = on b (λ e. absurd (d e)) (λ e. e)

equal_at : (n : ℕ) (a b : Row) → equal n a b ≡ true → EachEqual n a b
unfolding equal
equal_at n a b h k p q = eqb-true (a k) (b k) (each_at n (λ k. eqb (a k) (b k)) h k p q)

equal_of : (n : ℕ) (a b : Row) → EachEqual n a b → equal n a b ≡ true
unfolding equal
equal_of n a b h = each_all n (λ k. eqb (a k) (b k)) (λ k p q. eq-eqb (a k) (b k) (h k p q))

-- equal rows are below each other
equal_below : (n : ℕ) (a b : Row) → EachEqual n a b → NoneExceeds n a b
equal_below n a b h k p q = rw (h k p q) (le_refl (b k))

equal_above : (n : ℕ) (a b : Row) → EachEqual n a b → NoneExceeds n b a
equal_above n a b h = equal_below n b a (λ k p q. sym (h k p q))

unequal : (n : ℕ) (a b : Row) → (EachEqual n a b → ⊥) → equal n a b ≡ false
unequal n a b d = refuted (equal n a b) (λ e. d (equal_at n a b e))

-- a row above another, and not equal, is not below it
exceeded : (n : ℕ) (a b : Row) → NoneExceeds n b a × (EachEqual n a b → ⊥) → below n a b ≡ false
exceeded n a b h = refuted (below n a b) (λ p. h.1 (below_antisym n a b p (below_of n b a h.0)))

-- What was found is so.

found : (n : ℕ) (a b : Row) → IsSo n a b (compared n a b)
unfolding compared
found n a b = split (IsSo n a b) (equal n a b) (equal_at n a b)
    (λ e. let d : EachEqual n a b → ⊥ = λ h. apart (equal_of n a b h) e in
    split (IsSo n a b) (below n a b) (λ p. (below_at n a b p, d))
    (λ p. split (IsSo n a b) (below n b a) (λ q. (below_at n b a q, d))
    (λ q. (λ h. apart (below_of n a b h) p, λ h. apart (below_of n b a h) q))))

-- What is so decides every test.

so : (n : ℕ) (a b : Row) (answer : Comparison) → IsSo n a b answer → compared n a b ≡ answer
unfolding compared
so n a b is_equal h = rw (equal_of n a b h)
so n a b is_below h = rw (unequal n a b h.1, below_of n a b h.0)
so n a b is_above h = rw (unequal n a b h.1, exceeded n a b h, below_of n b a h.0)
so n a b is_crossed h = rw (
  unequal n a b (λ e. h.0 (equal_below n a b e)),
  refuted (below n a b) (λ p. h.0 (below_at n a b p)),
  refuted (below n b a) (λ p. h.1 (below_at n b a p)),
)

-- The answer by two flags, and the words of the paper by the answer.

-- does an entry of the first row exceed its fellow; does one of the second's
abbrev pub by_flags : Bool → Bool → Comparison
by_flags exceeds exceeded = cond exceeds (cond exceeded is_crossed is_above) (cond exceeded is_below is_equal)

pub compared_flags : (n : ℕ) (a b : Row) → compared n a b ≡ by_flags (not (below n a b)) (not (below n b a))
compared_flags n a b = on (below n a b)
    (λ p. on (below n b a)
    (λ q. rw (p, q) (so n a b is_equal (below_antisym n a b p q)))
    (λ q. rw (p, q) (so n a b is_below (below_at n a b p, λ h. apart (below_of n b a (equal_above n a b h)) q))))
    (λ p. on (below n b a)
    (λ q. rw (p, q) (so n a b is_above (below_at n b a q, λ h. apart (below_of n a b (equal_below n a b h)) p)))
    (λ q. rw (p, q) (so n a b is_crossed (λ h. apart (below_of n a b h) p, λ h. apart (below_of n b a h) q))))

flags_below : (p q : Bool) → p ≡ equal_or_below (by_flags (not p) (not q))
flags_below true true = refl
flags_below true false = refl
flags_below false true = refl
flags_below false false = refl

flags_comparable : (p q : Bool) → (p || q) ≡ not (crossed (by_flags (not p) (not q)))
flags_comparable true true = refl
flags_comparable true false = refl
flags_comparable false true = refl
flags_comparable false false = refl

below_compared : (n : ℕ) (a b : Row) → below n a b ≡ equal_or_below (compared n a b)
below_compared n a b = rw (compared_flags n a b) (flags_below (below n a b) (below n b a))

comparable_compared : (n : ℕ) (a b : Row) → comparable n a b ≡ not (crossed (compared n a b))
unfolding comparable
comparable_compared n a b = rw (compared_flags n a b) (flags_comparable (below n a b) (below n b a))

-- The claim, for every n and any two rows.

pub rows_compared : (n : ℕ) (a b : Row) → RowsCompared n a b
unfolding larger
rows_compared n a b = record {
  exactly = λ answer. (λ e. subst (IsSo n a b) e (found n a b), so n a b answer);
  for25 = below_compared n a b;
  for26 = comparable_compared n a b;
  for_matrix = rw (below_compared n a b);
}

-- Each answer occurs, and an entry past n is not looked at.

two : ℕ → ℕ → Row
two a b k = cond (eqb k 1) a (cond (eqb k 2) b 0)

sample : (compared 2 (two 3 5) (two 3 5) ≡ is_equal)
    × (compared 2 (two 3 5) (two 4 5) ≡ is_below)
    × (compared 2 (two 3 5) (two 3 4) ≡ is_above)
    × (compared 2 (two 3 5) (two 5 3) ≡ is_crossed)
    × (compared 1 (two 3 5) (two 5 3) ≡ is_below)
unfolding compared equal below each two
sample = (refl, refl, refl, refl, refl)
