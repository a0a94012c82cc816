-- The numbers that begin, deliver and crash are answered with are those of document 01's table. Each call is a list of rows
-- (NumberTables.antt): the grounds give the number by computing, and of every call some row's grounds hold, by going through the tests.
use Prim.Native.Nat.{ℕ, ◌≤◌, ◌<◌}
use mathlib.Core.Path.{◌≡◌, refl}
use mathlib.Core.Bool.{Bool, true, false, cond, not, ◌&&◌, ◌||◌}
use mathlib.Core.List.{[], ◌∷◌}
use mathlib.Core.Logic.{◌⊎◌, inl, inr, ⊎_elim}
use native.Mathlib.Omega.{arith}
use lib.Dec.{eqb, leb}
use borrow.Author.Tests.{eqb-true, eqb-false, eq-eqb, ne_eqb, leb-true, leb-false, le-leb, lt-leb}
use Rattle.lists.specs.Functions.{inside}
use Rattle.lists.proofs.Functions.{◌and◌, on, apart, inside_in, inside_low, inside_high}
use Rattle.model.specs.Kinds.{Kind, concur, auction, is_operation, barred}
use Rattle.model.specs.Numbers.{fields_number, begin_answer, deliver_answer, crash_answer}
use Rattle.model.specs.NumberClaims.{OneTo, Barred, Allowed, NothingToDeliver, BeginNumbers, DeliverNumbers, CrashNumbers}
use Rattle.model.specs.NumberClaims.{NumbersAsListed}
use Rattle.model.proofs.NumberTables.{Rows, Some, Give, Off, Distinct, Exactly, All, exactly, listed, three_rows}

-- The tests, and what they mean.

pub one_to : (n k : ℕ) → inside n k ≡ true → OneTo n k
one_to n k h = (inside_low n k h, inside_high n k h)

pub none_such : (n k : ℕ) → inside n k ≡ false → OneTo n k → ⊥
none_such n k h o = apart (inside_in n k o.0 o.1) h

pub is_inside : {n k : ℕ} → OneTo n k → inside n k ≡ true
is_inside {n} {k} o = inside_in n k o.0 o.1

pub not_inside : (n k : ℕ) → (OneTo n k → ⊥) → inside n k ≡ false
not_inside n k h = on (inside n k) (λ p. absurd (h (one_to n k p))) (λ p. p)

not_operation : (t : ℕ) → (t ≡ 1 → ⊥) → (t ≡ 2 → ⊥) → is_operation t ≡ false
unfolding is_operation
not_operation t a b = rw (ne_eqb t 1 a, ne_eqb t 2 b)

pub record Tested (i r t : ℕ) (refused : Bool) : Type 0 where
  pub operation : is_operation t ≡ true
  pub seven : barred i r t ≡ refused

barred_tested : (i r t : ℕ) → Barred i r t → Tested i r t true
unfolding is_operation barred
barred_tested i r t b = record { operation = rw b.0; seven = simp (b.0, ne_eqb i r b.1) }

pub allowed_tested : (i r t : ℕ) → Allowed i r t → Tested i r t false
unfolding is_operation barred
allowed_tested i r t b = ⊎_elim
    (λ h. record { operation = rw h.0; seven = rw (h.0, eq-eqb i r h.1) })
    (λ h. record { operation = rw h; seven = rw h })
    b

-- a type is none, barred or allowed
by-type {ℓ} : {B : Type ℓ} (i r t : ℕ) → ((t ≡ 1 → ⊥) → (t ≡ 2 → ⊥) → B) → (Barred i r t → B) → (Allowed i r t → B) → B
by-type i r t none bars allows = on (eqb t 2)
    (λ p. let e = eqb-true t 2 p in
    on (eqb i r) (λ q. allows (inl (e, eqb-true i r q))) (λ q. bars (e, eqb-false i r q)))
    (λ p. on (eqb t 1)
    (λ q. allows (inr (eqb-true t 1 q)))
    (λ q. none (eqb-false t 1 q) (eqb-false t 2 p)))

is_busy : (phase crashed : ℕ) → (phase ≡ 0 → ⊥) ⊎ (crashed ≡ 0 → ⊥) → (not (eqb phase 0) || not (eqb crashed 0)) ≡ true
is_busy phase crashed (inl h) = rw (ne_eqb phase 0 h)
is_busy phase crashed (inr h) = on (eqb phase 0) (λ p. rw (p, ne_eqb crashed 0 h)) (λ p. rw p)

module _ (kind : Kind) (n phase crashed count i r t : ℕ) where
  abbrev begin-rows : Rows
  begin-rows =
      (4, OneTo n i → ⊥)
      ∷ (5, OneTo n i × (OneTo n r → ⊥))
      ∷ (6, OneTo n i × OneTo n r × (t ≡ 1 → ⊥) × (t ≡ 2 → ⊥))
      ∷ (7, OneTo n i × OneTo n r × Barred i r t)
      ∷ (8, OneTo n i × OneTo n r × Allowed i r t × ((phase ≡ 0 → ⊥) ⊎ (crashed ≡ 0 → ⊥)))
      ∷ (9, OneTo n i × OneTo n r × Allowed i r t × (phase ≡ 0) × (crashed ≡ 0) × (kind.limit ≤ count))
      ∷ (0, OneTo n i × OneTo n r × Allowed i r t × (phase ≡ 0) × (crashed ≡ 0) × (count < kind.limit))
      ∷ []

  begin-some : Some begin-rows
  unfolding Some
  begin-some = on (inside n i)
      (λ p. let m = one_to n i p in
      on (inside n r)
      (λ q. let s = one_to n r q in
      by-type i r t
      (λ a b. inr (inr (inl (m, s, a, b))))
      (λ b. inr (inr (inr (inl (m, s, b)))))
      (λ a. on (eqb phase 0)
      (λ d. let idle = eqb-true phase 0 d in
      on (eqb crashed 0)
      (λ c. let up = eqb-true crashed 0 c in
      on (leb kind.limit count)
      (λ l. inr (inr (inr (inr (inr (inl (m, s, a, idle, up, leb-true kind.limit count l)))))))
      (λ l. inr (inr (inr (inr (inr (inr (inl (m, s, a, idle, up, leb-false kind.limit count l)))))))))
      (λ c. inr (inr (inr (inr (inl (m, s, a, inr (eqb-false crashed 0 c))))))))
      (λ d. inr (inr (inr (inr (inl (m, s, a, inl (eqb-false phase 0 d)))))))))
      (λ q. inr (inl (m, none_such n r q))))
      (λ p. inl (none_such n i p))

  begin-gives : Give (begin_answer kind n phase crashed count i r t) begin-rows
  unfolding Give begin_answer fields_number
  begin-gives =
      let bars = barred_tested i r t in
      let allows = allowed_tested i r t in
      (λ g. simp (not_inside n i g))
      and (λ g. simp (is_inside g.0, not_inside n r g.1))
      and (λ g. simp (is_inside g.0, is_inside g.1, not_operation t g.2 g.3))
      and (λ g. simp (is_inside g.0, is_inside g.1, (bars g.2).operation, (bars g.2).seven))
      and (λ g. let a = allows g.2 in
      simp (is_inside g.0, is_inside g.1, a.operation, a.seven, is_busy phase crashed g.3))
      and (λ g. let a = allows g.2 in
      simp (is_inside g.0, is_inside g.1, a.operation, a.seven, g.3, g.4, le-leb kind.limit count g.5))
      and (λ g. let a = allows g.2 in
      simp (is_inside g.0, is_inside g.1, a.operation, a.seven, g.3, g.4, lt-leb kind.limit count g.5))
      and tt

  begin-exactly : Exactly (begin_answer kind n phase crashed count i r t) begin-rows
  unfolding Distinct Off
  begin-exactly = exactly _ begin-rows (omega arith) begin-gives begin-some

  begin-numbers : BeginNumbers kind.limit n phase crashed count i r t (begin_answer kind n phase crashed count i r t)
  unfolding Exactly All
  begin-numbers = let e = begin-exactly in record {
    four = e.0;
    five = e.1.0;
    six = e.1.1.0;
    seven = e.1.1.1.0;
    eight = e.1.1.1.1.0;
    nine = e.1.1.1.1.1.0;
    done = e.1.1.1.1.1.1.0;
    no_other = listed (λ k. (k ≡ 0) ⊎ ((4 ≤ k) × (k ≤ 9))) (begin_answer kind n phase crashed count i r t) begin-rows
        (inr (omega arith)
        and inr (omega arith)
        and inr (omega arith)
        and inr (omega arith)
        and inr (omega arith)
        and inr (omega arith)
        and inl refl
        and tt)
        begin-gives
        begin-some;
  }

-- what deliver answers to a member that there is
unfoldable due : ℕ → ℕ → ℕ
due phase crashed =
    cond (eqb phase 0 || eqb phase 6) 10
    (cond (not (eqb crashed 0) && (eqb phase 2 || eqb phase 4 || eqb phase 5)) 10
    0)

stopped : (phase crashed : ℕ) → NothingToDeliver phase crashed → due phase crashed ≡ 10
unfolding due
stopped phase crashed (inl e) = rw e
stopped phase crashed (inr (inl e)) = rw e
stopped phase crashed (inr (inr h)) = ⊎_elim
    {A = phase ≡ 2}
    {B = (phase ≡ 4) ⊎ (phase ≡ 5)}
    (λ e. rw (e, ne_eqb crashed 0 h.0))
    (⊎_elim {A = phase ≡ 4} {B = phase ≡ 5} (λ e. rw (e, ne_eqb crashed 0 h.0)) (λ e. rw (e, ne_eqb crashed 0 h.0)))
    h.1

on_its_way : (phase crashed : ℕ) → (NothingToDeliver phase crashed → ⊥) → due phase crashed ≡ 0
unfolding due
on_its_way phase crashed clear =
    rw (ne_eqb phase 0 (λ e. clear (inl e)), ne_eqb phase 6 (λ e. clear (inr (inl e))))
    (on (eqb crashed 0) (λ c. rw c) (λ c. rw (
      c,
      ne_eqb phase 2 (λ e. clear (inr (inr (eqb-false crashed 0 c, inl e)))),
      ne_eqb phase 4 (λ e. clear (inr (inr (eqb-false crashed 0 c, inr (inl e))))),
      ne_eqb phase 5 (λ e. clear (inr (inr (eqb-false crashed 0 c, inr (inr e))))),
    )))

module _ (n phase crashed i : ℕ) where
  abbrev deliver-rows : Rows
  deliver-rows =
      (4, OneTo n i → ⊥)
      ∷ (10, OneTo n i × NothingToDeliver phase crashed)
      ∷ (0, OneTo n i × (NothingToDeliver phase crashed → ⊥))
      ∷ []

  deliver-some : Some deliver-rows
  unfolding Some
  deliver-some = on (inside n i)
      (λ p. let m = one_to n i p in
      on (eqb phase 0) (λ q. inr (inl (m, inl (eqb-true phase 0 q)))) (λ q0.
      on (eqb phase 6) (λ q. inr (inl (m, inr (inl (eqb-true phase 6 q))))) (λ q6.
      let stays : ((crashed ≡ 0 → ⊥) × ((phase ≡ 2) ⊎ (phase ≡ 4) ⊎ (phase ≡ 5)) → ⊥) → Some deliver-rows
      = λ h. inr (inr (inl (m, ⊎_elim (eqb-false phase 0 q0) (⊎_elim (eqb-false phase 6 q6) h)))) in
      on (eqb crashed 0) (λ c. stays (λ h. h.0 (eqb-true crashed 0 c))) (λ c. let d = eqb-false crashed 0 c in
      on (eqb phase 2) (λ q. inr (inl (m, inr (inr (d, inl (eqb-true phase 2 q)))))) (λ q2.
      on (eqb phase 4) (λ q. inr (inl (m, inr (inr (d, inr (inl (eqb-true phase 4 q))))))) (λ q4.
      on (eqb phase 5) (λ q. inr (inl (m, inr (inr (d, inr (inr (eqb-true phase 5 q))))))) (λ q5.
      stays (λ h. ⊎_elim (eqb-false phase 2 q2) (⊎_elim (eqb-false phase 4 q4) (eqb-false phase 5 q5)) h.1))))))))
      (λ p. inl (none_such n i p))

  deliver-gives : Give (deliver_answer n phase crashed i) deliver-rows
  unfolding Give deliver_answer due
  deliver-gives =
      (λ g. rw (not_inside n i g))
      and (λ g. rw (is_inside g.0) (stopped phase crashed g.1))
      and (λ g. rw (is_inside g.0) (on_its_way phase crashed g.1))
      and tt

  deliver-numbers : DeliverNumbers n phase crashed i (deliver_answer n phase crashed i)
  deliver-numbers =
      let e = three_rows (deliver_answer n phase crashed i) 4 10 _ _ _ (omega arith) deliver-gives deliver-some in
      record { four = e.0; ten = e.1; done = e.2; no_other = e.3 }

  abbrev crash-rows : Rows
  crash-rows =
      (4, OneTo n i → ⊥)
      ∷ (11, OneTo n i × ((crashed ≡ 0 → ⊥) ⊎ (phase ≡ 6)))
      ∷ (0, OneTo n i × (crashed ≡ 0) × (phase ≡ 6 → ⊥))
      ∷ []

  crash-some : Some crash-rows
  unfolding Some
  crash-some = on (inside n i)
      (λ p. let m = one_to n i p in
      on (eqb crashed 0)
      (λ c. on (eqb phase 6)
      (λ q. inr (inl (m, inr (eqb-true phase 6 q))))
      (λ q. inr (inr (inl (m, eqb-true crashed 0 c, eqb-false phase 6 q)))))
      (λ c. inr (inl (m, inl (eqb-false crashed 0 c)))))
      (λ p. inl (none_such n i p))

  crash-gives : Give (crash_answer n phase crashed i) crash-rows
  unfolding Give crash_answer
  crash-gives =
      (λ g. rw (not_inside n i g))
      and (λ g. rw (is_inside g.0) (⊎_elim {A = crashed ≡ 0 → ⊥} {B = phase ≡ 6}
      (λ h. rw (ne_eqb crashed 0 h))
      (λ e. on (eqb crashed 0) (λ c. rw (c, e)) (λ c. rw c))
      g.1))
      and (λ g. rw (is_inside g.0, g.1, ne_eqb phase 6 g.2))
      and tt

  crash-numbers : CrashNumbers n phase crashed i (crash_answer n phase crashed i)
  crash-numbers =
      let e = three_rows (crash_answer n phase crashed i) 4 11 _ _ _ (omega arith) crash-gives crash-some in
      record { four = e.0; eleven = e.1; done = e.2; no_other = e.3 }

pub numbers_as_listed : (n : ℕ) → NumbersAsListed n
numbers_as_listed n = record {
  begins = λ kind. begin-numbers kind n;
  concur_begins = begin-numbers concur n;
  auction_begins = begin-numbers auction n;
  delivers = deliver-numbers n;
  crashes = crash-numbers n;
}
