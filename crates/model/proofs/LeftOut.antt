-- Leaving out another's step moves neither which begins of a member are answered 0 nor at which of its lines its verdicts fall: from what
-- stays the same at each step (OwnCalls.antt).
use Prim.Native.Nat.{ℕ, zero, suc, ◌+◌, ◌<◌}
use mathlib.Core.Path.{◌≡◌, refl, sym, ap, subst, ◌∙◌}
use mathlib.Core.Bool.{Bool, false, cond, ◌&&◌, ◌||◌}
use mathlib.Core.List.{List}
use mathlib.Core.Option.{Option, none, some}
use native.Mathlib.Numerals.{add-one}
use native.Mathlib.Omega.{arith}
use lib.Dec.{eqb, leb}
use borrow.Author.Tests.{ne_eqb, eqb-true, eqb-false, le-leb, lt-leb, leb-true, leb-false}
use Rattle.lists.proofs.Functions.{on}
use Rattle.model.specs.Kinds.{Kind}
use Rattle.model.specs.Runs.{Call, begin, deliver, crash, Seen, Step, step}
use Rattle.model.specs.Reference.{ref_opened, ref_run}
use Rattle.model.specs.Positions.{step_at, began_by, begun_count}
use Rattle.model.specs.Script.{caller}
use Rattle.model.specs.Cause.{without}
use Rattle.model.specs.CauseClaims.{OfAnother, number_without, judged_by, same, SameSeen, SameStep, SameOperations}
use Rattle.model.proofs.Ordinals.{count_next, count_same}
use Rattle.model.proofs.OwnCalls.{by_phase, some_step, left-alike}

-- Two steps that are the same for member i.
module _ (i : ℕ) where
  -- a test that asks whose call it is
  own-test : (j : ℕ) (a b : Bool) → (j ≡ i → a ≡ b) → (eqb j i && a) ≡ (eqb j i && b)
  own-test j a b h = on (eqb j i) (λ e. rw e (h (eqb-true j i e))) (λ e. rw e)

  seen-begins : (call : Call) (s t : Seen) → SameSeen i call s t → began_by i (some (step call t)) ≡ began_by i (some (step call s))
  unfolding began_by caller
  seen-begins (begin j r o v) s t h = own-test j (eqb t.answer 0) (eqb s.answer 0) (λ e. ap (λ x. eqb x 0) (sym (h.answer e)))
  seen-begins (deliver j) s t h = refl
  seen-begins (crash j) s t h = refl

  abbrev is_verdict : ℕ → Bool
  is_verdict p = eqb p 4 || eqb p 5

  seen-judges : (call : Call) (s t : Seen) → SameSeen i call s t → judged_by i (some (step call t)) ≡ judged_by i (some (step call s))
  unfolding judged_by caller
  seen-judges (begin j r o v) s t h = refl
  seen-judges (deliver j) s t h =
      own-test j (eqb t.answer 0 && is_verdict (t.phases i)) (eqb s.answer 0 && is_verdict (s.phases i))
      (λ e. rw (h.answer e, by_phase is_verdict refl h.phase))
  seen-judges (crash j) s t h = refl

  -- a fact about a call and what was seen, of both
  of-both : (f : Option Step → Bool) → ((call : Call) (s t : Seen) → SameSeen i call s t → f (some (step call t)) ≡ f (some (step call s)))
      → (x y : Option Step) → SameStep i x y → f y ≡ f x
  of-both f h none none e = refl
  of-both f h none (some (step d t)) e = absurd e
  of-both f h (some (step c s)) none e = absurd e
  of-both f h (some (step c s)) (some (step d t)) e = rw (← e.0) (h c s t e.1)

  another-begins : (x : Option Step) → OfAnother i x → began_by i x ≡ false
  unfolding began_by caller
  another-begins none o = absurd o
  another-begins (some (step (begin j r t v) s)) o = rw (ne_eqb j i o)
  another-begins (some (step (deliver j) s)) o = refl
  another-begins (some (step (crash j) s)) o = refl

-- A run, and the same without step s, which is another's.
module _ (whole left : ℕ → Option Step) (i s : ℕ) (some-such : 0 < s) (another : OfAnother i (whole s))
    (steps : (k : ℕ) → 0 < k → (k ≡ s → ⊥) → SameStep i (whole k) (left (number_without s k))) where
  begins-same : (k : ℕ) → 0 < k → (k ≡ s → ⊥) → began_by i (left (number_without s k)) ≡ began_by i (whole k)
  begins-same k z d = of-both i (began_by i) (seen-begins i) (whole k) (left (number_without s k)) (steps k z d)

  abbrev Counted : ℕ → Type 0
  Counted k = begun_count left i (number_without s k) ≡ begun_count whole i k

  -- at step s the number stays, and no operation is begun
  counts-there : (k : ℕ) → Counted k → k + 1 ≡ s → Counted (k + 1)
  counts-there k h e =
      let here : began_by i (whole (k + 1)) ≡ false = rw e (another-begins i (whole s) another) in
      let stays : number_without s k ≡ k = rw (lt-leb s k (omega arith)) in
      let number : number_without s (k + 1) ≡ k = rw (le-leb s (k + 1) (omega arith)) (omega arith) in
      ap (begun_count left i) (number ∙ sym stays) ∙ h ∙ sym (count_same whole i k here)

  -- at any other the next number is the next step's
  next-number : (k : ℕ) → (k + 1 ≡ s → ⊥) → number_without s (k + 1) ≡ number_without s k + 1
  next-number k d = on (leb s k)
      (λ e. let l = leb-true s k e in rw (e, le-leb s (k + 1) (omega arith)) (omega arith))
      (λ e. let l = leb-false s k e in let m : k + 1 < s = omega arith in rw (e, lt-leb s (k + 1) m))

  counts-next : (k : ℕ) → Counted k → (k + 1 ≡ s → ⊥) → Counted (k + 1)
  counts-next k h d =
      let number = next-number k d in
      let began = begins-same (k + 1) (omega arith) d in
      ap (begun_count left i) number
      ∙ count_next left i (number_without s k)
      ∙ ap (λ b. begun_count left i (number_without s k) + cond b 1 0) (ap (λ x. began_by i (left x)) (sym number) ∙ began)
      ∙ ap (λ x. x + cond (began_by i (whole (k + 1))) 1 0) h
      ∙ sym (count_next whole i k)

  counts_same : (k : ℕ) → Counted k
  unfolding begun_count
  counts_same zero = rw (lt-leb s 0 some-such)
  counts_same (suc k) = subst Counted (add-one k) (on (eqb (k + 1) s)
      (λ e. counts-there k (counts_same k) (eqb-true (k + 1) s e))
      (λ e. counts-next k (counts_same k) (eqb-false (k + 1) s e)))

  pub same_operations : SameOperations whole left i s
  same_operations = record {
    steps = steps;
    begins = begins-same;
    verdicts = λ k z d. of-both i (judged_by i) (seen-judges i) (whole k) (left (number_without s k)) (steps k z d);
    ordinals = counts_same;
  }

-- Of the reference's runs from the opening.
pub another_left_out : (kind : Kind) (n : ℕ) (calls : List Call) (i s : ℕ)
    → OfAnother i (step_at calls (ref_run kind n ref_opened calls) s)
    → SameOperations (step_at calls (ref_run kind n ref_opened calls))
    (step_at (without s calls) (ref_run kind n ref_opened (without s calls))) i s
another_left_out kind n calls i s o =
    same_operations _ _ i s (some_step i calls _ s o) o
    (left-alike kind n i calls s ref_opened ref_opened o (record { phase = same _; crashed = refl; begins = refl }))
