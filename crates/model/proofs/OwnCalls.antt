-- A member's answers, and its phases but for 4 against 5, depend on its own calls alone: two references that agree on its phase so, on its
-- crash mark and on its begins do after every call, and another's call changes none of the three. So another's call can be left out.
use Prim.Native.Nat.{ℕ, ◌+◌, ◌-◌, ◌<◌}
use mathlib.Core.Path.{◌≡◌, refl, sym, ap, subst, ◌∙◌}
use mathlib.Core.Bool.{Bool, true, false, cond, not}
use mathlib.Core.List.{List, [], ◌∷◌}
use native.Mathlib.Omega.{arith}
use lib.Dec.{eqb, leb}
use borrow.Author.Tests.{ne_eqb, eqb-true, eqb-false, le-leb, lt-leb, leb-true, leb-false}
use Rattle.lists.specs.Functions.{put}
use Rattle.lists.proofs.Functions.{on, split, split-both, put_at, put_off}
use Rattle.model.specs.Kinds.{Kind}
use Rattle.model.specs.Numbers.{begin_answer, deliver_answer, crash_answer}
use Rattle.model.specs.Runs.{Call, begin, deliver, crash, Seen}
use Rattle.model.specs.Reference.{RefMember, Reference, ref_begun, ref_moved, ref_overtaken, submitted_on, ref_submit, ref_reply}
use Rattle.model.specs.Reference.{ref_accepted, ref_accept, ref_abort, ref_commit, ref_ended, ref_end, ref_delivered, ref_marked}
use Rattle.model.specs.Reference.{ref_answer, ref_done, ref_after, ref_seen, ref_run}
use Rattle.model.specs.Positions.{step_at}
use Rattle.model.specs.Script.{caller}
use Rattle.model.specs.Cause.{without}
use Rattle.model.specs.CauseClaims.{OfAnother, number_without, SamePhase, same, judged, SameSeen, SameStep}
use Rattle.model.proofs.Steps.{RefTaken, begins, submits, replies, aborts, accepts, ends, crashes, ref_taken}
use Rattle.model.proofs.Verdicts.{no_step}

-- a step has a number above 0
pub some_step : (i : ℕ) (calls : List Call) (seen : List Seen) (s : ℕ) → OfAnother i (step_at calls seen s) → 0 < s
some_step i calls seen s o = on (eqb s 0)
    (λ e. absurd (subst (OfAnother i) (ap (step_at calls seen) (eqb-true s 0 e) ∙ no_step calls seen) o))
    (λ e. let d = eqb-false s 0 e in omega arith)

-- What a member's answers and phases come from.
pub record Own : Type 0 where
  pub phase : ℕ
  pub crashed : ℕ
  pub begins : ℕ → ℕ

abbrev pub own : RefMember → Own
own m = record { phase = m.phase; crashed = m.crashed; begins = m.begins }

pub record Alike (x y : Own) : Type 0 where
  pub phase : SamePhase x.phase y.phase
  pub crashed : x.crashed ≡ y.crashed
  pub begins : x.begins ≡ y.begins

-- what does not tell 4 from 5 is the same
pub by_phase : {A : Type 0} (f : ℕ → A) → f 4 ≡ f 5 → {p q : ℕ} → SamePhase p q → f p ≡ f q
by_phase f e (same p) = refl
by_phase f e (judged true true) = refl
by_phase f e (judged true false) = e
by_phase f e (judged false true) = sym e
by_phase f e (judged false false) = refl

-- Another's call.

module _ (i : ℕ) where
  abbrev Leaves : Reference → Reference → Type 0
  Leaves ref next = own (next.members i) ≡ own (ref.members i)

  other-put : (f : ℕ → RefMember) (j : ℕ) (m : RefMember) → (j ≡ i → ⊥) → own (put f j m i) ≡ own (f i)
  other-put f j m d = ap own (put_off f j m i (λ e. d (sym e)))

  -- a submit only marks it as overtaken
  other-overtakes : (r : ℕ) (m : RefMember) → own (cond (submitted_on r m) (ref_overtaken m) m) ≡ own m
  unfolding ref_overtaken
  other-overtakes r m = split (λ x. own x ≡ own m) (submitted_on r m) (λ e. refl) (λ e. refl)

  other-taken : {ref next : Reference} {call : Call} → RefTaken ref call next → (caller call ≡ i → ⊥) → Leaves ref next
  unfolding caller ref_submit ref_reply ref_abort ref_accept ref_end
  other-taken {ref} (begins j r t v e) d = other-put ref.members j _ d
  other-taken {ref} (submits j e) d =
      let m = ref.members j in
      other-put (λ k. cond (submitted_on m.slot (ref.members k)) (ref_overtaken (ref.members k)) (ref.members k)) j (ref_moved m 2) d
      ∙ other-overtakes m.slot (ref.members i)
  other-taken {ref} (replies j e) d = other-put ref.members j _ d
  other-taken {ref} (aborts j e o) d = other-put ref.members j _ d
  other-taken {ref} (accepts j e o) d = other-put ref.members j _ d
  other-taken {ref} (ends j l) d = other-put ref.members j _ d
  other-taken {ref} (crashes j) d = other-put ref.members j _ d

  other-leaves : (kind : Kind) (n : ℕ) (ref : Reference) (call : Call) → (caller call ≡ i → ⊥) → Leaves ref (ref_after kind n ref call)
  unfolding ref_after
  other-leaves kind n ref call d = split (Leaves ref) (eqb (ref_answer kind n ref call) 0)
      (λ e. other-taken (ref_taken kind n ref call (eqb-true (ref_answer kind n ref call) 0 e)) d)
      (λ e. refl)

-- Its own call.

-- the phase after a deliver, by the verdict if it comes to one
abbrev next_phase : ℕ → Bool → ℕ
next_phase p accepted = cond (eqb p 1) 2 (cond (eqb p 2) 3 (cond (eqb p 3) (cond accepted 4 5) 0))

next_alike : {p q : ℕ} → SamePhase p q → (a b : Bool) → SamePhase (next_phase p a) (next_phase q b)
next_alike (same p) a b =
    split-both SamePhase (eqb p 1) (λ e. same 2) (λ e.
    split-both SamePhase (eqb p 2) (λ f. same 3) (λ f.
    split-both SamePhase (eqb p 3) (λ g. judged a b) (λ g. same 0)))
next_alike (judged true true) a b = same 0
next_alike (judged true false) a b = same 0
next_alike (judged false true) a b = same 0
next_alike (judged false false) a b = same 0

abbrev delivered : Own → Bool → Own
delivered x accepted = record { phase = next_phase x.phase accepted; crashed = x.crashed; begins = x.begins }

verdict_own : (ref : Reference) (i : ℕ) (o : Bool) → own ((cond o (ref_abort ref i) (ref_accept ref i)).members i)
    ≡ record { phase = cond (not o) 4 5; crashed = (ref.members i).crashed; begins = (ref.members i).begins }
unfolding ref_abort ref_accept ref_accepted ref_moved
verdict_own ref i true = ap own (put_at ref.members i _)
verdict_own ref i false = ap own (put_at ref.members i _)

own_delivered : (ref : Reference) (i : ℕ)
    → own ((ref_delivered ref i).members i) ≡ delivered (own (ref.members i)) (not (ref.members i).overtaken)
unfolding ref_delivered ref_submit ref_reply ref_commit ref_end ref_ended ref_moved
own_delivered ref i =
    let p = (ref.members i).phase in
    on (eqb p 1) (λ e. rw e (ap own (put_at _ i _))) (λ e. rw e (
    on (eqb p 2) (λ f. rw f (ap own (put_at ref.members i _))) (λ f. rw f (
    on (eqb p 3) (λ g. rw g (verdict_own ref i (ref.members i).overtaken)) (λ g. rw g (ap own (put_at ref.members i _)))))))

module _ (kind : Kind) (n : ℕ) where
  abbrev AlikeAt : ℕ → Reference → Reference → Type 0
  AlikeAt i a b = Alike (own (a.members i)) (own (b.members i))

  same_answer : (a b : Reference) (call : Call) → AlikeAt (caller call) a b → ref_answer kind n a call ≡ ref_answer kind n b call
  unfolding caller ref_answer begin_answer deliver_answer crash_answer
  same_answer a b (begin i r t v) h =
      rw (h.crashed, h.begins)
      (by_phase (λ p. begin_answer kind n p (b.members i).crashed ((b.members i).begins r) i r t) refl h.phase)
  same_answer a b (deliver i) h = rw h.crashed (by_phase (λ p. deliver_answer n p (b.members i).crashed i) refl h.phase)
  same_answer a b (crash i) h = rw h.crashed (by_phase (λ p. crash_answer n p (b.members i).crashed i) refl h.phase)

  done-alike : (a b : Reference) (call : Call) → AlikeAt (caller call) a b → AlikeAt (caller call) (ref_done a call) (ref_done b call)
  unfolding caller ref_done ref_begun ref_marked
  done-alike a b (begin i r t v) h =
      rw (put_at a.members i _, put_at b.members i _)
      (record { phase = same 1; crashed = h.crashed; begins = ap (λ f. put f r (f r + 1)) h.begins })
  done-alike a b (deliver i) h = rw (own_delivered a i, own_delivered b i)
      (record {
        phase = next_alike h.phase (not (a.members i).overtaken) (not (b.members i).overtaken);
        crashed = h.crashed;
        begins = h.begins;
      })
  done-alike a b (crash i) h =
      rw (put_at a.members i _, put_at b.members i _) (record { phase = h.phase; crashed = refl; begins = h.begins })

  own-alike : (a b : Reference) (call : Call) → AlikeAt (caller call) a b
      → AlikeAt (caller call) (ref_after kind n a call) (ref_after kind n b call)
  unfolding ref_after
  own-alike a b call h = rw (same_answer a b call h)
      (split-both (AlikeAt (caller call)) (eqb (ref_answer kind n b call) 0) (λ e. done-alike a b call h) (λ e. h))

  -- Any call.
  module _ (i : ℕ) where
    after-alike : (a b : Reference) (call : Call) → AlikeAt i a b → AlikeAt i (ref_after kind n a call) (ref_after kind n b call)
    after-alike a b call h = on (eqb (caller call) i)
        (λ e. let own_call = eqb-true (caller call) i e in
        subst (λ i. AlikeAt i (ref_after kind n a call) (ref_after kind n b call)) own_call
        (own-alike a b call (subst (λ i. AlikeAt i a b) (sym own_call) h)))
        (λ e. let d = eqb-false (caller call) i e in
        rw (other-leaves i kind n a call d, other-leaves i kind n b call d) h)

    seen_alike : (a b : Reference) (call : Call) → AlikeAt i a b → SameSeen i call (ref_seen kind n a call) (ref_seen kind n b call)
    unfolding ref_seen
    seen_alike a b call h = record {
      answer = λ e. same_answer a b call (subst (λ i. AlikeAt i a b) (sym e) h);
      phase = (after-alike a b call h).phase;
    }

    -- Runs of the same calls, and runs of which one leaves out another's.

    runs-alike : (calls : List Call) (a b : Reference) → AlikeAt i a b → (k : ℕ)
        → SameStep i (step_at calls (ref_run kind n a calls) k) (step_at calls (ref_run kind n b calls) k)
    unfolding step_at ref_run
    runs-alike [] a b h k = tt
    runs-alike (call ∷ calls) a b h k = on (eqb k 1)
        (λ e. rw e (refl, seen_alike a b call h))
        (λ e. rw e (runs-alike calls (ref_after kind n a call) (ref_after kind n b call) (after-alike a b call h) (k - 1)))

    -- the number of a later step, counted from the second on
    number-later : (s k : ℕ) → 1 < s → 1 < k → number_without s k - 1 ≡ number_without (s - 1) (k - 1)
    number-later s k l m = on (leb s k)
        (λ e. rw (e, le-leb (s - 1) (k - 1) (omega (arith, leb-true s k e))))
        (λ e. rw (e, lt-leb (s - 1) (k - 1) (omega (arith, leb-false s k e))))

    number-high : (s k : ℕ) → 1 < s → 1 < k → (k ≡ s → ⊥) → eqb (number_without s k) 1 ≡ false
    number-high s k l m d = split (λ x. eqb x 1 ≡ false) (leb s k)
        (λ e. ne_eqb (k - 1) 1 (λ x. d (omega (arith, leb-true s k e))))
        (λ e. ne_eqb k 1 (λ x. omega arith))

    -- where the step that is left out is another's
    pub left-alike : (calls : List Call) (s : ℕ) (a b : Reference) → OfAnother i (step_at calls (ref_run kind n a calls) s) → AlikeAt i a b
        → (k : ℕ) → 0 < k → (k ≡ s → ⊥)
        → SameStep i (step_at calls (ref_run kind n a calls) k)
        (step_at (without s calls) (ref_run kind n b (without s calls)) (number_without s k))
    unfolding step_at ref_run without
    left-alike [] s a b o h k z d = absurd o
    left-alike (call ∷ calls) s a b o h k z d =
        let next = ref_after kind n a call in
        let later = ref_after kind n b call in
        on (eqb s 1)
        (λ e. let one = eqb-true s 1 e in
        let leaves = other-leaves i kind n a call (rw e at o) in
        rw (e, ne_eqb k 1 (λ f. d (f ∙ sym one)), le-leb s k (omega arith))
        (runs-alike calls next b (rw leaves h) (k - 1)))
        (λ e. let numbered = some_step i (call ∷ calls) (ref_run kind n a (call ∷ calls)) s o in
        let more : 1 < s = (let other = eqb-false s 1 e in omega arith) in
        on (eqb k 1)
        (λ f. let one = eqb-true k 1 f in rw (e, one, lt-leb s 1 more) (refl, seen_alike a b call h))
        (λ f. let d1 = eqb-false k 1 f in
        let rest = left-alike calls (s - 1) next later (rw e at o) (after-alike a b call h) (k - 1) (omega arith) (λ x. d (omega arith)) in
        rw (e, f, number-high s k more (omega arith) d) (rw (← (number-later s k more (omega arith))) at rest)))
