-- Both answers about a cause hold: the step that is named is the first of another without which the operation is accepted, and where none
-- is named there is none. And leaving such a step out moves no operation of the member, so that its verdict on an aborted one falls
-- without the step too.
use Prim.Native.Nat.{ℕ, ◌+◌, ◌-◌, ◌<◌}
use mathlib.Core.Path.{◌≡◌, refl, sym, ap, subst, ◌∙◌}
use mathlib.Core.Bool.{Bool, true, false, cond, not, ◌&&◌, ◌||◌}
use mathlib.Core.List.{List, [], ◌∷◌}
use mathlib.Core.Logic.{◌⊎◌, inl, inr}
use mathlib.Core.Option.{Option, none, some}
use native.Mathlib.Omega.{arith}
use lib.Dec.{eqb}
use lib.ListN.{length}
use borrow.Author.Tests.{eq-eqb, ne_eqb, eqb-true, eqb-false, lt-ltb, le-ltb, not-true}
use Rattle.lists.proofs.Functions.{on, first, second, apart}
use Rattle.model.specs.Kinds.{Kind}
use Rattle.model.specs.Records.{Value}
use Rattle.model.specs.Board.{Board}
use Rattle.model.specs.Runs.{Call, begin, deliver, crash, Seen, Step, step}
use Rattle.model.specs.Reference.{Reference, ref_opened, ref_after, ref_run}
use Rattle.model.specs.History.{Op, Submit, Watch, watched}
use Rattle.model.specs.Positions.{step_at, IsDeliver, began_by, begun_count, Decided}
use Rattle.model.specs.Demand3.{Demand3}
use Rattle.model.specs.Script.{first_of, caller, lines_of}
use Rattle.model.specs.Overtaker.{aborted_op, overtaking, overtaker_in, refuses, members_overtaker, script_overtaker, most_bytes}
use Rattle.model.specs.Overtaker.{overtaker}
use Rattle.model.specs.Cause.{without, accepted_without, first_cause, cause_in, unless_refused, most_lines, script_cause, cause}
use Rattle.model.specs.OvertakerClaims.{sample_calls, sample_seen}
use Rattle.model.specs.CauseClaims.{Accepted, OfAnother, Costs, CauseAnswered, number_without, judged_by, judged, SameOperations}
use Rattle.model.specs.CauseClaims.{RefusalsInOrder, left_seen, SampleCaused}
use Rattle.model.proofs.OvertakerMarks.{Judged}
use Rattle.model.proofs.Verdicts.{OneOf, no_step, judged_at}
use Rattle.model.proofs.Overtaker.{none_or_some, FoundOp, op_found}
use Rattle.model.proofs.OwnCalls.{some_step}
use Rattle.model.proofs.LeftOut.{another_left_out}
use Rattle.model.proofs.AcceptedOps.{Verdicts, run_verdicts, Told, accepted_steps, steps_accepted, verdict-told}

-- The least step of another that passes a test, in the reference's run of the calls from some number on.
module _ (kind : Kind) (n i : ℕ) (test : ℕ → Bool) where
  abbrev looks : Reference → List Call → ℕ → Option Step
  looks ref calls = step_at calls (ref_run kind n ref calls)

  -- no step of another below a place passes, of those from number `from` on
  abbrev FailBelow : ℕ → (ℕ → Option Step) → ℕ → Type 0
  FailBelow from look place = (t : ℕ) → t < place → OfAnother i (look t) → test (from + t) ≡ false

  -- the test of one step
  tests-call : (call : Call) (at : ℕ) → (not (eqb (caller call) i) && test at) ≡ false → (caller call ≡ i → ⊥) → test at ≡ false
  tests-call call at e d = rw (ne_eqb (caller call) i d) at e

  -- one step more
  fails-next : (ref : Reference) (call : Call) (calls : List Call) (from place : ℕ)
      → (not (eqb (caller call) i) && test (from + 1)) ≡ false
      → FailBelow (from + 1) (looks (ref_after kind n ref call) calls) place → FailBelow from (looks ref (call ∷ calls)) (place + 1)
  unfolding step_at ref_run
  fails-next ref call calls from place e h t l o = on (eqb t 1)
      (λ f. let one = eqb-true t 1 f in rw one (tests-call call (from + 1) e (rw f at o)))
      (λ f. let z = some_step i (call ∷ calls) (ref_run kind n ref (call ∷ calls)) t o in
      let d = eqb-false t 1 f in
      let more : from + 1 + (t - 1) ≡ from + t = omega arith in
      subst (λ x. test x ≡ false) more (h (t - 1) (omega arith) (rw f at o)))

  none_found : (calls : List Call) (ref : Reference) (from : ℕ) → first_cause i test (from + 1) calls ≡ none
      → (place : ℕ) → FailBelow from (looks ref calls) place
  unfolding first_cause step_at
  none_found [] ref from e place t l o = absurd o
  none_found (call ∷ calls) ref from e place t l o = on (not (eqb (caller call) i) && test (from + 1))
      (λ f. absurd (none_or_some (sym (rw f at e))))
      (λ f. fails-next ref call calls from place f (none_found calls (ref_after kind n ref call) (from + 1) (rw f at e) place)
      t (omega arith) o)

  record Found (from : ℕ) (look : ℕ → Option Step) (s : ℕ) : Type 0 where
    place : ℕ
    number : s ≡ from + place
    another : OfAnother i (look place)
    passes : test s ≡ true
    fails : FailBelow from look place

  found_here : (ref : Reference) (call : Call) (calls : List Call) (from : ℕ) → (not (eqb (caller call) i) && test (from + 1)) ≡ true
      → Found from (looks ref (call ∷ calls)) (from + 1)
  unfolding step_at ref_run
  found_here ref call calls from f = record {
    place = 1;
    number = refl;
    another = eqb-false (caller call) i (not-true (eqb (caller call) i) (first (not (eqb (caller call) i)) (test (from + 1)) f));
    passes = second (not (eqb (caller call) i)) (test (from + 1)) f;
    fails = λ t l o. absurd (omega (arith, some_step i (call ∷ calls) (ref_run kind n ref (call ∷ calls)) t o));
  }

  some-found : (calls : List Call) (ref : Reference) (from s : ℕ) → first_cause i test (from + 1) calls ≡ some s
      → Found from (looks ref calls) s
  unfolding first_cause step_at ref_run
  some-found [] ref from s e = absurd (none_or_some e)
  some-found (call ∷ calls) ref from s e = on (not (eqb (caller call) i) && test (from + 1))
      (λ f. let same : from + 1 ≡ s = (cc (rw f at e)) in
      subst (Found from (looks ref (call ∷ calls))) same (found_here ref call calls from f))
      (λ f. let next = ref_after kind n ref call in
      let r = some-found calls next (from + 1) s (rw f at e) in
      let z = some_step i calls (ref_run kind n next calls) r.place r.another in
      let behind : r.place + 1 - 1 ≡ r.place = omega arith in
      record {
        place = r.place + 1;
        number = omega (arith, r.number);
        another = rw (ne_eqb (r.place + 1) 1 (λ x. omega arith), behind) r.another;
        passes = r.passes;
        fails = fails-next ref call calls from r.place f r.fails;
      })

-- The list without no entry.
pub without_none : {A : Type 0} (l : List A) → without 0 l ≡ l
unfolding without
without_none [] = refl
without_none (x ∷ l) = λ t. x ∷ without_none l t

-- A run of which demand 3 holds, also without any one of its calls.
module _ (kind : Kind) (n : ℕ) (anew : List Call → List Seen) (calls : List Call) (boards : ℕ → List Board)
    (holds : (s : ℕ) → Demand3 kind n (without s calls) (boards s) (anew (without s calls))) (i k : ℕ) where
  -- the steps of the run without step s, and its watch
  abbrev at : ℕ → ℕ → Option Step
  at s = step_at (without s calls) (anew (without s calls))

  abbrev watch : ℕ → Watch
  watch s = watched (without s calls) (anew (without s calls))

  verdicts : (s : ℕ) → Verdicts (without s calls) (anew (without s calls)) (watch s)
  verdicts s = run_verdicts kind n (without s calls) (boards s) (anew (without s calls)) (holds s)

  -- the whole run
  whole : at 0 ≡ step_at calls (ref_run kind n ref_opened calls)
  whole = ap (step_at (without 0 calls)) (holds 0).as_reference ∙ ap (λ l. step_at l (ref_run kind n ref_opened l)) (without_none calls)

  accepted-without : (s : ℕ) → accepted_without anew calls i k s ≡ true → Accepted (at s) i k
  unfolding accepted_without
  accepted-without s = accepted_steps (without s calls) (anew (without s calls)) (watch s) (verdicts s) i k

  never-without : (s : ℕ) → accepted_without anew calls i k s ≡ false → Costs at i k s → ⊥
  unfolding accepted_without
  never-without s e c = apart (steps_accepted (without s calls) (anew (without s calls)) (watch s) (verdicts s) i k c.accepted) e

  -- Both answers.

  abbrev test : ℕ → Bool
  test = accepted_without anew calls i k

  -- counted from the opening
  never-below : (place : ℕ) → FailBelow kind n i test 0 (step_at calls (ref_run kind n ref_opened calls)) place
      → (t : ℕ) → t < place → Costs at i k t → ⊥
  never-below place fails t l c =
      never-without t (subst (λ x. test x ≡ false) (omega arith) (fails t l (subst (λ look. OfAnother i (look t)) whole c.another))) c

  answer-of : (x : Option ℕ) → first_cause i test 1 calls ≡ x → CauseAnswered at i k x
  answer-of none e = λ t c. never-below (t + 1) (none_found kind n i test calls ref_opened 0 e (t + 1)) t (omega arith) c
  answer-of (some s) e =
      let f = some-found kind n i test calls ref_opened 0 s e in
      let here : f.place ≡ s = omega (arith, f.number) in
      record {
        costs = record {
          another = subst (λ look. OfAnother i (look s)) (sym whole)
              (subst (λ t. OfAnother i (step_at calls (ref_run kind n ref_opened calls) t)) here f.another);
          accepted = accepted-without s f.passes;
        };
        first = λ t l c. never-below f.place f.fails t (omega arith) c;
      }

  pub cause_answered : CauseAnswered at i k (cause_in anew calls i k)
  unfolding cause_in
  cause_answered = answer-of (first_cause i test 1 calls) refl

  -- A member and an ordinal name the same operation without another's step.
  pub left_out : (s : ℕ) → OfAnother i (at 0 s) → SameOperations (at 0) (at s) i s
  left_out s o =
      let without-it : step_at (without s calls) (ref_run kind n ref_opened (without s calls)) ≡ at s =
      ap (step_at (without s calls)) (sym (holds s).as_reference) in
      subst (λ l. SameOperations (at 0) l i s) without-it
      (subst (λ w. SameOperations w (step_at (without s calls) (ref_run kind n ref_opened (without s calls))) i s) (sym whole)
      (another_left_out kind n calls i s (subst (λ look. OfAnother i (look s)) whole o)))

  -- The operation was aborted: so its verdict falls without another's step too, and it is accepted there or somebody overtakes it.

  -- a verdict of member i is no step of another
  own-verdict : (x : Option Step) (q : ℕ) (v : Option Value) → IsDeliver i q v x → OfAnother i x → ⊥
  unfolding caller
  own-verdict none q v d o = d
  own-verdict (some (step (begin j r t u) s)) q v d o = d
  own-verdict (some (step (deliver j) s)) q v d o = o d.0
  own-verdict (some (step (crash j) s)) q v d o = d

  aborts-judged : (x : Option Step) → IsDeliver i 5 none x → judged_by i x ≡ true
  unfolding judged_by
  aborts-judged none d = absurd d
  aborts-judged (some (step (begin j r t u) s)) d = absurd d
  aborts-judged (some (step (deliver j) s)) d = rw (eq-eqb j i d.0, eq-eqb s.answer 0 d.1, d.2)
  aborts-judged (some (step (crash j) s)) d = absurd d

  record Falls (x : Option Step) : Type 0 where
    phase : ℕ
    returned : Option Value
    verdict : phase ≡ 4 ⊎ phase ≡ 5
    delivers : IsDeliver i phase returned x

  judged-falls : (x : Option Step) → judged_by i x ≡ true → Falls x
  unfolding judged_by
  judged-falls none e = absurd (apart e refl)
  judged-falls (some (step (begin j r t u) s)) e = absurd (apart e refl)
  judged-falls (some (step (deliver j) s)) e =
      let p = s.phases i in
      let rest = second (eqb j i) (eqb s.answer 0 && (eqb p 4 || eqb p 5)) e in
      let verdict = second (eqb s.answer 0) (eqb p 4 || eqb p 5) rest in
      record {
        phase = p;
        returned = s.returned;
        verdict = on (eqb p 4) (λ f. inl (eqb-true p 4 f)) (λ f. inr (eqb-true p 5 (rw f at verdict)));
        delivers = (
          eqb-true j i (first (eqb j i) (eqb s.answer 0 && (eqb p 4 || eqb p 5)) e),
          eqb-true s.answer 0 (first (eqb s.answer 0) (eqb p 4 || eqb p 5) rest),
          refl,
          refl,
        );
      }
  judged-falls (some (step (crash j) s)) e = absurd (apart e refl)

  -- the operation that was found in the whole run
  module _ (o : Op) (f : FoundOp i k (watch 0).decided o) where
    its-abort : IsDeliver i 5 none (at 0 o.verdict_at)
    its-abort =
        let there = at 0 o.verdict_at in
        subst (λ m. IsDeliver m 5 none there) f.member
        (subst (λ a. IsDeliver o.given.member (cond a 4 5) none there) f.aborted
        (f.listed (Decided (at 0)) (verdicts 0).decided).judged)

    its-ordinal : begun_count (at 0) i o.verdict_at ≡ k
    its-ordinal =
        subst (λ m. begun_count (at 0) m o.verdict_at ≡ o.ordinal) f.member
        (f.listed (λ o. Judged (at 0) o.given.member o) (verdicts 0).judged).verdict
        ∙ f.ordinal

    its-number : 0 < o.verdict_at
    its-number = on (eqb o.verdict_at 0)
        (λ e. absurd (subst (IsDeliver i 5 none)
        (ap (at 0) (eqb-true o.verdict_at 0 e) ∙ no_step (without 0 calls) (anew (without 0 calls))) its-abort))
        (λ e. let d = eqb-false o.verdict_at 0 e in omega arith)

    -- has its verdict in the other run too
    also-judged : (s : ℕ) → OfAnother i (at 0 s) → OneOf (λ o. (o.given.member ≡ i) × (o.ordinal ≡ k)) (watch s).decided
    also-judged s other =
        let stays = left_out s other in
        let elsewhere : o.verdict_at ≡ s → ⊥ =
        λ e. own-verdict (at 0 o.verdict_at) 5 none its-abort (subst (λ x. OfAnother i (at 0 x)) (sym e) other) in
        let v = number_without s o.verdict_at in
        let falls = judged-falls (at s v)
        (stays.verdicts o.verdict_at its-number elsewhere ∙ aborts-judged (at 0 o.verdict_at) its-abort) in
        let found = judged_at (without s calls) (anew (without s calls)) (watch s) (verdicts s).placed (verdicts s).decided
        (verdicts s).judged v i falls.phase falls.returned falls.verdict falls.delivers in
        record {
          one = found.one;
          holds = (found.holds.member, found.holds.ordinal ∙ stays.ordinals o.verdict_at ∙ its-ordinal);
          listed = found.listed;
        }

  -- somebody overtook it, so that it was found
  overtaken-op : (x : Option Op) (z : Submit) → overtaking x (watch 0).submits ≡ some z → aborted_op i k (watch 0).decided ≡ x
      → (s : ℕ) → OfAnother i (at 0 s) → OneOf (λ o. (o.given.member ≡ i) × (o.ordinal ≡ k)) (watch s).decided
  unfolding overtaking
  overtaken-op none z e f s other = absurd (none_or_some e)
  overtaken-op (some o) z e f s other = also-judged o (op_found i k (watch 0).decided o f) s other

  pub accepted_or_overtaken : (z : Submit) → overtaker_in (watch 0) i k ≡ some z → (s : ℕ) → OfAnother i (at 0 s)
      → Told (accepted_without anew calls i k s) (overtaker_in (watch s) i k)
  unfolding overtaker_in accepted_without
  accepted_or_overtaken z e s other =
      verdict-told (without s calls) (anew (without s calls)) (watch s) (verdicts s) i k
      (overtaken-op (aborted_op i k (watch 0).decided) z e refl s other)

-- The refusals, from the tests of the definition.

no_bytes : (input : List ℕ) → length input ≡ 0 → lines_of input ≡ []
unfolding lines_of
no_bytes [] e = refl
no_bytes (b ∷ input) e = absurd (omega arith)

pub refusals_in_order : (input : List ℕ) (i k : ℕ) → RefusalsInOrder input i k
unfolding cause script_cause overtaker script_overtaker unless_refused
refusals_in_order input i k = record {
  too_long = λ h. rw (lt-ltb most_bytes (length input) h);
  too_many = λ line lines short split many. rw (le-ltb most_bytes (length input) short, split, lt-ltb most_lines (length lines) many);
  as_earlier = λ line lines short split few number e.
      let same : members_overtaker (first_of line) lines i k ≡ refuses number =
      rw (le-ltb most_bytes (length input) short, split) at e in
      rw (le-ltb most_bytes (length input) short, split, le-ltb most_lines (length lines) few, same);
  no_line = λ e. rw (le-ltb most_bytes (length input) (omega arith), no_bytes input e);
}

-- The words of the claims, on a run by hand: every position is computed.

abbrev whole_at : ℕ → Option Step
whole_at = step_at sample_calls sample_seen

abbrev left_at : ℕ → Option Step
left_at = step_at (without 3 sample_calls) left_seen

pub sample_caused : SampleCaused whole_at left_at
unfolding step_at without caller judged_by begun_count began_by
sample_caused = record {
  another = λ e. omega arith;
  another_not = ((λ o. o refl), (λ o. o));
  accepted = record { verdict_at = 6; verdict = (refl, refl, refl, refl); its_verdict = refl };
  judges = (refl, refl);
  judges_not = (refl, refl);
  numbers = (refl, refl);
  same = (refl, record { answer = λ e. refl; phase = judged false true });
  same_not = ((λ s. omega (arith, s.1.answer refl)), (λ s. let d = s.0 in let z : ◌≡◌ {A = ℕ} 0 1 = cc in omega arith));
}
