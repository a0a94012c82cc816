-- Both answers about an overtaker hold: a submit is named exactly for an operation that was aborted, and it is the first that was taken
-- on its slot in between. From demand 3's claims: an aborted operation is a contested one, and the watcher's positions are the steps.
use Prim.Native.Nat.{ℕ, ◌+◌, ◌≤◌, ◌<◌}
use mathlib.Core.Path.{◌≡◌, refl, sym, ap, subst, ◌∙◌}
use mathlib.Core.Bool.{true, false, cond, not, ◌&&◌, ◌||◌}
use mathlib.Core.List.{List, [], ◌∷◌}
use mathlib.Core.Logic.{◌⊎◌, inl, inr, ⊎_elim}
use mathlib.Core.Option.{Option, none, some}
use native.Mathlib.Omega.{arith}
use lib.Dec.{eqb, ltb}
use borrow.Author.Tests.{eq-eqb, lt-ltb, eqb-true, eqb-false, ltb-true, not-true}
use Rattle.lists.specs.Every.{Every}
use Rattle.lists.proofs.Functions.{on, both, first, second, apart}
use Rattle.model.specs.Kinds.{Kind}
use Rattle.model.specs.Board.{Board}
use Rattle.model.specs.Runs.{Call, Seen, Step, step}
use Rattle.model.specs.Reference.{ref_idle, ref_opened}
use Rattle.model.specs.History.{Op, Submit, Watch, nothing_yet, watched, overtakes, contested}
use Rattle.model.specs.Positions.{step_at, IsDeliver, began_by, begun_count, Decided, AllPlaced}
use Rattle.model.specs.Demand3.{Demand3}
use Rattle.model.specs.Overtaker.{is_aborted, aborted_op, earlier, first_overtaking, overtaking, overtaker_in}
use Rattle.model.specs.OvertakerClaims.{slot_after, slot_begun, TakesSubmit, Aborted, Overtook, Answered, sample_calls, sample_seen}
use Rattle.model.specs.OvertakerClaims.{SampleOvertaken}
use Rattle.model.proofs.HistoryLists.{every}
use Rattle.model.proofs.Phases.{RunMoves, run_moves}
use Rattle.model.proofs.PositionsInvariant.{Moved, Places}
use Rattle.model.proofs.Positions.{Ahead, Left, beside, run_beside, places_nothing}
use Rattle.model.proofs.OvertakerMarks.{Judged, Falling, Marks, marks_after, marks_nothing}
use Rattle.model.proofs.Verdicts.{OneOf, one_of, placed_at, five_aborts, judged_at}

-- Lists of operations and submits.

pub none_or_some : {A : Type 0} {x : A} → ◌≡◌ {A = Option A} none (some x) → ⊥
none_or_some e = let z : ◌≡◌ {A = ℕ} 0 1 = cc in omega arith

-- the operation that was found is one of the list's, and what holds of each holds of it
pub record FoundOp (i k : ℕ) (ops : List Op) (o : Op) : Type 1 where
  pub member : o.given.member ≡ i
  pub ordinal : o.ordinal ≡ k
  pub aborted : o.accepted ≡ false
  pub listed : (P : Op → Type 0) → Every P ops → P o

module _ (i k : ℕ) where
  -- what the test says
  pub is_aborted_lem : (o : Op) → is_aborted i k o ≡ true → (o.given.member ≡ i) × (o.ordinal ≡ k) × (o.accepted ≡ false)
  unfolding is_aborted
  is_aborted_lem o f =
      let rest = second (eqb o.given.member i) (eqb o.ordinal k && not o.accepted) f in (
        eqb-true o.given.member i (first (eqb o.given.member i) (eqb o.ordinal k && not o.accepted) f),
        eqb-true o.ordinal k (first (eqb o.ordinal k) (not o.accepted) rest),
        not-true o.accepted (second (eqb o.ordinal k) (not o.accepted) rest),
      )

  pub so_aborted : (o : Op) → o.given.member ≡ i → o.ordinal ≡ k → o.accepted ≡ false → is_aborted i k o ≡ true
  unfolding is_aborted
  so_aborted o m n a = both (eq-eqb o.given.member i m) (both (eq-eqb o.ordinal k n) (ap not a))

  pub op_found : (ops : List Op) (o : Op) → aborted_op i k ops ≡ some o → FoundOp i k ops o
  unfolding aborted_op
  op_found [] o e = absurd (none_or_some e)
  op_found (x ∷ ops) o e = on (is_aborted i k x)
      (λ f. let same : x ≡ o = (cc (rw f at e)) in
      let t = is_aborted_lem x f in
      subst (FoundOp i k (x ∷ ops)) same (record { member = t.0; ordinal = t.1; aborted = t.2; listed = λ P h. h.0 }))
      (λ f. let d = op_found ops o (rw f at e) in
      record { member = d.member; ordinal = d.ordinal; aborted = d.aborted; listed = λ P h. d.listed P h.1 })

  -- where none was found, none is such
  pub op_none : (ops : List Op) → aborted_op i k ops ≡ none
      → Every (λ o. o.given.member ≡ i → o.ordinal ≡ k → o.accepted ≡ false → ⊥) ops
  unfolding aborted_op
  op_none [] e = tt
  op_none (x ∷ ops) e = on (is_aborted i k x)
      (λ f. absurd (none_or_some (sym (rw f at e))))
      (λ f. ((λ m n a. apart (so_aborted x m n a) f), op_none ops (rw f at e)))

-- the submit that was found is one of the list's, it overtakes, and it is the earliest that does
record FoundSubmit (o : Op) (submits : List Submit) (s : Submit) : Type 1 where
  overtook : overtakes s o ≡ true
  listed : (P : Submit → Type 0) → Every P submits → P s
  earliest : Falling submits → Every (λ u. overtakes u o ≡ true → s.at ≤ u.at) submits

module _ (o : Op) where
  earlier-either : (a b : Option Submit) (s : Submit) → earlier a b ≡ some s → (a ≡ some s) ⊎ ((a ≡ none) × (b ≡ some s))
  unfolding earlier
  earlier-either none b s e = inr (refl, e)
  earlier-either (some x) b s e = inl e

  earlier_none : (a b : Option Submit) → earlier a b ≡ none → (a ≡ none) × (b ≡ none)
  unfolding earlier
  earlier_none none b e = (refl, e)
  earlier_none (some x) b e = absurd (none_or_some (sym e))

  submit-none : (submits : List Submit) → first_overtaking o submits ≡ none → Every (λ u. overtakes u o ≡ false) submits
  unfolding first_overtaking
  submit-none [] e = tt
  submit-none (x ∷ submits) e =
      let d = earlier_none (first_overtaking o submits) (cond (overtakes x o) (some x) none) e in (
        on (overtakes x o) (λ t. absurd (none_or_some (sym (rw t at d.1)))) (λ f. f),
        submit-none submits d.0,
      )

  none-contests : (submits : List Submit) → Every (λ u. overtakes u o ≡ false) submits → contested o submits ≡ false
  unfolding contested
  none-contests [] h = refl
  none-contests (x ∷ submits) h = ap (λ t. t || contested o submits) h.0 ∙ none-contests submits h.1

  submit-found : (submits : List Submit) (s : Submit) → first_overtaking o submits ≡ some s → FoundSubmit o submits s
  unfolding first_overtaking
  submit-found [] s e = absurd (none_or_some e)
  submit-found (x ∷ submits) s e =
      ⊎_elim
      (λ older. let d = submit-found submits s older in record {
        overtook = d.overtook;
        listed = λ P h. d.listed P h.1;
        earliest = λ f. let l = d.listed (λ u. u.at < x.at) f.0 in ((λ t. omega arith), d.earliest f.1);
      })
      (λ here. on (overtakes x o)
      (λ t. let same : x ≡ s = (cc (rw t at here.1)) in subst (FoundSubmit o (x ∷ submits)) same (record {
        overtook = t;
        listed = λ P h. h.0;
        earliest = λ f. ((λ z. omega arith), every (λ u n y. absurd (apart y n)) submits (submit-none submits here.0));
      }))
      (λ f. absurd (none_or_some (rw f at here.1))))
      (earlier-either (first_overtaking o submits) (cond (overtakes x o) (some x) none) s e)

-- every operation was aborted exactly when it was contested
abbrev pub Aborts : Watch → Type 0
Aborts w = Every (λ o. o.accepted ≡ not (contested o w.submits)) w.decided

-- so that a submit is found that overtook an aborted one
pub aborted_contested : {i k : ℕ} {o : Op} (w : Watch) → Aborts w → FoundOp i k w.decided o → first_overtaking o w.submits ≡ none → ⊥
aborted_contested {o = o} w aborts f e =
    let a = f.listed (λ o. o.accepted ≡ not (contested o w.submits)) aborts in
    apart (a ∙ ap not (none-contests o w.submits (submit-none o w.submits e))) f.aborted

-- Both answers, of a watch whose every step has its place.
module _ (calls : List Call) (seen : List Seen) (p : ℕ → ℕ) (w : Watch) (places : Places (step_at calls seen) p w)
    (marks : Marks (step_at calls seen) p w) (placed : AllPlaced w 1 calls seen) (i k : ℕ) where
  abbrev look : ℕ → Option Step
  look = step_at calls seen

  decided : Every (Decided look) w.decided
  decided = every (λ o d. d.0) w.decided places.decided

  -- where no operation was found there is no verdict: it would be that of one which the watcher has
  none-answered : aborted_op i k w.decided ≡ none → Answered look i k none
  none-answered e submit_at at x =
      let found = judged_at calls seen w placed decided marks.decided at i 5 none (inr refl) x.verdict in
      let o = found.holds in
      found.listed (λ o. o.given.member ≡ i → o.ordinal ≡ k → o.accepted ≡ false → ⊥) (op_none i k w.decided e)
      o.member (o.ordinal ∙ x.its_verdict) (five_aborts found.one.accepted o.verdict)

  -- The operation that was found.
  module _ (o : Op) (f : FoundOp i k w.decided o) where
    its : Judged look i o
    its = subst (λ m. Judged look m o) f.member (f.listed (λ o. Judged look o.given.member o) marks.decided)

    was-aborted : Aborted look i k o.submit_at o.verdict_at
    was-aborted =
        let d = f.listed (Decided look) decided in
        record {
          submit = subst (λ m. IsDeliver m 2 none (look o.submit_at)) f.member d.submitted;
          verdict = subst (λ m. IsDeliver m 5 none (look o.verdict_at)) f.member
              (subst (λ a. IsDeliver o.given.member (cond a 4 5) none (look o.verdict_at)) f.aborted d.judged);
          its_submit = its.taken.ordinal ∙ f.ordinal;
          its_verdict = its.verdict ∙ f.ordinal;
        }

    -- a submit on its slot, taken in between, is one that overtakes it
    overtakes-it : (at j : ℕ) → o.submit_at < at → at < o.verdict_at → TakesSubmit look at j (slot_begun look i o.submit_at)
        → OneOf (λ u. (u.at ≡ at) × (overtakes u o ≡ true)) w.submits
    overtakes-it at j l m t =
        let u = one_of (λ u. (u.member ≡ j) × (u.at ≡ at)) w.submits ((placed_at calls seen w placed at j 2 none t.0).submit refl) in
        let s = u.one in
        let when = u.holds.1 in
        let slot : slot_begun look j at ≡ s.slot =
        subst (λ m. slot_begun look m at ≡ s.slot) u.holds.0
        (subst (λ k. slot_begun look s.member k ≡ s.slot) when
        (u.listed (λ s. TakesSubmit look s.at s.member s.slot) marks.takes).1) in
        record {
          one = s;
          holds = (
            when,
            both (eq-eqb s.slot o.given.slot (sym slot ∙ t.1 ∙ its.taken.slot))
                (both (lt-ltb o.submit_at s.at (omega arith)) (lt-ltb s.at o.verdict_at (omega arith))),
          );
          listed = u.listed;
        }

    some-answered : (s : Submit) → FoundSubmit o w.submits s → Overtook look i k s.member s.at
    some-answered s g =
        let within = ltb o.submit_at s.at && ltb s.at o.verdict_at in
        let slot = eqb-true s.slot o.given.slot (first (eqb s.slot o.given.slot) within g.overtook) in
        let between = second (eqb s.slot o.given.slot) within g.overtook in
        let after = ltb-true o.submit_at s.at (first (ltb o.submit_at s.at) (ltb s.at o.verdict_at) between) in
        let before = ltb-true s.at o.verdict_at (second (ltb o.submit_at s.at) (ltb s.at o.verdict_at) between) in
        let t = g.listed (λ s. TakesSubmit look s.at s.member s.slot) marks.takes in
        record {
          submit_at = o.submit_at;
          verdict_at = o.verdict_at;
          aborted = was-aborted;
          takes = (t.0, t.1 ∙ slot ∙ sym its.taken.slot);
          between = (after, before);
          first = λ at j l m t. let u = overtakes-it at j l (omega arith) t in
              let least = u.listed (λ u. overtakes u o ≡ true → s.at ≤ u.at) (g.earliest marks.falling) u.holds.1 in
              omega (arith, least, u.holds.0);
        }

  module _ (aborts : Aborts w) where
    submit-answered : (o : Op) → FoundOp i k w.decided o → (x : Option Submit) → first_overtaking o w.submits ≡ x → Answered look i k x
    submit-answered o f none e = absurd (aborted_contested w aborts f e)
    submit-answered o f (some s) e = some-answered o f s (submit-found o w.submits s e)

    op-answered : (x : Option Op) → aborted_op i k w.decided ≡ x → Answered look i k (overtaking x w.submits)
    unfolding overtaking
    op-answered none e = none-answered e
    op-answered (some o) e = submit-answered o (op_found i k w.decided o e) (first_overtaking o w.submits) refl

-- Of every run of which demand 3 holds.

-- what goes beside the watch of it, where every move keeps Q
pub watched_left : {T : Type 0} (next : T → Call → Seen → T) (calls : List Call) (seen : List Seen) (Q : (ℕ → ℕ) → Watch → T → Type 0)
    → ((p q : ℕ → ℕ) (w x : Watch) (t : T) (call : Call) (s : Seen) → step_at calls seen (w.steps + 1) ≡ some (step call s)
    → Moved (step_at calls seen) p w q x → Places (step_at calls seen) p w → Q p w t → Q q x (next t call s))
    → (t : T) → Q (λ i. 0) nothing_yet t → (kind : Kind) (n : ℕ) (boards : List Board) → Demand3 kind n calls boards seen
    → Left (step_at calls seen) (λ q x. Q q x (beside next t calls seen)) (watched calls seen)
unfolding watched nothing_yet ref_opened ref_idle
watched_left next calls seen Q keep t h kind n boards d =
    let moves = subst (RunMoves (λ i. 0) calls) (sym d.as_reference) (run_moves kind n ref_opened calls) in
    let ahead : Ahead (step_at calls seen) 0 calls seen = λ k z. ap (step_at calls seen) (omega arith) in
    run_beside (step_at calls seen) next Q keep (λ i. 0) nothing_yet t (places_nothing (step_at calls seen)) h calls seen ahead moves

pub run_marked : (kind : Kind) (n : ℕ) (calls : List Call) (boards : List Board) (seen : List Seen) → Demand3 kind n calls boards seen
    → Left (step_at calls seen) (Marks (step_at calls seen)) (watched calls seen)
run_marked kind n calls boards seen d =
    watched_left {T = Unit {0}} (λ t call s. t) calls seen (λ p w t. Marks (step_at calls seen) p w)
    (λ p q w x t call s here. marks_after) tt (marks_nothing (step_at calls seen)) kind n boards d

pub overtaker_answered : (kind : Kind) (n : ℕ) (calls : List Call) (boards : List Board) (seen : List Seen)
    → Demand3 kind n calls boards seen → (i k : ℕ) → Answered (step_at calls seen) i k (overtaker_in (watched calls seen) i k)
unfolding overtaker_in
overtaker_answered kind n calls boards seen d i k =
    let w = watched calls seen in
    let l = run_marked kind n calls boards seen d in
    op-answered calls seen l.phases w l.places l.kept d.positions.complete i k d.aborts (aborted_op i k w.decided) refl

-- The words of the claim, on a run by hand: every position is computed.
abbrev sample_at : ℕ → Option Step
sample_at = step_at sample_calls sample_seen

pub sample_overtaken : SampleOvertaken sample_at
unfolding step_at slot_begun slot_after begun_count began_by
sample_overtaken =
    let aborted : Aborted sample_at 1 1 2 7 = record {
      submit = (refl, refl, refl, refl);
      verdict = (refl, refl, refl, refl);
      its_submit = refl;
      its_verdict = refl;
    } in
    record {
      slots = (refl, (refl, refl));
      takes = (((refl, refl, refl, refl), refl), ((refl, refl, refl, refl), refl));
      takes_not = ((λ t. omega (arith, t.1)), ((λ t. omega (arith, t.0.0)), (λ t. omega (arith, t.0.2))));
      aborted = aborted;
      aborted_not = ((λ a. omega (arith, a.its_submit)), ((λ a. omega (arith, a.verdict.2)), (λ a. omega (arith, a.verdict.0))));
      overtook = record {
        submit_at = 2;
        verdict_at = 7;
        aborted = aborted;
        takes = ((refl, refl, refl, refl), refl);
        between = (omega arith, omega arith);
        first = λ u m l h t. on (eqb u 3)
            (λ e. subst (λ x. IsDeliver m 2 none (sample_at x)) (eqb-true u 3 e) t.0)
            (λ e. let d = eqb-false u 3 e in let four : u ≡ 4 = omega arith in subst (λ x. IsDeliver m 2 none (sample_at x)) four t.0);
      };
      overtook_not = λ o. let a = o.submit_at in
          on (eqb a 0)
          (λ e. subst (λ x. IsDeliver 1 2 none (sample_at x)) (eqb-true a 0 e) o.aborted.submit)
          (λ e. let d = eqb-false a 0 e in let one : a ≡ 1 = omega (arith, o.between.0) in
          subst (λ x. IsDeliver 1 2 none (sample_at x)) one o.aborted.submit);
    }
