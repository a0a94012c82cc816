-- Each of the six moves keeps what is known of the positions: of the places, of every operation found, of every submit taken.
use Prim.Native.Nat.{ℕ, ◌+◌, ◌≤◌, ◌<◌}
use mathlib.Core.Path.{◌≡◌, refl, sym, ◌∙◌}
use mathlib.Core.Bool.{Bool, false, cond}
use mathlib.Core.List.{List, [], ◌∷◌}
use mathlib.Core.Logic.{inl, inr, ⊎_map}
use mathlib.Core.Option.{Option, none}
use native.Mathlib.Omega.{arith}
use lib.Dec.{eqb}
use borrow.Author.Tests.{eqb-true, eqb-false, eq-eqb, ne_eqb}
use Rattle.lists.specs.Functions.{put}
use Rattle.lists.specs.Every.{Every, Some}
use Rattle.lists.proofs.Functions.{put_at, put_all, put_both, split}
use Rattle.model.specs.Records.{Value}
use Rattle.model.specs.Runs.{Call, begin, deliver, crash, Seen, Step}
use Rattle.model.specs.History.{Op, Submit, Watch, begun_op, submitted_op, submit_of, decided_op, ended_op, ended}
use Rattle.model.specs.Positions.{IsBegin, IsDeliver, began_by, begun_count, Decided}
use Rattle.model.proofs.HistoryLists.{every, every_ended}
use Rattle.model.proofs.Ordinals.{count_next, count_same, begin_counts, deliver_counts}
use Rattle.model.proofs.PositionsInvariant.{with_running, next_op, Moved, stays, begins, submits, replies, judges, ends}
use Rattle.model.proofs.PositionsInvariant.{RunningPlace, Unended, Places, Found, runs, decided, FoundIn, Stable, PlacedIn, Taken}

-- The parts, a step later.

running_later : {look : ℕ → Option Step} {i phase steps : ℕ} {o : Op} → RunningPlace look i phase steps o
    → began_by i (look (steps + 1)) ≡ false → (to : ℕ) → (1 ≤ to → 1 ≤ phase) → (2 ≤ to → 2 ≤ phase) → RunningPlace look i to (steps + 1) o
running_later {look} {i} {steps = steps} h other to one two = record {
  placed = h.placed;
  has_begun = λ l. h.has_begun (one l);
  has_submitted = λ l. h.has_submitted (two l);
  newest = h.newest ∙ sym (count_same look i steps other);
  began = omega arith;
  submitted = omega arith;
}

decided_later : (look : ℕ → Option Step) (steps : ℕ) (ops : List Op)
    → Every (λ o. Decided look o × (o.verdict_at ≤ steps)) ops → Every (λ o. Decided look o × (o.verdict_at ≤ steps + 1)) ops
decided_later look steps = every (λ o h. (h.0, omega (arith, h.1)))

-- the newest decided operation of member i ended: it was not yet, and others' newest stay
module _ (i at : ℕ) (v : Option Value) where
  pub unended_other : (k : ℕ) → (k ≡ i → ⊥) → (ops : List Op) → Unended k ops → Unended k (ended i at v ops)
  unfolding ended ended_op
  unended_other k d [] u = u
  unended_other k d (o ∷ ops) u = split (Unended k) (eqb o.given.member i)
      (λ e. ((λ m. absurd (d (sym m ∙ eqb-true o.given.member i e))), u.1))
      (λ e. (u.0, (λ m. unended_other k d ops (u.1 m))))

  some-ended : (P : Op → Type 0) → ((o : Op) → o.end_at ≡ 0 → P o → P (ended_op at v o)) → (ops : List Op) → Unended i ops
      → Some P ops → Some P (ended i at v ops)
  unfolding ended
  some-ended P f [] u s = s
  some-ended P f (o ∷ ops) u s = split (Some P) (eqb o.given.member i)
      (λ e. ⊎_map (f o (u.0 (eqb-true o.given.member i e))) (λ x. x) s)
      (λ e. ⊎_map (λ x. x) (some-ended P f ops (u.1 (eqb-false o.given.member i e))) s)

  pub ended_found : (ops : List Op) → Unended i ops → Some (λ o. (o.given.member ≡ i) × (o.end_at ≡ at)) (ended i at v ops)
  unfolding ended ended_op
  ended_found [] u = u
  ended_found (o ∷ ops) u = split (Some (λ o. (o.given.member ≡ i) × (o.end_at ≡ at))) (eqb o.given.member i)
      (λ e. inl (eqb-true o.given.member i e, refl))
      (λ e. inr (ended_found ops (u.1 (eqb-false o.given.member i e))))

-- The move keeps what is known of the positions.

begun_place : (look : ℕ → Option Step) (w : Watch) (i r t : ℕ) (v : Value) → IsBegin (next_op w i r t v).given (look (w.steps + 1))
    → (w.running i).ordinal ≡ begun_count look i w.steps → RunningPlace look i 1 (w.steps + 1) (next_op w i r t v)
unfolding begun_op
begun_place look w i r t v b count = record {
  placed = record {
    member = λ h. refl;
    began = λ h. b;
    ordinal = counted;
    submitted = λ h. absurd (omega arith);
    in_order = λ h. absurd (omega arith);
    undecided = (refl, refl, refl, refl);
  };
  has_begun = λ l. omega arith;
  has_submitted = λ l. absurd (omega arith);
  newest = counted;
  began = omega arith;
  submitted = omega arith;
}
  where
    counted : (w.running i).ordinal + 1 ≡ begun_count look i (w.steps + 1)
    counted = rw (count_next look i w.steps, begin_counts (next_op w i r t v).given (look (w.steps + 1)) b i, eq-eqb i i refl, count)

submitted_place : {look : ℕ → Option Step} {i phase steps : ℕ} {o : Op} → RunningPlace look i phase steps o → phase ≡ 1
    → IsDeliver i 2 none (look (steps + 1)) → RunningPlace look i 2 (steps + 1) (submitted_op (steps + 1) o)
unfolding submitted_op
submitted_place {look} {i} {steps = steps} h one d = record {
  placed = record {
    member = h.placed.member;
    began = h.placed.began;
    ordinal = h.placed.ordinal;
    submitted = λ z. d;
    in_order = λ z. omega (arith, h.began);
    undecided = (refl, refl, refl, refl);
  };
  has_begun = λ l. h.has_begun (omega arith);
  has_submitted = λ l. omega arith;
  newest = h.newest ∙ sym (count_same look i steps (deliver_counts i 2 none (look (steps + 1)) d i));
  began = omega (arith, h.began);
  submitted = omega arith;
}

-- an operation at its verdict
judged_place : {look : ℕ → Option Step} {i phase steps : ℕ} {o : Op} → RunningPlace look i phase steps o → phase ≡ 3 → (a : Bool)
    → IsDeliver i (cond a 4 5) none (look (steps + 1)) → Decided look (decided_op (steps + 1) a o)
unfolding decided_op
judged_place {look} {steps = steps} {o = o} h three a d =
    let begun : 0 < o.begin_at = h.has_begun (omega arith) in
    let sent : 0 < o.submit_at = h.has_submitted (omega arith) in
    let m = h.placed.member begun in record {
      began = h.placed.began begun;
      ordinal = rw m h.placed.ordinal;
      submitted = rw m (h.placed.submitted sent);
      judged = rw m d;
      ended = λ z. absurd (omega arith);
      in_order = (begun, h.placed.in_order sent, omega (arith, h.submitted));
      last = λ z. absurd (omega arith);
      unended = λ z. refl;
    }

-- and at its end
ended_place : (look : ℕ → Option Step) (i steps : ℕ) (v : Option Value) → IsDeliver i 0 v (look (steps + 1)) → (o : Op)
    → o.given.member ≡ i → Decided look o × (o.verdict_at ≤ steps) → Decided look (ended_op (steps + 1) v o) × (o.verdict_at ≤ steps + 1)
unfolding ended_op
ended_place look i steps v d o m h = (
  record {
    began = h.0.began;
    ordinal = h.0.ordinal;
    submitted = h.0.submitted;
    judged = h.0.judged;
    ended = λ z. rw m d;
    in_order = h.0.in_order;
    last = λ z. omega (arith, h.1);
    unended = λ z. absurd (omega arith);
  },
  omega (arith, h.1),
)

module _ (look : ℕ → Option Step) (p : ℕ → ℕ) (w : Watch) (h : Places look p w) where
  later-at : (k : ℕ) → began_by k (look (w.steps + 1)) ≡ false → RunningPlace look k (p k) (w.steps + 1) (w.running k)
  later-at k other = running_later (h.running k) other (p k) (λ l. l) (λ l. l)

  -- the members that do not begin at the step: all but one, or all
  beside-begin : (i r t : ℕ) (v : Value) → IsBegin (next_op w i r t v).given (look (w.steps + 1)) → (k : ℕ) → (k ≡ i → ⊥)
      → RunningPlace look k (p k) (w.steps + 1) (w.running k)
  unfolding begun_op
  beside-begin i r t v b k d = later-at k (begin_counts (next_op w i r t v).given (look (w.steps + 1)) b k ∙ ne_eqb i k (λ e. d (sym e)))

  beside : {i : ℕ} → ((k : ℕ) → began_by k (look (w.steps + 1)) ≡ false) → (k : ℕ) → (k ≡ i → ⊥)
      → RunningPlace look k (p k) (w.steps + 1) (w.running k)
  beside other k d = later-at k (other k)

  -- member i's newest decided operation, in another phase than 4 and 5
  waiting-off : (i to : ℕ) (ops : List Op) → (4 ≤ to → Unended i ops) → ((k : ℕ) → (k ≡ i → ⊥) → 4 ≤ p k → Unended k ops)
      → (k : ℕ) → 4 ≤ put p i to k → Unended k ops
  waiting-off i to ops here off = put_all (λ k x. 4 ≤ x → Unended k ops) p i to here off

  -- the verdict's operation is the newest of its member, and has not ended
  waiting-judged : (i : ℕ) (a : Bool) → (w.running i).given.member ≡ i → (k : ℕ) → 4 ≤ put p i (cond a 4 5) k
      → Unended k (decided_op (w.steps + 1) a (w.running i) ∷ w.decided)
  unfolding decided_op
  waiting-judged i a m = waiting-off i (cond a 4 5) (decided_op (w.steps + 1) a (w.running i) ∷ w.decided)
      (λ l. ((λ e. refl), (λ e. absurd (e m))))
      (λ k d l. ((λ e. refl), (λ e. h.waiting k l)))

pub places_after : {look : ℕ → Option Step} {p q : ℕ → ℕ} {w x : Watch} → Moved look p w q x → Places look p w → Places look q x
unfolding decided_op ended_op
places_after {look} {p} {w = w} (stays q d) h = record {
  running = λ k. later-at look p w h k (q k);
  decided = decided_later look w.steps w.decided h.decided;
  waiting = h.waiting;
}
places_after {look} {p} {w = w} (begins i r t v z b) h = record {
  running = put_both (λ k x. RunningPlace look k x (w.steps + 1)) p w.running i 1 (next_op w i r t v)
      (begun_place look w i r t v b (h.running i).newest) (beside-begin look p w h i r t v b);
  decided = decided_later look w.steps w.decided h.decided;
  waiting = waiting-off look p w h i 1 w.decided (λ l. absurd (omega arith)) (λ k d. h.waiting k);
}
places_after {look} {p} {w = w} (submits i e d) h = record {
  running = put_both (λ k x. RunningPlace look k x (w.steps + 1)) p w.running i 2 (submitted_op (w.steps + 1) (w.running i))
      (submitted_place (h.running i) e d) (beside look p w h (deliver_counts i 2 none (look (w.steps + 1)) d));
  decided = decided_later look w.steps w.decided h.decided;
  waiting = waiting-off look p w h i 2 w.decided (λ l. absurd (omega arith)) (λ k d. h.waiting k);
}
places_after {look} {p} {w = w} (replies i u e d) h =
    let other = deliver_counts i 3 u (look (w.steps + 1)) d in record {
      running = put_all (λ k x. RunningPlace look k x (w.steps + 1) (w.running k)) p i 3
          (running_later (h.running i) (other i) 3 (λ l. omega arith) (λ l. omega arith))
          (beside look p w h other);
      decided = decided_later look w.steps w.decided h.decided;
      waiting = waiting-off look p w h i 3 w.decided (λ l. absurd (omega arith)) (λ k d. h.waiting k);
    }
places_after {look} {p} {w = w} (judges i a e d) h =
    let other = deliver_counts i (cond a 4 5) none (look (w.steps + 1)) d in record {
      running = put_all (λ k x. RunningPlace look k x (w.steps + 1) (w.running k)) p i (cond a 4 5)
          (running_later (h.running i) (other i) (cond a 4 5) (λ l. omega arith) (λ l. omega arith))
          (beside look p w h other);
      decided = ((judged_place (h.running i) e a d, omega arith), decided_later look w.steps w.decided h.decided);
      waiting = waiting-judged look p w h i a ((h.running i).placed.member ((h.running i).has_begun (omega arith)));
    }
places_after {look} {p} {w = w} (ends i v four d) h =
    let other = deliver_counts i 0 v (look (w.steps + 1)) d in record {
      running = put_all (λ k x. RunningPlace look k x (w.steps + 1) (w.running k)) p i 0
          (running_later (h.running i) (other i) 0 (λ l. absurd (omega arith)) (λ l. absurd (omega arith)))
          (beside look p w h other);
      decided = every_ended i (w.steps + 1) v (λ o. Decided look o × (o.verdict_at ≤ w.steps))
          (λ o. Decided look o × (o.verdict_at ≤ w.steps + 1)) (ended_place look i w.steps v d)
          (λ o x. (x.0, omega (arith, x.1))) w.decided h.decided;
      waiting = waiting-off look p w h i 0 (ended i (w.steps + 1) v w.decided) (λ l. absurd (omega arith))
          (λ k d l. unended_other i (w.steps + 1) v k d w.decided (h.waiting k l));
    }

-- The move keeps every operation that was found.

-- what is found stays found where the running operation and the phase change, and where the decided ones do
module _ {low : ℕ} {P : Op → Type 0} {i phase : ℕ} {o : Op} {ops : List Op} where
  found-on : (to : ℕ) (x : Op) (more : List Op)
      → (low ≤ phase → phase ≤ 3 → P o → Found low P i to x more)
      → (Some (λ y. (y.given.member ≡ i) × P y) ops → Some (λ y. (y.given.member ≡ i) × P y) more)
      → Found low P i phase o ops → Found low P i to x more
  found-on to x more f g (runs l h y) = f l h y
  found-on to x more f g (decided s) = decided (g s)

pub found_after : {low : ℕ} {P : Op → Type 0} → Stable low P → {look : ℕ → Option Step} {p q : ℕ → ℕ} {w x : Watch} → Moved look p w q x
    → Places look p w → (k : ℕ) → FoundIn low P p w k → FoundIn low P q x k
unfolding decided_op ended_op
found_after st (stays q d) h = λ k f. f
found_after {low} {P} st {p = p} {w = w} (begins i r t v z b) h =
    put_both (λ k ph o. FoundIn low P p w k → Found low P k ph o w.decided) p w.running i 1 (next_op w i r t v)
    (found-on 1 (next_op w i r t v) w.decided (λ l m y. absurd (omega (arith, st.starts))) (λ s. s))
    (λ k d f. f)
found_after {low} {P} st {p = p} {w = w} (submits i e d) h =
    let o = submitted_op (w.steps + 1) (w.running i) in
    put_both (λ k ph o. FoundIn low P p w k → Found low P k ph o w.decided) p w.running i 2 o
    (found-on 2 o w.decided
    (λ l m y. runs (omega arith) (omega arith) (st.submitted (w.steps + 1) (w.running i) (omega arith) y)) (λ s. s))
    (λ k d f. f)
found_after {low} {P} st {p = p} {w = w} (replies i u e d) h =
    put_all (λ k ph. FoundIn low P p w k → Found low P k ph (w.running k) w.decided) p i 3
    (found-on 3 (w.running i) w.decided (λ l m y. runs (omega arith) (omega arith) y) (λ s. s))
    (λ k d f. f)
found_after {low} {P} st {p = p} {w = w} (judges i a e d) h =
    let o = decided_op (w.steps + 1) a (w.running i) in
    let m = (h.running i).placed.member ((h.running i).has_begun (omega arith)) in
    put_all (λ k ph. FoundIn low P p w k → Found low P k ph (w.running k) (o ∷ w.decided)) p i (cond a 4 5)
    (found-on (cond a 4 5) (w.running i) (o ∷ w.decided)
    (λ l n y. decided (inl (m, st.decided (w.steps + 1) a (w.running i) (omega arith) y))) (λ s. inr s))
    (λ k d. found-on (p k) (w.running k) (o ∷ w.decided) runs (λ s. inr s))
found_after {low} {P} st {p = p} {w = w} (ends i v four d) h =
    let ops = ended i (w.steps + 1) v w.decided in
    put_all (λ k ph. FoundIn low P p w k → Found low P k ph (w.running k) ops) p i 0
    (found-on 0 (w.running i) ops (λ l m y. absurd (omega arith)) (keep i))
    (λ k d. found-on (p k) (w.running k) ops runs (keep k))
  where
    keep : (k : ℕ) → Some (λ y. (y.given.member ≡ k) × P y) w.decided
        → Some (λ y. (y.given.member ≡ k) × P y) (ended i (w.steps + 1) v w.decided)
    keep k = some-ended i (w.steps + 1) v (λ y. (y.given.member ≡ k) × P y)
        (λ o z y. (y.0, st.ended (w.steps + 1) v o z y.1)) w.decided (h.waiting i four)

-- The four positions of an operation, each set once.

begin_stable : (k : ℕ) → Stable 1 (λ o. o.begin_at ≡ k)
unfolding submitted_op decided_op ended_op
begin_stable k = record { starts = omega arith; submitted = λ at o l e. e; decided = λ at a o l e. e; ended = λ at v o z e. e }

submit_stable : (k : ℕ) → Stable 2 (λ o. o.submit_at ≡ k)
unfolding decided_op ended_op
submit_stable k =
    record { starts = omega arith; submitted = λ at o l e. absurd (omega arith); decided = λ at a o l e. e; ended = λ at v o z e. e }

-- with the slot, as a taken submit has it
slot_stable : (k r : ℕ) → Stable 2 (λ o. (o.submit_at ≡ k) × (o.given.slot ≡ r))
unfolding decided_op ended_op
slot_stable k r =
    record { starts = omega arith; submitted = λ at o l e. absurd (omega arith); decided = λ at a o l e. e; ended = λ at v o z e. e }

verdict_stable : (k : ℕ) → Stable 4 (λ o. o.verdict_at ≡ k)
unfolding ended_op
verdict_stable k = record {
  starts = omega arith;
  submitted = λ at o l e. absurd (omega arith);
  decided = λ at a o l e. absurd (omega arith);
  ended = λ at v o z e. e;
}

end_stable : (k : ℕ) → 0 < k → Stable 4 (λ o. o.end_at ≡ k)
end_stable k p = record {
  starts = omega arith;
  submitted = λ at o l e. absurd (omega arith);
  decided = λ at a o l e. absurd (omega arith);
  ended = λ at v o z e. absurd (omega arith);
}

-- A step has its place in the watch, and keeps it.

more_submits : (P : Submit → Type 0) {look : ℕ → Option Step} {p q : ℕ → ℕ} {w x : Watch} → Moved look p w q x
    → Some P w.submits → Some P x.submits
more_submits P (stays q d) s = s
more_submits P (begins i r t v z b) s = s
more_submits P (submits i e d) s = inr s
more_submits P (replies i u e d) s = s
more_submits P (judges i a e d) s = s
more_submits P (ends i v four d) s = s

pub placed_after : (k : ℕ) → 0 < k → (call : Call) (s : Seen) {look : ℕ → Option Step} {p q : ℕ → ℕ} {w x : Watch} → Moved look p w q x
    → Places look p w → PlacedIn p w k call s → PlacedIn q x k call s
placed_after k z (begin i r t v) s m h f = found_after (begin_stable k) m h i f
placed_after k z (deliver i) s m h f = (
  (λ e. found_after (submit_stable k) m h i (f.0 e)),
  (λ e. more_submits (λ u. (u.member ≡ i) × (u.at ≡ k)) m (f.1 e)),
  (λ e. found_after (verdict_stable k) m h i (f.2 e)),
  (λ e. found_after (end_stable k z) m h i (f.3 e)),
)
placed_after k z (crash i) s m h f = tt

-- A taken submit is that of an operation.

module _ {look : ℕ → Option Step} {p q : ℕ → ℕ} {w x : Watch} (m : Moved look p w q x) (h : Places look p w) where
  taken-after : (s : Submit) → Taken p w s → Taken q x s
  taken-after s t = found_after (slot_stable s.at s.slot) m h s.member t

  all_after : (s : List Submit) → Every (Taken p w) s → Every (Taken q x) s
  all_after = every taken-after

-- a submit just taken
now_taken : (p : ℕ → ℕ) (w : Watch) (i : ℕ) (s : List Submit) → Taken (put p i 2)
    (with_running w i (submitted_op (w.steps + 1) (w.running i)) s)
    (submit_of (w.steps + 1) i (w.running i))
unfolding submitted_op submit_of
now_taken p w i s =
    let member = (submit_of (w.steps + 1) i (w.running i)).member in
    let o = submitted_op (w.steps + 1) (w.running i) in
    let phase : put p i 2 member ≡ 2 = put_at p i 2 in
    let running : put w.running i o member ≡ o = put_at w.running i o in
    rw (phase, running) (runs (omega arith) (omega arith) (refl, refl))

pub submits_after : {look : ℕ → Option Step} {p q : ℕ → ℕ} {w x : Watch} → Moved look p w q x → Places look p w
    → Every (Taken p w) w.submits → Every (Taken q x) x.submits
submits_after {w = w} (stays q d) h s = all_after (stays q d) h w.submits s
submits_after {w = w} (begins i r t v z b) h s = all_after (begins i r t v z b) h w.submits s
submits_after {p = p} {w = w} (submits i e d) h s =
    (now_taken p w i (submit_of (w.steps + 1) i (w.running i) ∷ w.submits), all_after (submits i e d) h w.submits s)
submits_after {w = w} (replies i u e d) h s = all_after (replies i u e d) h w.submits s
submits_after {w = w} (judges i a e d) h s = all_after (judges i a e d) h w.submits s
submits_after {w = w} (ends i v four d) h s = all_after (ends i v four d) h w.submits s
