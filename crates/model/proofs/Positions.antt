-- The watcher's positions are the steps at which the things happened, and none is left out: for every run whose phases move as Phases.antt
-- says. Each step of a run is one of the moves and has its place, which later moves keep.
use Prim.Native.Nat.{ℕ, ◌+◌, ◌-◌, ◌≤◌, ◌<◌}
use mathlib.Core.Path.{◌≡◌, refl, sym, ap, subst, ◌∙◌}
use mathlib.Core.Bool.{cond}
use mathlib.Core.List.{List, [], ◌∷◌}
use mathlib.Core.Logic.{◌⊎◌, inl, inr, ⊎_elim}
use mathlib.Core.Option.{Option, some}
use native.Mathlib.Omega.{arith}
use lib.Dec.{eqb}
use borrow.Author.Tests.{eqb-true, eqb-false, ne_eqb}
use Rattle.lists.specs.Functions.{put}
use Rattle.lists.specs.Every.{Every, Some}
use Rattle.lists.proofs.Functions.{put_at, split}
use Rattle.model.specs.Records.{Value}
use Rattle.model.specs.Runs.{Call, begin, deliver, crash, Seen, Step, step}
use Rattle.model.specs.History.{Op, Watch, no_op, begun_op, submitted_op, submit_of, decided_op, watch_deliver, watch_call, watch_step}
use Rattle.model.specs.History.{watch_from, nothing_yet, watched}
use Rattle.model.specs.Positions.{step_at, IsDeliver, began_by, begun_count, Placed, AllPlaced, Positions}
use Rattle.model.proofs.HistoryLists.{every}
use Rattle.model.proofs.HistorySteps.{watch_verdict}
use Rattle.model.proofs.Phases.{Next, submitted, answered, judged, ended as completes, Moves, StepMoves, RunMoves, verdict_high}
use Rattle.model.proofs.PositionsInvariant.{next_op, Moved, stays, begins, submits, replies, judges, ends, moved_steps, Places}
use Rattle.model.proofs.PositionsInvariant.{Found, runs, decided, PlacedIn, Taken}
use Rattle.model.proofs.Ordinals.{refused_counts, refused_delivers}
use Rattle.model.proofs.PositionsTurns.{Turns, turns_after}
use Rattle.model.proofs.PositionsSteps.{ended_found, placed_after, places_after, submits_after}

-- A step of a run is one of the moves, and has its place.

record Stepped (look : ℕ → Option Step) (p : ℕ → ℕ) (w : Watch) (call : Call) (s : Seen) (x : Watch) : Type 0 where
  moved : Moved look p w s.phases x
  placed : s.answer ≡ 0 → PlacedIn s.phases x (w.steps + 1) call s

module _ (look : ℕ → Option Step) (p : ℕ → ℕ) (w : Watch) (h : Places look p w) (s : Seen) where
  begin-stepped : (i r t : ℕ) (v : Value) → look (w.steps + 1) ≡ some (step (begin i r t v) s) → s.answer ≡ 0
      → p i ≡ 0 → s.phases ≡ put p i 1 → Stepped look p w (begin i r t v) s (watch_call w (w.steps + 1) (begin i r t v) s)
  unfolding watch_call begun_op
  begin-stepped i r t v here zero idle phases = record {
    moved = rw phases (begins i r t v idle (rw here (zero, refl)));
    placed = λ z. rw (phases, put_at p i 1, put_at w.running i (next_op w i r t v))
        (runs (omega arith) (omega arith) refl);
  }

  module _ (i : ℕ) (here : look (w.steps + 1) ≡ some (step (deliver i) s)) (zero : s.answer ≡ 0) where
    abbrev Goal : Type 0
    Goal = Stepped look p w (deliver i) s (watch_deliver w (w.steps + 1) i s)

    -- the phase that member i has after it
    after : (to : ℕ) → s.phases ≡ put p i to → s.phases i ≡ to
    after to phases = ap (λ f. f i) phases ∙ put_at p i to

    deliver-stepped : (to : ℕ) → Next (p i) s.returned to → s.phases ≡ put p i to → Goal
    unfolding watch_deliver submitted_op submit_of decided_op
    deliver-stepped to (submitted one nothing) phases =
        let q = after 2 phases in record {
          moved = rw (q, phases) (submits i one (rw here (refl, zero, q, nothing)));
          placed = λ z. rw q (
            (λ e. rw (put_at w.running i (submitted_op (w.steps + 1) (w.running i))) (runs (omega arith) (omega arith) refl)),
            (λ e. inl (refl, refl)),
            (λ e. absurd (⊎_elim (λ d. omega arith) (λ d. omega arith) e)),
            (λ e. absurd (omega arith)),
          );
        }
    deliver-stepped to (answered two) phases =
        let q = after 3 phases in record {
          moved = rw (q, phases) (replies i s.returned two (rw here (refl, zero, q, refl)));
          placed = λ z. (
            (λ e. absurd (omega arith)),
            (λ e. absurd (omega arith)),
            (λ e. absurd (⊎_elim (λ d. omega arith) (λ d. omega arith) e)),
            (λ e. absurd (omega arith)),
          );
        }
    deliver-stepped to (judged a three nothing) phases =
        let q = after (cond a 4 5) phases in
        let four : 4 ≤ cond a 4 5 = verdict_high a in
        let m = (h.running i).placed.member ((h.running i).has_begun (omega arith)) in
        rw (watch_verdict w (w.steps + 1) i s a q) (record {
          moved = rw phases (judges i a three (rw here (refl, zero, q, nothing)));
          placed = λ z. (
            (λ e. absurd (omega arith)),
            (λ e. absurd (omega arith)),
            (λ e. decided (inl (m, refl))),
            (λ e. absurd (omega arith)),
          );
        })
    deliver-stepped to (completes four) phases =
        let q = after 0 phases in record {
          moved = rw (q, phases) (ends i s.returned four (rw here (refl, zero, q, refl)));
          placed = λ z. rw q (
            (λ e. absurd (omega arith)),
            (λ e. absurd (omega arith)),
            (λ e. absurd (⊎_elim (λ d. omega arith) (λ d. omega arith) e)),
            (λ e. decided (ended_found i (w.steps + 1) s.returned w.decided (h.waiting i four))),
          );
        }

  taken-stepped : (call : Call) → look (w.steps + 1) ≡ some (step call s) → s.answer ≡ 0 → Moves p call s
      → Stepped look p w call s (watch_call w (w.steps + 1) call s)
  unfolding watch_call began_by
  taken-stepped (begin i r t v) here zero m = begin-stepped i r t v here zero m.is_idle m.phases
  taken-stepped (deliver i) here zero m = deliver-stepped i here zero m.to m.next m.phases
  taken-stepped (crash i) here zero m =
      record { moved = rw m (stays (λ k. rw here refl) (λ j q v d. subst (IsDeliver j q v) here d)); placed = λ z. tt }

  stepped : (call : Call) → look (w.steps + 1) ≡ some (step call s) → StepMoves p call s → Stepped look p w call s (watch_step w call s)
  unfolding watch_step
  stepped call here m = split (Stepped look p w call s) (eqb s.answer 0)
      (λ e. let zero = eqb-true s.answer 0 e in taken-stepped call here zero (m.taken zero))
      (λ e. record {
        moved = rw (m.refused e) (stays (λ k. rw here (refused_counts call s e k))
            (λ j q v d. refused_delivers call s e j q v (subst (IsDeliver j q v) here d)));
        placed = λ z. absurd (eqb-false s.answer 0 e z);
      })

-- Whole runs.

-- the step of each number is looked up in what is still to come
abbrev pub Ahead : (ℕ → Option Step) → ℕ → List Call → List Seen → Type 0
Ahead look steps calls seen = (k : ℕ) → 0 < k → step_at calls seen k ≡ look (steps + k)

ahead_here : (look : ℕ → Option Step) (steps : ℕ) (call : Call) (calls : List Call) (s : Seen) (seen : List Seen)
    → Ahead look steps (call ∷ calls) (s ∷ seen) → look (steps + 1) ≡ some (step call s)
unfolding step_at
ahead_here look steps call calls s seen h = sym (h 1 (omega arith))

ahead_next : (look : ℕ → Option Step) (steps : ℕ) (call : Call) (calls : List Call) (s : Seen) (seen : List Seen) (next : ℕ)
    → next ≡ steps + 1 → Ahead look steps (call ∷ calls) (s ∷ seen) → Ahead look next calls seen
unfolding step_at
ahead_next look steps call calls s seen next n h k z =
    let e : k + 1 - 1 ≡ k = omega arith in
    let f : steps + (k + 1) ≡ next + k = omega arith in
    sym (rw (ne_eqb (k + 1) 1 (λ d. omega arith)) refl ∙ ap (step_at calls seen) e)
    ∙ h (k + 1) (omega arith) ∙ ap look f

-- what a run leaves, where every move keeps Q
pub record Left (look : ℕ → Option Step) (Q : (ℕ → ℕ) → Watch → Type 0) (x : Watch) : Type 0 where
  pub phases : ℕ → ℕ
  pub places : Places look phases x
  pub kept : Q phases x

-- what is made of each step, one after the other
unfoldable pub beside : {T : Type 0} → (T → Call → Seen → T) → T → List Call → List Seen → T
beside next t [] seen = t
beside next t (call ∷ calls) [] = t
beside next t (call ∷ calls) (s ∷ seen) = beside next (next t call s) calls seen

module _ (look : ℕ → Option Step) where
  -- Q is of what is made beside the watch, too
  pub run_beside : {T : Type 0} (next : T → Call → Seen → T) (Q : (ℕ → ℕ) → Watch → T → Type 0)
      → ((p q : ℕ → ℕ) (w x : Watch) (t : T) (call : Call) (s : Seen) → look (w.steps + 1) ≡ some (step call s)
      → Moved look p w q x → Places look p w → Q p w t → Q q x (next t call s))
      → (p : ℕ → ℕ) (w : Watch) (t : T) → Places look p w → Q p w t → (calls : List Call) (seen : List Seen)
      → Ahead look w.steps calls seen → RunMoves p calls seen
      → Left look (λ q x. Q q x (beside next t calls seen)) (watch_from w calls seen)
  unfolding watch_from beside
  run_beside next Q keep p w t h x [] seen a m = record { phases = p; places = h; kept = x }
  run_beside next Q keep p w t h x (call ∷ calls) [] a m = absurd m
  run_beside next Q keep p w t h x (call ∷ calls) (s ∷ seen) a m =
      let here = ahead_here look w.steps call calls s seen a in
      let moved = (stepped look p w h s call here m.0).moved in
      let y = watch_step w call s in
      run_beside next Q keep s.phases y (next t call s) (places_after moved h)
      (keep p s.phases w y t call s here moved h x) calls seen
      (ahead_next look w.steps call calls s seen y.steps (moved_steps moved) a) m.1

  pub run_left : (Q : (ℕ → ℕ) → Watch → Type 0)
      → ((p q : ℕ → ℕ) (w x : Watch) → Moved look p w q x → Places look p w → Q p w → Q q x)
      → (p : ℕ → ℕ) (w : Watch) → Places look p w → Q p w → (calls : List Call) (seen : List Seen)
      → Ahead look w.steps calls seen → RunMoves p calls seen → Left look Q (watch_from w calls seen)
  run_left Q keep p w h x calls seen a m =
      run_beside {T = Unit {0}} (λ t call s. t) (λ q y t. Q q y) (λ p q w x t call s here. keep p q w x) p w tt h x calls seen a m

  found-known : {low : ℕ} {P : Op → Type 0} {i phase : ℕ} {o : Op} {ops : List Op} → Found low P i phase o ops
      → P o ⊎ Some (λ x. (x.given.member ≡ i) × P x) ops
  found-known (runs l h y) = inl y
  found-known (decided s) = inr s

  -- from phase 4 on only one with its verdict
  found-decided : {P : Op → Type 0} {i phase : ℕ} {o : Op} {ops : List Op} → Found 4 P i phase o ops
      → Some (λ x. (x.given.member ≡ i) × P x) ops
  found-decided (runs l h y) = absurd (omega arith)
  found-decided (decided s) = s

  placed-known : (p : ℕ → ℕ) (w : Watch) (k : ℕ) (call : Call) (s : Seen) → PlacedIn p w k call s → Placed w k call s
  placed-known p w k (begin i r t v) s f = found-known f
  placed-known p w k (deliver i) s f = (
    (λ e. found-known (f.0 e)),
    f.1,
    (λ e. found-decided (f.2 e)),
    (λ e. found-decided (f.3 e)),
  )
  placed-known p w k (crash i) s f = tt

  all_placed : (p : ℕ → ℕ) (w : Watch) → Places look p w → (at : ℕ) → at ≡ w.steps + 1 → (calls : List Call) (seen : List Seen)
      → Ahead look w.steps calls seen → RunMoves p calls seen → AllPlaced (watch_from w calls seen) at calls seen
  unfolding watch_from
  all_placed p w h at e [] seen a m = tt
  all_placed p w h at e (call ∷ calls) [] a m = absurd m
  all_placed p w h at e (call ∷ calls) (s ∷ seen) a m =
      let here = stepped look p w h s call (ahead_here look w.steps call calls s seen a) m.0 in
      let x = watch_step w call s in
      let n : x.steps ≡ w.steps + 1 = moved_steps here.moved in
      let h' = places_after here.moved h in
      let a' = ahead_next look w.steps call calls s seen x.steps n a in (
        (λ z. let l = run_left (λ q y. PlacedIn q y at call s) (λ q r y z next g f. placed_after at (omega arith) call s next g f)
            s.phases x h' (rw e (here.placed z)) calls seen a' m.1 in
            placed-known l.phases (watch_from x calls seen) at call s l.kept),
        all_placed s.phases x h' (at + 1) (omega arith) calls seen a' m.1,
      )

-- at first nothing has happened
pub places_nothing : (look : ℕ → Option Step) → Places look (λ i. 0) nothing_yet
unfolding nothing_yet no_op begun_count
places_nothing look = record {
  running = λ i. record {
    placed = record {
      member = λ h. absurd (omega arith);
      began = λ h. absurd (omega arith);
      submitted = λ h. absurd (omega arith);
      in_order = λ h. absurd (omega arith);
      ordinal = refl;
      undecided = (refl, refl, refl, refl);
    };
    has_begun = λ l. absurd (omega arith);
    has_submitted = λ l. absurd (omega arith);
    newest = refl;
    began = omega arith;
    submitted = omega arith;
  };
  decided = tt;
  waiting = λ i l. absurd (omega arith);
}

turns_nothing : Turns (λ i. 0) nothing_yet
unfolding nothing_yet
turns_nothing = record { in_turn = tt; running = λ i l n. tt; resting = λ i e. tt }

pub positions_of : (calls : List Call) (seen : List Seen) → RunMoves (λ i. 0) calls seen → Positions calls seen (watched calls seen)
unfolding watched nothing_yet
positions_of calls seen m =
    let look = step_at calls seen in
    let ahead : Ahead look 0 calls seen = λ k z. ap look (omega arith) in
    let first = places_nothing look in
    let l = run_left look (λ p w. Every (Taken p w) w.submits) (λ p q w x. submits_after)
    (λ i. 0) nothing_yet first tt calls seen ahead m in
    let turns = run_left look Turns (λ p q w x. turns_after) (λ i. 0) nothing_yet first turns_nothing calls seen ahead m in
    let w = watch_from nothing_yet calls seen in
    record {
      running = λ i. (l.places.running i).placed;
      decided = every (λ o h. h.0) w.decided l.places.decided;
      in_turn = turns.kept.in_turn;
      submits = every (λ s t. found-known look t) w.submits l.kept;
      complete = all_placed look (λ i. 0) nothing_yet first 1 refl calls seen ahead m;
    }
