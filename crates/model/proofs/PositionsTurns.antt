-- A member's operations come one after the other: each of the six moves keeps that all its decided operations ended before the one that it
-- runs began.
use Prim.Native.Nat.{ℕ, ◌+◌, ◌≤◌, ◌<◌}
use mathlib.Core.Path.{◌≡◌, sym, ◌∙◌}
use mathlib.Core.Bool.{cond}
use mathlib.Core.List.{List, [], ◌∷◌}
use mathlib.Core.Option.{Option}
use native.Mathlib.Omega.{arith}
use lib.Dec.{eqb}
use borrow.Author.Tests.{eqb-true, eqb-false}
use Rattle.lists.specs.Every.{Every}
use Rattle.lists.proofs.Functions.{put_all, put_both, split}
use Rattle.model.specs.Records.{Value}
use Rattle.model.specs.History.{Op, Watch, begun_op, submitted_op, decided_op, ended_op, ended}
use Rattle.model.specs.Runs.{Step}
use Rattle.model.specs.Positions.{After, InTurn}
use Rattle.model.proofs.HistoryLists.{every, every_ended}
use Rattle.model.proofs.Phases.{verdict_high}
use Rattle.model.proofs.PositionsInvariant.{Moved, stays, begins, submits, replies, judges, ends, Places, next_op}

-- an operation of member i has ended, before a step
abbrev pub Gone : ℕ → ℕ → Op → Type 0
Gone i before o = o.given.member ≡ i → (0 < o.end_at) × (o.end_at < before)

pub record Turns (p : ℕ → ℕ) (w : Watch) : Type 0 where
  pub in_turn : InTurn w.decided
  -- all of member i's have ended, before the one that it runs began, or where it runs none, before the next step
  pub running : (i : ℕ) → 1 ≤ p i → p i ≤ 3 → Every (Gone i (w.running i).begin_at) w.decided
  pub resting : (i : ℕ) → p i ≡ 0 → Every (Gone i (w.steps + 1)) w.decided

module _ {A : Type 0} {P Q R : A → Type 0} where
  both : ((x : A) → P x → Q x → R x) → (l : List A) → Every P l → Every Q l → Every R l
  both f [] p q = tt
  both f (x ∷ l) p q = (f x p.0 q.0, both f l p.1 q.1)

-- One of member i's operations ends at the step after `steps`.
module _ (i steps : ℕ) (v : Option Value) where
  turn-ended : (ops : List Op) → InTurn ops → InTurn (ended i (steps + 1) v ops)
  unfolding ended ended_op
  turn-ended [] h = tt
  turn-ended (o ∷ ops) h = split InTurn (eqb o.given.member i)
      (λ e. h)
      (λ e. (
        every_ended i (steps + 1) v (After o) (After o)
            (λ q m a. (a.0, (λ same. absurd (eqb-false o.given.member i e (sym same ∙ m))))) (λ q a. a) ops h.0,
        turn-ended ops h.1,
      ))

  -- another member's stay as they are
  gone-other : (k before : ℕ) → (k ≡ i → ⊥) → (ops : List Op) → Every (Gone k before) ops
      → Every (Gone k before) (ended i (steps + 1) v ops)
  unfolding ended_op
  gone-other k before d = every_ended i (steps + 1) v (Gone k before) (Gone k before)
      (λ o m g e. absurd (d (sym e ∙ m))) (λ o g. g)

  -- and then all of its own have
  all-gone : (ops : List Op) → InTurn ops → Every (λ o. o.begin_at ≤ steps) ops
      → Every (Gone i (steps + 1 + 1)) (ended i (steps + 1) v ops)
  unfolding ended ended_op
  all-gone [] h b = tt
  all-gone (o ∷ ops) h b = split (Every (Gone i (steps + 1 + 1))) (eqb o.given.member i)
      (λ e. (
        (λ m. (omega arith, omega arith)),
        every (λ q a m. let g = a.1 (m ∙ sym (eqb-true o.given.member i e)) in (g.0, omega (arith, g.1, b.0))) ops h.0,
      ))
      (λ e. ((λ m. absurd (eqb-false o.given.member i e m)), all-gone ops h.1 b.1))

gone_later : (i before : ℕ) (ops : List Op) → Every (Gone i before) ops → Every (Gone i (before + 1)) ops
gone_later i before = every (λ o g m. ((g m).0, omega (arith, (g m).1)))

pub turns_after : {look : ℕ → Option Step} {p q : ℕ → ℕ} {w x : Watch} → Moved look p w q x → Places look p w → Turns p w → Turns q x
unfolding begun_op submitted_op decided_op
turns_after {w = w} (stays q d) h t = record {
  in_turn = t.in_turn;
  running = t.running;
  resting = λ k e. gone_later k (w.steps + 1) w.decided (t.resting k e);
}
turns_after {p = p} {w = w} (begins i r u v z b) h t = record {
  in_turn = t.in_turn;
  running = put_both (λ k ph o. 1 ≤ ph → ph ≤ 3 → Every (Gone k o.begin_at) w.decided) p w.running i 1
      (next_op w i r u v) (λ l n. t.resting i z) (λ k d. t.running k);
  resting = put_all (λ k ph. ph ≡ 0 → Every (Gone k (w.steps + 1 + 1)) w.decided) p i 1
      (λ e. absurd (omega arith)) (λ k d e. gone_later k (w.steps + 1) w.decided (t.resting k e));
}
turns_after {p = p} {w = w} (submits i one d) h t = record {
  in_turn = t.in_turn;
  running = put_both (λ k ph o. 1 ≤ ph → ph ≤ 3 → Every (Gone k o.begin_at) w.decided) p w.running i 2
      (submitted_op (w.steps + 1) (w.running i)) (λ l n. t.running i (omega arith) (omega arith)) (λ k d. t.running k);
  resting = put_all (λ k ph. ph ≡ 0 → Every (Gone k (w.steps + 1 + 1)) w.decided) p i 2
      (λ e. absurd (omega arith)) (λ k d e. gone_later k (w.steps + 1) w.decided (t.resting k e));
}
turns_after {p = p} {w = w} (replies i u two d) h t = record {
  in_turn = t.in_turn;
  running = put_all (λ k ph. 1 ≤ ph → ph ≤ 3 → Every (Gone k (w.running k).begin_at) w.decided) p i 3
      (λ l n. t.running i (omega arith) (omega arith)) (λ k d. t.running k);
  resting = put_all (λ k ph. ph ≡ 0 → Every (Gone k (w.steps + 1 + 1)) w.decided) p i 3
      (λ e. absurd (omega arith)) (λ k d e. gone_later k (w.steps + 1) w.decided (t.resting k e));
}
turns_after {p = p} {w = w} (judges i a three d) h t =
    let o = w.running i in
    let new = decided_op (w.steps + 1) a o in
    let m = (h.running i).placed.member ((h.running i).has_begun (omega arith)) in record {
      in_turn = (
        both (λ q x g. (omega (arith, x.1), (λ e. g (e ∙ m)))) w.decided h.decided (t.running i (omega arith) (omega arith)),
        t.in_turn,
      );
      running = put_all (λ k ph. 1 ≤ ph → ph ≤ 3 → Every (Gone k (w.running k).begin_at) (new ∷ w.decided)) p i (cond a 4 5)
          (λ l n. absurd (omega (arith, verdict_high a))) (λ k d l n. ((λ e. absurd (d (sym e ∙ m))), t.running k l n));
      resting = put_all (λ k ph. ph ≡ 0 → Every (Gone k (w.steps + 1 + 1)) (new ∷ w.decided)) p i (cond a 4 5)
          (λ e. absurd (omega (arith, verdict_high a)))
          (λ k d e. ((λ f. absurd (d (sym f ∙ m))), gone_later k (w.steps + 1) w.decided (t.resting k e)));
    }
turns_after {p = p} {w = w} (ends i v four d) h t =
    let ops = ended i (w.steps + 1) v w.decided in record {
      in_turn = turn-ended i w.steps v w.decided t.in_turn;
      running = put_all (λ k ph. 1 ≤ ph → ph ≤ 3 → Every (Gone k (w.running k).begin_at) ops) p i 0
          (λ l n. absurd (omega arith))
          (λ k d l n. gone-other i w.steps v k (w.running k).begin_at d w.decided (t.running k l n));
      resting = put_all (λ k ph. ph ≡ 0 → Every (Gone k (w.steps + 1 + 1)) ops) p i 0
          (λ e. all-gone i w.steps v w.decided t.in_turn
          (every (λ o x. let b = x.0.in_order in omega (arith, b.1, b.2, x.1)) w.decided h.decided))
          (λ k d e. gone-other i w.steps v k (w.steps + 1 + 1) d w.decided
          (gone_later k (w.steps + 1) w.decided (t.resting k e)));
    }
