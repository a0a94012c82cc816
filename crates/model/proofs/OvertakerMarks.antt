-- What is known of slots and ordinals after every step: when a submit or a commit of an operation was taken, it was the last that its
-- member had begun. Each of the six moves keeps it.
use Prim.Native.Nat.{ℕ, ◌+◌, ◌≤◌, ◌<◌}
use mathlib.Core.Path.{◌≡◌, refl, sym, ap, subst, ◌∙◌}
use mathlib.Core.Bool.{Bool, false, cond, and-true}
use mathlib.Core.List.{List, [], ◌∷◌}
use mathlib.Core.Option.{Option, none, some}
use native.Mathlib.Numerals.{add-one}
use native.Mathlib.Omega.{arith}
use lib.Dec.{eqb}
use borrow.Author.Tests.{eq-eqb, ne_eqb}
use Rattle.lists.specs.Every.{Every}
use Rattle.lists.proofs.Functions.{put_all, put_both}
use Rattle.model.specs.Runs.{begin, deliver, crash, Step, step}
use Rattle.model.specs.Reference.{Operation}
use Rattle.model.specs.History.{Op, Submit, Watch, no_op, begun_op, submitted_op, submit_of, decided_op, ended_op, nothing_yet}
use Rattle.model.specs.Positions.{IsBegin, began_by, begun_count}
use Rattle.model.specs.OvertakerClaims.{slot_after, slot_begun, TakesSubmit}
use Rattle.model.proofs.HistoryLists.{every, every_ended}
use Rattle.model.proofs.Phases.{verdict_high}
use Rattle.model.proofs.Ordinals.{count_same, deliver_counts}
use Rattle.model.proofs.PositionsInvariant.{Moved, stays, begins, submits, replies, judges, ends, Places, next_op}

-- The slot of a member's last begin: another at a begin by it that was answered 0, the same at any other step.

slot_next : (look : ℕ → Option Step) (j k : ℕ) → slot_begun look j (k + 1) ≡ slot_after j (look (k + 1)) (slot_begun look j k)
unfolding slot_begun
slot_next look j k = rw add-one

slot_kept : (x : Option Step) (j r : ℕ) → began_by j x ≡ false → slot_after j x r ≡ r
unfolding slot_after began_by
slot_kept none j r e = refl
slot_kept (some (step (begin i q t v) s)) j r e = rw e
slot_kept (some (step (deliver i) s)) j r e = refl
slot_kept (some (step (crash i) s)) j r e = refl

slot_same : (look : ℕ → Option Step) (j k : ℕ) → began_by j (look (k + 1)) ≡ false → slot_begun look j (k + 1) ≡ slot_begun look j k
slot_same look j k e = slot_next look j k ∙ slot_kept (look (k + 1)) j (slot_begun look j k) e

slot_begins : (o : Operation) (x : Option Step) → IsBegin o x → (j r : ℕ) → slot_after j x r ≡ cond (eqb o.member j) o.slot r
unfolding slot_after
slot_begins o none b j r = absurd b
slot_begins o (some (step (begin i q t v) s)) b j r =
    rw (b.1, eq-eqb s.answer 0 b.0) (ap (λ c. cond c q r) (and-true (eqb i j)))
slot_begins o (some (step (deliver i) s)) b j r = absurd b
slot_begins o (some (step (crash i) s)) b j r = absurd b

-- What is known of slots and ordinals after every step.

-- member i's operation, whose submit was taken: when that was, it was the last that i had begun
pub record Marked (look : ℕ → Option Step) (i : ℕ) (o : Op) : Type 0 where
  pub ordinal : begun_count look i o.submit_at ≡ o.ordinal
  pub slot : slot_begun look i o.submit_at ≡ o.given.slot

-- and when it was judged, it still was
pub record Judged (look : ℕ → Option Step) (i : ℕ) (o : Op) : Type 0 where
  pub taken : Marked look i o
  pub verdict : begun_count look i o.verdict_at ≡ o.ordinal

-- the newest first
abbrev pub Falling : List Submit → Type 0
Falling [] = Unit {0}
Falling (s ∷ older) = Every (λ u. u.at < s.at) older × Falling older

pub record Marks (look : ℕ → Option Step) (p : ℕ → ℕ) (w : Watch) : Type 0 where
  pub running : (j : ℕ) → slot_begun look j w.steps ≡ (w.running j).given.slot
  pub submitted : (j : ℕ) → 2 ≤ p j → p j ≤ 3 → Marked look j (w.running j)
  pub decided : Every (λ o. Judged look o.given.member o) w.decided
  pub takes : Every (λ s. TakesSubmit look s.at s.member s.slot) w.submits
  pub early : Every (λ s. s.at ≤ w.steps) w.submits
  pub falling : Falling w.submits

early_later : (k : ℕ) (l : List Submit) → Every (λ s. s.at ≤ k) l → Every (λ s. s.at ≤ k + 1) l
early_later k = every (λ s h. omega arith)

-- A step that is no begin.
module _ {look : ℕ → Option Step} {p : ℕ → ℕ} {w : Watch} (quiet : (k : ℕ) → began_by k (look (w.steps + 1)) ≡ false)
    (h : Places look p w) (t : Marks look p w) where
  same-slot : (j : ℕ) → slot_begun look j (w.steps + 1) ≡ (w.running j).given.slot
  same-slot j = slot_same look j w.steps (quiet j) ∙ t.running j

  same_count : (j : ℕ) → begun_count look j (w.steps + 1) ≡ (w.running j).ordinal
  same_count j = count_same look j w.steps (quiet j) ∙ sym (h.running j).newest

  -- the running operation's submit is taken, or it is judged
  marked-now : (i : ℕ) → Marked look i (submitted_op (w.steps + 1) (w.running i))
  unfolding submitted_op
  marked-now i = record { ordinal = same_count i; slot = same-slot i }

  judged-now : (i : ℕ) (a : Bool) → Marked look i (w.running i) → Judged look i (decided_op (w.steps + 1) a (w.running i))
  unfolding decided_op
  judged-now i a m = record { taken = record { ordinal = m.ordinal; slot = m.slot }; verdict = same_count i }

-- Each move keeps it.
pub marks_after : {look : ℕ → Option Step} {p q : ℕ → ℕ} {w x : Watch} → Moved look p w q x → Places look p w → Marks look p w
    → Marks look q x
unfolding begun_op submitted_op submit_of decided_op ended_op
marks_after {w = w} (stays quiet d) h t = record {
  running = same-slot quiet h t;
  submitted = t.submitted;
  decided = t.decided;
  takes = t.takes;
  early = early_later w.steps w.submits t.early;
  falling = t.falling;
}
marks_after {look} {p} {w = w} (begins i r u v z b) h t =
    let o = next_op w i r u v in
    let next : (j : ℕ) → slot_begun look j (w.steps + 1) ≡ cond (eqb i j) r (slot_begun look j w.steps) =
    λ j. slot_next look j w.steps ∙ slot_begins o.given (look (w.steps + 1)) b j (slot_begun look j w.steps) in
    record {
      running = put_all (λ j o. slot_begun look j (w.steps + 1) ≡ o.given.slot) w.running i o
          (next i ∙ ap (λ c. cond c r (slot_begun look i w.steps)) (eq-eqb i i refl))
          (λ j d. next j ∙ ap (λ c. cond c r (slot_begun look j w.steps)) (ne_eqb i j (λ e. d (sym e))) ∙ t.running j);
      submitted = put_both (λ j ph o. 2 ≤ ph → ph ≤ 3 → Marked look j o) p w.running i 1 o
          (λ l n. absurd (omega arith)) (λ j d. t.submitted j);
      decided = t.decided;
      takes = t.takes;
      early = early_later w.steps w.submits t.early;
      falling = t.falling;
    }
marks_after {look} {p} {w = w} (submits i one d) h t =
    let quiet = deliver_counts i 2 none (look (w.steps + 1)) d in
    let o = submitted_op (w.steps + 1) (w.running i) in
    record {
      running = put_all (λ j o. slot_begun look j (w.steps + 1) ≡ o.given.slot) w.running i o
          (same-slot quiet h t i) (λ j d. same-slot quiet h t j);
      submitted = put_both (λ j ph o. 2 ≤ ph → ph ≤ 3 → Marked look j o) p w.running i 2 o
          (λ l n. marked-now quiet h t i) (λ j d. t.submitted j);
      decided = t.decided;
      takes = ((d, same-slot quiet h t i), t.takes);
      early = (omega arith, early_later w.steps w.submits t.early);
      falling = (every (λ s l. omega arith) w.submits t.early, t.falling);
    }
marks_after {look} {p} {w = w} (replies i v two d) h t =
    let quiet = deliver_counts i 3 v (look (w.steps + 1)) d in
    record {
      running = same-slot quiet h t;
      submitted = put_all (λ j ph. 2 ≤ ph → ph ≤ 3 → Marked look j (w.running j)) p i 3
          (λ l n. t.submitted i (omega arith) (omega arith)) (λ j d. t.submitted j);
      decided = t.decided;
      takes = t.takes;
      early = early_later w.steps w.submits t.early;
      falling = t.falling;
    }
marks_after {look} {p} {w = w} (judges i a three d) h t =
    let quiet = deliver_counts i (cond a 4 5) none (look (w.steps + 1)) d in
    let new = decided_op (w.steps + 1) a (w.running i) in
    let whose = (h.running i).placed.member ((h.running i).has_begun (omega arith)) in
    record {
      running = same-slot quiet h t;
      submitted = put_all (λ j ph. 2 ≤ ph → ph ≤ 3 → Marked look j (w.running j)) p i (cond a 4 5)
          (λ l n. absurd (omega (arith, verdict_high a))) (λ j d. t.submitted j);
      decided = (
        subst (λ j. Judged look j new) (sym whose) (judged-now quiet h t i a (t.submitted i (omega arith) (omega arith))),
        t.decided,
      );
      takes = t.takes;
      early = early_later w.steps w.submits t.early;
      falling = t.falling;
    }
marks_after {look} {p} {w = w} (ends i v four d) h t =
    let quiet = deliver_counts i 0 v (look (w.steps + 1)) d in
    let keeps : (o : Op) → o.given.member ≡ i → Judged look o.given.member o
    → Judged look o.given.member (ended_op (w.steps + 1) v o) =
    λ o m j. record { taken = record { ordinal = j.taken.ordinal; slot = j.taken.slot }; verdict = j.verdict } in
    record {
      running = same-slot quiet h t;
      submitted = put_all (λ j ph. 2 ≤ ph → ph ≤ 3 → Marked look j (w.running j)) p i 0
          (λ l n. absurd (omega arith)) (λ j d. t.submitted j);
      decided = every_ended i (w.steps + 1) v (λ o. Judged look o.given.member o) (λ o. Judged look o.given.member o)
          keeps (λ o j. j) w.decided t.decided;
      takes = t.takes;
      early = early_later w.steps w.submits t.early;
      falling = t.falling;
    }

pub marks_nothing : (look : ℕ → Option Step) → Marks look (λ i. 0) nothing_yet
unfolding nothing_yet no_op slot_begun
marks_nothing look =
    record { running = λ j. refl; submitted = λ j l n. absurd (omega arith); decided = tt; takes = tt; early = tt; falling = tt }
