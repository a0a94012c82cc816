-- Each part of what the reference and its watcher agree on, a step later: the running operations, the past ones, the book.
use Prim.Native.Nat.{ℕ, ◌+◌, ◌≤◌}
use mathlib.Core.Path.{◌≡◌, sym, ap, ◌∙◌}
use mathlib.Core.Bool.{Bool, true, false, cond, not, ◌||◌}
use mathlib.Core.List.{List, ◌∷◌}
use mathlib.Core.Option.{Option}
use native.Mathlib.Omega.{arith}
use lib.Dec.{eqb}
use borrow.Author.Tests.{eqb-true, eqb-false, eq-eqb, ne_eqb}
use Rattle.lists.specs.Functions.{put}
use Rattle.lists.proofs.Functions.{on, apart, both, first, second, fails, split}
use Rattle.model.specs.Records.{Value, write}
use Rattle.model.specs.Reference.{Operation, RefMember, ref_overtaken, submitted_on, operation_of}
use Rattle.model.specs.History.{Op, Submit, decided_op, ended_op, ended, accepted_of, last_written, contested}
use Rattle.lists.specs.Every.{Every}
use Rattle.model.proofs.HistoryInvariant.{Running, RunningAt, Pending, Judged, Past, Book}
use Rattle.model.proofs.HistoryLists.{every, contested_within, contested_past, every_ended, contested_ended, last_ended}
use Rattle.model.proofs.HistoryLists.{givens_ended, reads_ended, real_time-ended}

-- A step later.

pub running_later : {phase : ℕ} {v : Bool} {g : Operation} {o : Op} {submits : List Submit} {steps : ℕ}
    → Running phase v g o submits steps → Running phase v g o submits (steps + 1)
running_later h = record {
  no_halt = h.no_halt;
  as_given = h.as_given;
  began = omega arith;
  submitted = omega arith;
  fresh = h.fresh;
  contest = λ p q at a l. h.contest p q at a (omega arith);
}

-- past the submit, on to a phase that is not before
pub running_moved : {phase : ℕ} {v : Bool} {g : Operation} {o : Op} {submits : List Submit} {steps : ℕ}
    → Running phase v g o submits steps → (to : ℕ) → 2 ≤ phase → phase ≤ 3 → 3 ≤ to → to ≤ 5 → Running to v g o submits (steps + 1)
running_moved h to low high least most = record {
  no_halt = most;
  as_given = λ p. h.as_given (omega arith);
  began = omega arith;
  submitted = omega arith;
  fresh = λ p. absurd (omega arith);
  contest = λ p q at a l. h.contest low high at a (omega arith);
}

judged_later : {steps : ℕ} {submits : List Submit} (o : Op) → Judged steps submits o → Judged (steps + 1) submits o
judged_later o h = record { began = omega arith; decided = omega arith; verdict = h.verdict }

module _ {steps : ℕ} {submits : List Submit} {ops : List Op} (h : Past steps submits ops) where
  taken-later : Every (λ s. s.at ≤ steps + 1) submits
  taken-later = every (λ s p. omega arith) submits h.taken

  pub past_later : Past (steps + 1) submits ops
  past_later = record {
    taken = taken-later;
    judged = every judged_later ops h.judged;
    reads = h.reads;
    real_time = h.real_time;
  }

  -- a submit taken at this step is past every verdict so far
  pub past_submit : (s : Submit) → s.at ≡ steps + 1 → Past (steps + 1) (s ∷ submits) ops
  past_submit s now = record {
    taken = (omega arith, taken-later);
    judged = every (λ o j. record {
      began = omega arith;
      decided = omega arith;
      verdict = j.verdict ∙ ap not (sym (contested_past o s submits (omega arith)));
    }) ops h.judged;
    reads = h.reads;
    real_time = h.real_time;
  }

  pub past_decided : (o : Op) (a : Bool) → o.begin_at ≤ steps → a ≡ not (contested (decided_op (steps + 1) a o) submits)
      → Past (steps + 1) submits (decided_op (steps + 1) a o ∷ ops)
  unfolding decided_op
  past_decided o a b verdict = record {
    taken = taken-later;
    judged = (record { began = omega arith; decided = omega arith; verdict = verdict }, every judged_later ops h.judged);
    reads = ((λ z. absurd (omega arith)), h.reads);
    real_time = (every (λ p j y z. omega arith) ops h.judged, h.real_time);
  }

  pub past_ended : (i : ℕ) (v : Option Value) → Pending i v ops → Past (steps + 1) submits (ended i (steps + 1) v ops)
  unfolding ended_op
  past_ended i v p = record {
    taken = taken-later;
    judged = every_ended i (steps + 1) v (Judged steps submits) (Judged (steps + 1) submits)
        (λ o m j. record {
          began = omega (arith, j.began);
          decided = omega (arith, j.decided);
          verdict = j.verdict ∙ ap not (sym (contested_ended i (steps + 1) v o submits));
        })
        judged_later ops h.judged;
    reads = reads_ended i (steps + 1) v ops p h.reads;
    real_time = real_time-ended i (steps + 1) v ops (every (λ o j. omega arith) ops h.judged) h.real_time;
  }

-- The book: an aborted operation leaves it as it is, an accepted one joins it, one that ends was in it or not.

module _ {values : ℕ → Value} {history : List Operation} {ops : List Op} (h : Book values history ops) where
  pub book_aborted : (at : ℕ) (o : Op) → Book values history (decided_op at false o ∷ ops)
  unfolding decided_op accepted_of
  book_aborted at o = record { written = h.written; accepted = h.accepted }

  pub book_accepted : (at : ℕ) (o : Op) (g : Operation) → o.given ≡ g → Book
      (cond (eqb g.operation write) (put values g.slot g.value) values)
      (g ∷ history)
      (decided_op at true o ∷ ops)
  unfolding decided_op accepted_of last_written put
  book_accepted at o g same = rw (← same) (record {
    written = λ r. let slot = o.given.slot in on (eqb o.given.operation write)
        (λ t. on (eqb r slot)
        (λ e. rw (t, e, eq-eqb slot r (sym (eqb-true r slot e))))
        (λ e. rw (t, e, ne_eqb slot r (λ d. eqb-false r slot e (sym d))) (h.written r)))
        (λ t. rw (fails (eqb slot r) t, t) (h.written r));
    accepted = ap (λ t. o.given ∷ t) h.accepted;
  })

  pub book_ended : (i at : ℕ) (v : Option Value) → Book values history (ended i at v ops)
  book_ended i at v = record {
    written = λ r. h.written r ∙ sym (last_ended i at v r ops);
    accepted = givens_ended i at v ops ∙ h.accepted;
  }

-- A submit at this step is a contest for another operation that is between its submit and its verdict on the same slot.

between : (p : ℕ) → 2 ≤ p → p ≤ 3 → (eqb p 2 || eqb p 3) ≡ true
between p g h = on (eqb p 2) (λ e. rw e) (λ e. let d : p ≡ 2 → ⊥ = eqb-false p 2 e in rw (e, eq-eqb p 3 (omega arith)))

running_beside : {phase : ℕ} {v : Bool} {g : Operation} {o : Op} {submits : List Submit} {steps : ℕ}
    → Running phase v g o submits steps → (s : Submit) → s.at ≡ steps + 1 → (u : Bool) → (phase ≡ 1 → u ≡ false)
    → (2 ≤ phase → phase ≤ 3 → u ≡ (eqb s.slot g.slot || v))
    → Running phase u g o (s ∷ submits) (steps + 1)
unfolding decided_op
running_beside {o} {submits} {steps} h s now u fresh taken = record {
  no_halt = h.no_halt;
  as_given = h.as_given;
  began = omega arith;
  submitted = omega arith;
  fresh = fresh;
  contest = λ p q at a l. taken p q ∙ rw (← h.as_given (omega arith), h.contest p q at a (omega arith))
      (sym (contested_within (decided_op at a o) s submits (omega arith) (omega arith)));
}

pub bystander : (i : ℕ) (m : RefMember) (o : Op) (submits : List Submit) (steps : ℕ) → RunningAt submits steps i m o
    → (s : Submit) → s.at ≡ steps + 1 → (r : ℕ) → s.slot ≡ r
    → RunningAt (s ∷ submits) (steps + 1) i (cond (submitted_on r m) (ref_overtaken m) m) o
unfolding submitted_on ref_overtaken operation_of
bystander i m o submits steps h s now r same =
    let on-slot = eqb m.slot r in
    let waits = eqb m.phase 2 || eqb m.phase 3 in
    split (λ x. RunningAt (s ∷ submits) (steps + 1) i x o) (submitted_on r m)
    (λ e. running_beside h s now true
    (λ d. absurd (apart (second on-slot waits e) (rw d)))
    (λ c d. rw (eq-eqb s.slot m.slot (same ∙ sym (eqb-true m.slot r (first on-slot waits e))))))
    (λ e. running_beside h s now m.overtaken
    h.fresh
    (λ c d. rw (ne_eqb s.slot m.slot (λ f. apart (both (eq-eqb m.slot r (sym f ∙ same)) (between m.phase c d)) e))))
