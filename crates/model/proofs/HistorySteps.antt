-- Every step of the reference, and of its watcher, keeps what the two agree on: step by step (`agree-taken`), part by part
-- (HistoryParts.antt).
use Prim.Native.Nat.{ℕ, ◌+◌, ◌≤◌}
use mathlib.Core.Path.{◌≡◌, refl, sym, ap, ◌∙◌}
use mathlib.Core.Bool.{Bool, true, false, cond, not}
use mathlib.Core.List.{List, ◌∷◌}
use mathlib.Core.Option.{some}
use native.Mathlib.Omega.{arith}
use borrow.Author.Tests.{eq-eqb}
use Rattle.lists.specs.Functions.{put}
use Rattle.lists.proofs.Functions.{put_all, put_both, apart, put_at, split}
use Rattle.model.specs.Records.{Value, read}
use Rattle.model.specs.Runs.{Call, Seen}
use Rattle.model.specs.Reference.{Operation, RefMember, Reference, ref_begun, ref_moved, ref_overtaken, submitted_on, ref_submit}
use Rattle.model.specs.Reference.{ref_reply, ref_accepted, operation_of, ref_accept, ref_abort, ref_ended, ref_end, ref_returned}
use Rattle.model.specs.Reference.{ref_marked, ref_done_returns}
use Rattle.model.specs.History.{Op, Submit, Watch, begun_op, submitted_op, submit_of, decided_op, ended, watch_deliver, watch_call}
use Rattle.model.proofs.Steps.{RefTaken, begins, submits, replies, aborts, accepts, ends, crashes}
use Rattle.model.proofs.HistoryInvariant.{RunningAt, Right, PendingAt, Past, Book, Agrees}
use Rattle.model.proofs.HistoryParts.{running_later, running_moved, past_later, past_submit, past_decided, past_ended}
use Rattle.model.proofs.HistoryParts.{book_aborted, book_accepted, book_ended, bystander}
use Rattle.model.proofs.HistoryLists.{contested_none, pending_ended}

-- a call that was refused
pub refused_step : (ref : Reference) (w : Watch) → Agrees ref w
    → Agrees ref (record { steps = w.steps + 1; running = w.running; submits = w.submits; decided = w.decided })
refused_step ref w h = record {
  running = λ k. running_later (h.running k);
  pending = h.pending;
  past = past_later h.past;
  book = h.book;
}

-- Crash of and begin by member i.

module _ (ref : Reference) (w : Watch) (h : Agrees ref w) (i : ℕ) where
  -- a call that touches what the reference has of i, and not the operation that i runs
  moved : (m : RefMember) (values : ℕ → Value) (history : List Operation) (ops : List Op)
      → RunningAt w.submits (w.steps + 1) i m (w.running i)
      → PendingAt ops i m
      → ((k : ℕ) → (k ≡ i → ⊥) → PendingAt ops k (ref.members k))
      → Past (w.steps + 1) w.submits ops
      → Book values history ops
      → Agrees
      (record { values = values; members = put ref.members i m; history = history })
      (record { steps = w.steps + 1; running = w.running; submits = w.submits; decided = ops })
  moved m values history ops r p o past book = record {
    running = put_all (λ k x. RunningAt w.submits (w.steps + 1) k x (w.running k)) ref.members i m r
        (λ k d. running_later (h.running k));
    pending = put_all (PendingAt ops) ref.members i m p o;
    past = past;
    book = book;
  }

  crash-step : Agrees
      (record { values = ref.values; members = put ref.members i (ref_marked (ref.members i)); history = ref.history })
      (record { steps = w.steps + 1; running = w.running; submits = w.submits; decided = w.decided })
  unfolding ref_marked operation_of ref_returned
  crash-step = moved (ref_marked (ref.members i)) ref.values ref.history w.decided
      (running_later (h.running i)) (h.pending i) (λ k d. h.pending k) (past_later h.past) h.book

  begin-step : (r t : ℕ) (v : Value) → Agrees
      (record { values = ref.values; members = put ref.members i (ref_begun (ref.members i) r t v); history = ref.history })
      (record {
        steps = w.steps + 1;
        running = put w.running i (begun_op (w.steps + 1) i r t v (w.running i));
        submits = w.submits;
        decided = w.decided;
      })
  unfolding ref_begun begun_op operation_of
  begin-step r t v = record {
    running = put_both (RunningAt w.submits (w.steps + 1)) ref.members w.running i
        (ref_begun (ref.members i) r t v) (begun_op (w.steps + 1) i r t v (w.running i))
        (record {
          no_halt = omega arith;
          as_given = λ p. refl;
          began = omega arith;
          submitted = omega arith;
          fresh = λ p. refl;
          contest = λ p. absurd (omega arith);
        })
        (λ k d. running_later (h.running k));
    pending = put_all (PendingAt w.decided) ref.members i (ref_begun (ref.members i) r t v)
        (λ p. absurd (omega arith))
        (λ k d. h.pending k);
    past = past_later h.past;
    book = h.book;
  }

phase_at_lem : (f : ℕ → RefMember) (i : ℕ) (m : RefMember) → (put f i m i).phase ≡ m.phase
phase_at_lem f i m = ap (λ x. x.phase) (put_at f i m)

pub watch_verdict : (w : Watch) (at i : ℕ) (s : Seen) (a : Bool) → s.phases i ≡ cond a 4 5
    → watch_deliver w at i s ≡ record {
      steps = at;
      running = w.running;
      submits = w.submits;
      decided = decided_op at a (w.running i) ∷ w.decided;
    }
unfolding watch_deliver
watch_verdict w at i s true e = rw e
watch_verdict w at i s false e = rw e

-- Delivers to or from member i. The watcher, who sees i's phase after it, tells which it was.

module _ (ref : Reference) (w : Watch) (h : Agrees ref w) (i : ℕ) (s : Seen) where
  abbrev Kept : Reference → Type 0
  Kept x = s.phases i ≡ (x.members i).phase → Agrees x (watch_deliver w (w.steps + 1) i s)

  -- its submit is taken
  submit-step : (ref.members i).phase ≡ 1 → Kept (ref_submit ref i)
  unfolding ref_submit watch_deliver ref_moved ref_overtaken submitted_op submit_of decided_op operation_of ref_returned
  submit-step one seen =
      let m = ref.members i in
      let o = w.running i in
      let g : o.given ≡ operation_of i m = (h.running i).as_given (omega arith) in
      let submits : List Submit = submit_of (w.steps + 1) i o ∷ w.submits in
      let past : Past (w.steps + 1) submits w.decided = past_submit h.past (submit_of (w.steps + 1) i o) refl in
      let others : ℕ → RefMember =
      λ k. cond (submitted_on m.slot (ref.members k)) (ref_overtaken (ref.members k)) (ref.members k) in
      rw (seen ∙ phase_at_lem _ i _) (record {
        running = put_both (RunningAt submits (w.steps + 1)) others w.running i (ref_moved m 2) (submitted_op (w.steps + 1) o)
            (record {
              no_halt = omega arith;
              as_given = λ p. g;
              began = omega (arith, (h.running i).began);
              submitted = omega arith;
              fresh = λ p. absurd (omega arith);
              contest = λ p q at a l. (h.running i).fresh one
                  ∙ sym (contested_none (decided_op at a (submitted_op (w.steps + 1) o)) submits past.taken);
            })
            (λ k d. bystander k (ref.members k) (w.running k) w.submits w.steps (h.running k)
            (submit_of (w.steps + 1) i o) refl m.slot (ap (λ x. x.slot) g));
        pending = put_all (PendingAt w.decided) others i (ref_moved m 2)
            (λ p. absurd (omega arith))
            (λ k d. split (PendingAt w.decided k) (submitted_on m.slot (ref.members k))
            (λ e. h.pending k)
            (λ e. h.pending k));
        past = past;
        book = h.book;
      })

  -- the reply is taken
  reply-step : (ref.members i).phase ≡ 2 → Kept (ref_reply ref i)
  unfolding ref_reply watch_deliver ref_moved operation_of
  reply-step two seen =
      rw (seen ∙ phase_at_lem _ i _)
      (moved ref w h i (ref_moved (ref.members i) 3) ref.values ref.history w.decided
      (running_moved (h.running i) 3 (omega arith) (omega arith) (omega arith) (omega arith))
      (λ p. absurd (omega arith)) (λ k d. h.pending k) (past_later h.past) h.book)

  -- its commit is taken: m is what the reference then has of i
  verdict-step : (a : Bool) (m : RefMember) (values : ℕ → Value) (history : List Operation)
      → (ref.members i).phase ≡ 3
      → s.phases i ≡ cond a 4 5
      → a ≡ not (ref.members i).overtaken
      → RunningAt w.submits (w.steps + 1) i m (w.running i)
      → Right (ref_returned m) (decided_op (w.steps + 1) a (w.running i)) w.decided
      → Book values history (decided_op (w.steps + 1) a (w.running i) ∷ w.decided)
      → Agrees (record { values = values; members = put ref.members i m; history = history }) (watch_deliver w (w.steps + 1) i s)
  unfolding decided_op operation_of
  verdict-step a m values history three seen won r right book =
      let o = w.running i in
      let g : o.given.member ≡ i = ap (λ x. x.member) ((h.running i).as_given (omega arith)) in
      rw (watch_verdict w (w.steps + 1) i s a seen)
      (moved ref w h i m values history (decided_op (w.steps + 1) a o ∷ w.decided) r
      (λ p. ((λ e. right), (λ e. absurd (e g))))
      (λ k d p. ((λ e. absurd (d (sym e ∙ g))), (λ e. h.pending k p)))
      (past_decided h.past o a (h.running i).began
      (won ∙ ap not ((h.running i).contest (omega arith) (omega arith) (w.steps + 1) a (omega arith))))
      book)

  -- aborted
  abort-step : (ref.members i).phase ≡ 3 → (ref.members i).overtaken ≡ true → Kept (ref_abort ref i)
  unfolding ref_abort ref_moved ref_returned operation_of decided_op
  abort-step three over seen = verdict-step false (ref_moved (ref.members i) 5) ref.values ref.history
      three (seen ∙ phase_at_lem _ i _) (rw over)
      (running_moved (h.running i) 5 (omega arith) (omega arith) (omega arith) (omega arith))
      (λ b. absurd (apart b refl))
      (book_aborted h.book (w.steps + 1) (w.running i))

  -- accepted
  accept-step : (ref.members i).phase ≡ 3 → (ref.members i).overtaken ≡ false → Kept (ref_accept ref i)
  unfolding ref_accept ref_accepted ref_returned operation_of decided_op
  accept-step three over seen =
      let m = ref.members i in
      let g : (w.running i).given ≡ operation_of i m = (h.running i).as_given (omega arith) in
      verdict-step true (ref_accepted m (ref.values m.slot)) (ref_accept ref i).values (ref_accept ref i).history
      three (seen ∙ phase_at_lem _ i _) (rw over)
      (running_moved (h.running i) 4 (omega arith) (omega arith) (omega arith) (omega arith))
      (rw g (λ b t. rw (eq-eqb m.operation read t) (ap some (h.book.written m.slot))))
      (book_accepted h.book (w.steps + 1) (w.running i) (operation_of i m) g)

  -- the outcome is taken
  end_step : 4 ≤ (ref.members i).phase → s.returned ≡ ref_returned (ref.members i) → Kept (ref_end ref i)
  unfolding ref_end watch_deliver ref_ended
  end_step four back seen =
      rw (seen ∙ phase_at_lem _ i _)
      (moved ref w h i (ref_ended (ref.members i)) ref.values ref.history (ended i (w.steps + 1) s.returned w.decided)
      (record {
        no_halt = omega arith;
        as_given = λ p. absurd (omega arith);
        began = omega (arith, (h.running i).began);
        submitted = omega (arith, (h.running i).submitted);
        fresh = λ p. absurd (omega arith);
        contest = λ p. absurd (omega arith);
      })
      (λ p. absurd (omega arith))
      (λ k d p. pending_ended i (w.steps + 1) s.returned k (ref_returned (ref.members k)) w.decided (h.pending k p))
      (past_ended h.past i s.returned (rw back (h.pending i four)))
      (book_ended h.book i (w.steps + 1) s.returned))

-- Every step.
pub agree_taken : {ref next : Reference} {call : Call} → RefTaken ref call next → (w : Watch) → Agrees ref w → (s : Seen)
    → ((k : ℕ) → s.phases k ≡ (next.members k).phase) → s.returned ≡ ref_done_returns ref call
    → Agrees next (watch_call w (w.steps + 1) call s)
unfolding watch_call ref_done_returns
agree_taken {ref} (begins i r t v e) w h s p b = begin-step ref w h i r t v
agree_taken {ref} (submits i e) w h s p b = submit-step ref w h i s e (p i)
agree_taken {ref} (replies i e) w h s p b = reply-step ref w h i s e (p i)
agree_taken {ref} (aborts i e o) w h s p b = abort-step ref w h i s e o (p i)
agree_taken {ref} (accepts i e o) w h s p b = accept-step ref w h i s e o (p i)
agree_taken {ref} (ends i l) w h s p b = end_step ref w h i s l b (p i)
agree_taken {ref} (crashes i) w h s p b = crash-step ref w h i
