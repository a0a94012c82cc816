-- Every run from the opening is seen as the reference says, and every reply in it passes the checks: the opening has the invariant
-- (Invariant.antt), each step keeps it, and what is seen follows from it.
use Prim.Native.Nat.{ℕ}
use native.Mathlib.Nat.{le_refl}
use native.Mathlib.Omega.{arith}
use mathlib.Core.Path.{◌≡◌, refl, sym, ap, ◌∙◌}
use mathlib.Core.Bool.{cond, not}
use mathlib.Core.List.{List, [], ◌∷◌}
use mathlib.Core.Option.{none, some}
use lib.Dec.{eqb}
use borrow.Author.Tests.{eqb-true, eqb-false}
use Rattle.lists.specs.Functions.{within, inside}
use Rattle.lists.proofs.Functions.{on, split-both, apart, put_at}
use Rattle.model.specs.Rows.{zero_row, zero_matrix}
use Rattle.model.specs.Records.{read, zero_value, zero_record, opening}
use Rattle.model.specs.Kinds.{Kind}
use Rattle.model.specs.Member.{idle, dropped, outcome, returned_by}
use Rattle.model.specs.Board.{Board, no_entry, opening_entry, opened, commit_taken, outcome_taken, board_returned}
use Rattle.model.specs.Runs.{Call, begin, deliver, crash, answer_of, done_returns, after, seen_at, run, boards}
use Rattle.model.specs.ReplyChecks.{CheckedAt, Checked}
use Rattle.model.specs.Reference.{Reference, ref_idle, ref_ended, ref_opened, ref_reply, ref_commit, ref_end, ref_returned, ref_answer}
use Rattle.model.specs.Reference.{ref_done, ref_done_returns, ref_after, ref_seen, ref_run}
use Rattle.model.proofs.Steps.{Taken, begins, submits, replies, commits, ends, crashes, taken, by-verdict, ref_phase}
use Rattle.model.proofs.Order.{up, ≼_refl}
use Rattle.model.proofs.Invariant.{SlotInv, Inv}
use Rattle.model.proofs.Phases.{Delivers, step_moves, from_two}
use Rattle.model.proofs.InvariantMember.{at_rest, checks_pass, begin_keeps, reply_keeps, abort_keeps, completed_keeps}
use Rattle.model.proofs.InvariantMember.{dropped_keeps, crash_keeps}
use Rattle.model.proofs.InvariantSubmit.{submit_keeps}
use Rattle.model.proofs.InvariantAccept.{wins_marked, accept_keeps}

-- The opening.

opening_slot : (n k : ℕ) → SlotInv n k (within n no_entry opening_entry k) (within n zero_record opening k) zero_value
unfolding within no_entry opening_entry opening zero_record
opening_slot n k = on (inside n k)
    (λ p. rw p (record { stored_member = λ q. refl; stored_below = λ j. ≼_refl (zero_matrix j); stored_same = refl; stored_value = refl }))
    (λ p. rw p (record {
      stored_member = λ q. absurd (apart q p);
      stored_below = λ j. ≼_refl (zero_matrix j);
      stored_same = refl;
      stored_value = refl;
    }))

opening_matrix : (n k : ℕ) → (within n no_entry opening_entry k).newest.matrix ≡ zero_matrix
unfolding within no_entry opening_entry opening zero_record
opening_matrix n k = on (inside n k) (λ p. rw p) (λ p. rw p)

pub opened_inv : (n : ℕ) → Inv n (opened n) ref_opened
unfolding opened ref_opened idle ref_idle zero_matrix zero_row dropped ref_ended
opened_inv n = record {
  P = λ k a. a ≡ zero_row;
  chain = λ k a c p q. up (rw (p, q) (≼_refl zero_row));
  top = λ k a p. rw (p, opening_matrix n k) (≼_refl zero_row);
  newest = λ k j. ap (λ m. m j) (opening_matrix n k);
  slots = opening_slot n;
  counts = λ k i. ap (λ m. m k i) (opening_matrix n k);
  shows = λ i. refl;
  members = λ i. at_rest (λ k a. a ≡ zero_row) n i idle ref_idle _ _ refl (λ r. refl) (λ r. le_refl 0) (λ j. refl);
}

same_phase : {n : ℕ} {b : Board} {ref : Reference} (inv : Inv n b ref) (i : ℕ) {p : ℕ} → (b.members i).phase ≡ p → (ref.members i).phase ≡ p
same_phase inv i e = sym (inv.members i).phase ∙ e

-- A commit keeps it, by its verdict.
commit_keeps : {n : ℕ} {b : Board} {ref : Reference} (inv : Inv n b ref) (i : ℕ) → (b.members i).phase ≡ 3
    → Inv n (commit_taken b i) (ref_commit ref i)
unfolding ref_commit
commit_keeps {n} {b} {ref} inv i e =
    let m = b.members i in
    let same = sym (wins_marked (b.host m.slot) i m) in
    let over = (inv.members i).mark (omega arith) (omega arith) in
    by-verdict (λ x. Inv n x (ref_commit ref i)) b i
    (λ won. rw (over ∙ ap not (same ∙ won)) (accept_keeps inv i e (same ∙ won)))
    (λ lost. rw (over ∙ ap not (same ∙ lost)) (abort_keeps inv i e))

module _ (kind : Kind) where
  -- The answers are the same, since the members' phases, marks and counts are.

  pub same_answer : {n : ℕ} {b : Board} {ref : Reference} (inv : Inv n b ref) (call : Call)
      → answer_of kind n b call ≡ ref_answer kind n ref call
  unfolding answer_of ref_answer
  same_answer inv (begin i r t v) = let m = inv.members i in rw (m.phase, m.crashed, m.own r)
  same_answer inv (deliver i) = let m = inv.members i in rw (m.phase, m.crashed)
  same_answer inv (crash i) = let m = inv.members i in rw (m.phase, m.crashed)

  -- A call that is answered 0, and any call.

  taken-keeps : {n : ℕ} {b next : Board} {ref : Reference} {call : Call} → Taken kind n b call next → Inv n b ref
      → Inv n next (ref_done ref call)
  unfolding ref_done ref_reply ref_end outcome_taken outcome
  taken-keeps (begins i r t v k) inv = begin_keeps inv i r t v k
  taken-keeps {ref = ref} (submits i p e) inv = rw (ref_phase ref i 1 (same_phase inv i e)) (submit_keeps inv i e)
  taken-keeps {ref = ref} (replies i p e) inv = rw (ref_phase ref i 2 (same_phase inv i e)) (reply_keeps inv i e)
  taken-keeps {ref = ref} (commits i p e) inv = rw (ref_phase ref i 3 (same_phase inv i e)) (commit_keeps inv i e)
  taken-keeps {b = b} {ref = ref} (ends i p l six) inv =
      let m = b.members i in
      let fine = (inv.members i).fine in
      on (eqb m.phase 4)
      (λ f. let e : m.phase ≡ 4 = eqb-true m.phase 4 f in
      rw (f, ref_phase ref i 4 (same_phase inv i e)) (completed_keeps inv i e))
      (λ f. let d : m.phase ≡ 4 → ⊥ = eqb-false m.phase 4 f in let e : m.phase ≡ 5 = omega arith in
      rw (f, ref_phase ref i 5 (same_phase inv i e)) (dropped_keeps inv i e))
  taken-keeps (crashes i p) inv = crash_keeps inv i

  pub step_keeps : {n : ℕ} {b : Board} {ref : Reference} (inv : Inv n b ref) (call : Call)
      → Inv n (after kind n b call) (ref_after kind n ref call)
  unfolding after ref_after
  step_keeps {n} {b} {ref} inv call = rw (← (same_answer inv call)) (split-both (Inv n) (eqb (answer_of kind n b call) 0)
      (λ e. taken-keeps (taken kind n b call (eqb-true (answer_of kind n b call) 0 e)) inv)
      (λ e. inv))

  same-returned : {n : ℕ} {b : Board} {ref : Reference} (inv : Inv n b ref) (call : Call)
      → done_returns b call ≡ ref_done_returns ref call
  unfolding done_returns ref_done_returns board_returned returned_by ref_returned
  same-returned inv (begin i r t v) = refl
  same-returned {b = b} {ref = ref} inv (deliver i) =
      let m = inv.members i in
      rw (← m.phase, ← m.operation) (on (eqb (b.members i).phase 4)
      (λ p. rw p (on (eqb (b.members i).operation read)
      (λ q. rw q (ap some ((m.accepted (eqb-true (b.members i).phase 4 p)).read_noted (eqb-true (b.members i).operation read q))))
      (λ q. rw q)))
      (λ p. rw p))
  same-returned inv (crash i) = refl

  same_seen : {n : ℕ} {b : Board} {ref : Reference} (inv : Inv n b ref) (call : Call)
      → seen_at kind n b call ≡ ref_seen kind n ref call
  unfolding seen_at ref_seen
  same_seen {n} {b} {ref} inv call = λ t. record {
    answer = same_answer inv call t;
    phases = λ k. ((step_keeps inv call).members k).phase t;
    returned = cond (eqb (same_answer inv call t) 0) (same-returned inv call t) none;
  }

  run-as-reference : {n : ℕ} {b : Board} {ref : Reference} → Inv n b ref → (calls : List Call)
      → run kind n b calls ≡ ref_run kind n ref calls
  unfolding run ref_run
  run-as-reference inv [] = refl
  run-as-reference {n} {b} {ref} inv (call ∷ calls) = λ t. same_seen inv call t
      ∷ run-as-reference {n = n} {b = after kind n b call} {ref = ref_after kind n ref call} (step_keeps inv call) calls t

  -- Every reply passes all checks, and a deliver that leads to phase 3 is one.

  checked-at : {n : ℕ} {b : Board} {ref : Reference} (inv : Inv n b ref) (call : Call) → CheckedAt n b call (seen_at kind n b call)
  checked-at inv (begin i r t v) = tt
  checked-at {n} {b} {ref} inv (deliver i) = rw (same_seen inv (deliver i)) (λ zero.
      let d : Delivers (λ k. (ref.members k).phase) i (ref_seen kind n ref (deliver i)) = (step_moves kind n ref (deliver i)).taken zero in
      record {
        checks = checks_pass inv i;
        only = λ three. (inv.members i).phase
            ∙ from_two d.next (sym (ap (λ f. f i) d.phases ∙ put_at (λ k. (ref.members k).phase) i d.to) ∙ three);
      })
  checked-at inv (crash i) = tt

  run-checked : {n : ℕ} {b : Board} {ref : Reference} → Inv n b ref → (calls : List Call)
      → Checked n calls (boards kind n b calls) (run kind n b calls)
  unfolding run boards
  run-checked inv [] = tt
  run-checked {n} {b} {ref} inv (call ∷ calls) =
      (checked-at inv call, run-checked {n = n} {b = after kind n b call} {ref = ref_after kind n ref call} (step_keeps inv call) calls)

-- For every kind of board, every n and every list of calls.
pub as_reference_lem : (kind : Kind) (n : ℕ) (calls : List Call) → run kind n (opened n) calls ≡ ref_run kind n ref_opened calls
as_reference_lem kind n calls = run-as-reference kind (opened_inv n) calls

pub replies_checked : (kind : Kind) (n : ℕ) (calls : List Call)
    → Checked n calls (boards kind n (opened n) calls) (run kind n (opened n) calls)
replies_checked kind n calls = run-checked kind (opened_inv n) calls
