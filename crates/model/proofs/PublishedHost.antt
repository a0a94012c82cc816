-- The host of a board is Algorithm 5's server with the third amendment at 5.12, on every run from the opening: it is the host half
-- (HostHalf.antt), and what a run's members send is fit and each commit follows its own submit once.
use Prim.Native.Nat.{ℕ, ◌≤◌}
use mathlib.Core.Path.{◌≡◌, refl, sym, ap, ap₂, ◌∙◌}
use mathlib.Core.Bool.{or-false, and-true, Bool, true, false, not, ◌&&◌, ◌||◌}
use mathlib.Core.List.{List, [], ◌∷◌, ◌++◌}
use native.Mathlib.Omega.{arith}
use lib.Dec.{eqb}
use borrow.Author.Tests.{eqb-true, ne_eqb}
use Rattle.lists.proofs.Functions.{on, both, put_at, put_all}
use Rattle.model.specs.Records.{Value, read, write}
use Rattle.model.specs.Kinds.{Kind}
use Rattle.model.specs.Member.{Member, idle, begun, answered, replied, passed, failed, halt_number, judged, outcome, completed}
use Rattle.model.specs.Member.{took_over, dropped, crashed_of}
use Rattle.model.specs.Host.{wins}
use Rattle.model.specs.Board.{Board, opened, with_member, board_begun, board_crashed, submit_taken, reply_taken, sent_record}
use Rattle.model.specs.Board.{commit_taken, outcome_taken}
use Rattle.model.specs.Runs.{Call, answer_of, done, after}
use Rattle.model.specs.Published.{Id, id_of, same_id, with_type, ToServer, submit, commit, FromServer, submit_r, commit_r}
use Rattle.model.specs.PublishedClaims.{submit_of, sent_by, got_by, messages_of, answers_of, HostAsPublished}
use Rattle.model.specs.HostClaims.{Half, half_opened, half_after, half_answer, half_answers, fits, id_in, all_fit, waits_already}
use Rattle.model.specs.HostClaims.{each_once, none_waiting, RunSends}
use Rattle.model.proofs.Answers.{BeginTaken}
use Rattle.model.proofs.Steps.{Taken, begins, submits, replies, commits, ends, crashes, taken}
use Rattle.model.proofs.Ids.{same_self, not_same, none_both}
use Rattle.model.proofs.HostHalf.{half_as_published}

-- What member k has sent and not yet committed: between submit and commit its operation, and else nothing. A halted one sends no more.
record Sends (n k : ℕ) (m : Member) (waiting : Id → Bool) : Type 0 where
  fit : (m.phase ≡ 0 → ⊥) → fits n (submit_of k m) ≡ true
  waits : (m.phase ≡ 6 → ⊥) → (a : Id) → a.client ≡ k
      → waiting a ≡ ((eqb m.phase 2 || eqb m.phase 3) && same_id a (submit_of k m))

abbrev AllSend : ℕ → Board → (Id → Bool) → Type 0
AllSend n b waiting = (k : ℕ) → Sends n k (b.members k) waiting

-- Messages of a run from board b on, and the answers that its members get: the half gives the same.
abbrev half_of : Board → Half
half_of b = record { host = b.host; stored = b.stored }

record Talk (n : ℕ) (b : Board) (waiting : Id → Bool) (messages : List ToServer) (answers : List FromServer) : Type 0 where
  fit : all_fit n messages ≡ true
  once : each_once waiting messages ≡ true
  same : half_answers (half_of b) messages ≡ answers

-- A step to the board `next`, with what it sends the host and the answer that the member gets; and what is said after it.
record Step (n : ℕ) (b : Board) (waiting : Id → Bool) (next : Board) (sent : List ToServer) (got : List FromServer) :
    Type 0 where
  left : Id → Bool
  sends : AllSend n next left
  talk : (messages : List ToServer) (answers : List FromServer) → Talk n next left messages answers
      → Talk n b waiting (sent ++ messages) (got ++ answers)

module _ (n : ℕ) (b : Board) (waiting : Id → Bool) (h : AllSend n b waiting) (i : ℕ) where
  -- one member's state replaced, and nothing sent
  one-member : (m : Member) → Sends n i m waiting → Step n b waiting (with_member b i m) [] []
  unfolding with_member
  one-member m g = record {
    left = waiting;
    sends = put_all (λ k m. Sends n k m waiting) b.members i m g (λ k d. h k);
    talk = λ messages answers w. record { fit = w.fit; once = w.once; same = w.same };
  }

  begin-step : {kind : Kind} (r t : ℕ) (v : Value) → let m = b.members i in
      BeginTaken kind n m.phase m.crashed (m.own r) i r t → Step n b waiting (board_begun b i r t v) [] []
  unfolding board_begun begun submit_of fits
  begin-step r t v c =
      one-member (begun (b.members i) r t v) (record {
        fit = λ d. rw (c.member, c.slot, c.operation, c.allowed);
        waits = λ d a at. rw c.is_idle at ((h i).waits (λ z. omega arith) a at);
      })

  crash-step : Step n b waiting (board_crashed b i) [] []
  unfolding board_crashed crashed_of submit_of
  crash-step = one-member (crashed_of (b.members i)) (record { fit = (h i).fit; waits = (h i).waits })

  -- phase 1, the submit
  submit-step : (b.members i).phase ≡ 1
      → let m = (submit_taken b i).members i in
      Step n b waiting (submit_taken b i) (submit (submit_of i (b.members i)) ∷ []) (submit_r m.second m.first ∷ [])
  unfolding submit_taken answered submit_of with_type id_in all_fit waits_already each_once half_answers half_answer half_after
  submit-step p =
      let m = b.members i in
      let id = submit_of i m in
      let sent = answered m (b.host m.slot).newest (b.stored m.slot) in
      let fit = (h i).fit (λ z. omega arith) in
      let none : (a : Id) → a.client ≡ i → waiting a ≡ false = λ a at. rw p at ((h i).waits (λ z. omega arith) a at) in
      record {
        left = λ other. waiting other || same_id other id;
        sends = put_all (λ k m. Sends n k m (λ other. waiting other || same_id other id)) b.members i sent
            (record { fit = λ d. fit; waits = λ d a at. rw (none a at) })
            (λ k d. record {
              fit = (h k).fit;
              waits = λ e a at. rw (not_same a id (λ z. d (sym at ∙ ap (λ x. x.client) z)), or-false (waiting a)) ((h k).waits e a at);
            });
        talk = λ messages answers w. record {
          fit = both fit w.fit;
          once = both {a = not (waits_already waiting id)} (rw (none (with_type read id) refl, none (with_type write id) refl)) w.once;
          same = ap₂ ◌∷◌ (rw (put_at b.members i sent)) w.same;
        };
      }

  -- phase 2, the reply: the member goes on or halts, and sends the host nothing
  reply-step : (b.members i).phase ≡ 2 → Step n b waiting (reply_taken n b i) [] []
  unfolding reply_taken replied passed failed submit_of
  reply-step p =
      let m = b.members i in
      let fit = (h i).fit (λ z. omega arith) in
      one-member (replied n i m m.first m.second 3)
      (on (eqb (halt_number n i m m.first m.second 3) 0)
      (λ q. rw q (record { fit = λ d. fit; waits = λ d a at. rw p at ((h i).waits (λ z. omega arith) a at) }))
      (λ q. rw q (record { fit = λ d. fit; waits = λ d. absurd (d refl) })))

  -- phase 3, the commit
  commit-step : (b.members i).phase ≡ 3
      → let m = (commit_taken b i).members i in
      Step n b waiting (commit_taken b i) (commit (sent_record i (b.members i)) ∷ []) (commit_r (eqb m.phase 4) ∷ [])
  unfolding commit_taken judged sent_record submit_of id_of id_in all_fit each_once half_answers half_answer half_after
  commit-step p =
      let m = b.members i in
      let id = submit_of i m in
      let won = wins (b.host m.slot) (sent_record i m) in
      let fit = (h i).fit (λ z. omega arith) in
      let mine : (a : Id) → a.client ≡ i → waiting a ≡ same_id a id = λ a at. rw p at ((h i).waits (λ z. omega arith) a at) in
      record {
        left = λ other. waiting other && not (same_id other id);
        sends = put_all (λ k m. Sends n k m (λ other. waiting other && not (same_id other id))) b.members i (judged m won)
            (record { fit = λ d. fit; waits = λ d a at. rw (mine a at) (none_both (same_id a id) ∙ on won (λ t. rw t) (λ t. rw t)) })
            (λ k d. record {
              fit = (h k).fit;
              waits = λ e a at. rw (not_same a id (λ z. d (sym at ∙ ap (λ x. x.client) z)), and-true (waiting a)) ((h k).waits e a at);
            });
        talk = λ messages answers w. record {
          fit = both fit w.fit;
          once = both (mine id refl ∙ same_self id) w.once;
          same = ap₂ ◌∷◌ (rw (put_at b.members i (judged m won)) (on won (λ t. rw t) (λ t. rw t))) w.same;
        };
      }

  -- phases 4 and 5, the outcome: the member is at rest
  outcome-step : (won : Bool) → 4 ≤ (b.members i).phase → ((b.members i).phase ≡ 6 → ⊥) → Step n b waiting (outcome_taken b i won) [] []
  unfolding outcome_taken outcome completed took_over dropped
  outcome-step won l e = one-member (outcome m won) (on won
      (λ t. rw t (at_rest (completed m) refl))
      (λ t. rw t (at_rest (dropped m) refl)))
    where
      m : Member
      m = b.members i

      not_at : (k : ℕ) → k ≤ 3 → eqb m.phase k ≡ false
      not_at k small = ne_eqb m.phase k (λ d. omega arith)

      at_rest : (m : Member) → m.phase ≡ 0 → Sends n i m waiting
      at_rest m z = record {
        fit = λ d. absurd (d z);
        waits = λ d a at. rw z (rw (not_at 2 (omega arith), not_at 3 (omega arith)) at ((h i).waits e a at));
      }

-- Every step.
step : {kind : Kind} {n : ℕ} {b next : Board} {call : Call} → Taken kind n b call next → (waiting : Id → Bool) → AllSend n b waiting
    → Step n b waiting next (sent_by b call) (got_by b next call)
unfolding sent_by got_by submit_of sent_record
step {n = n} {b = b} (begins i r t v c) waiting h = begin-step n b waiting h i r t v c
step {n = n} {b = b} (submits i p e) waiting h = rw e (submit-step n b waiting h i e)
step {n = n} {b = b} (replies i p e) waiting h = rw e (reply-step n b waiting h i e)
step {n = n} {b = b} (commits i p e) waiting h = rw e (commit-step n b waiting h i e)
step {n = n} {b = b} (ends i p l six) waiting h =
    let q = (b.members i).phase in
    rw (ne_eqb q 1 (λ d. omega arith), ne_eqb q 3 (λ d. omega arith)) (outcome-step n b waiting h i (eqb q 4) l six)
step {n = n} {b = b} (crashes i p) waiting h = crash-step n b waiting h i

run_talk : (kind : Kind) (n : ℕ) (calls : List Call) (b : Board) (waiting : Id → Bool) → AllSend n b waiting
    → Talk n b waiting (messages_of kind n b calls) (answers_of kind n b calls)
unfolding messages_of answers_of after all_fit each_once half_answers
run_talk kind n [] b waiting h = record { fit = refl; once = refl; same = refl }
run_talk kind n (call ∷ calls) b waiting h = on (eqb (answer_of kind n b call) 0)
    (λ p. let t = step (taken kind n b call (eqb-true (answer_of kind n b call) 0 p)) waiting h in
    rw p (t.talk _ _ (run_talk kind n calls (done n b call) t.left t.sends)))
    (λ p. rw p (run_talk kind n calls b waiting h))

opened_send : (n : ℕ) → AllSend n (opened n) none_waiting
unfolding opened idle none_waiting
opened_send n k = record { fit = λ d. absurd (d refl); waits = λ d a at. refl }

opened_talk : (kind : Kind) (n : ℕ) (calls : List Call)
    → Talk n (opened n) none_waiting (messages_of kind n (opened n) calls) (answers_of kind n (opened n) calls)
opened_talk kind n calls = run_talk kind n calls (opened n) none_waiting (opened_send n)

pub run_sends : (kind : Kind) (n : ℕ) (calls : List Call) → RunSends kind n calls
run_sends kind n calls = let t = opened_talk kind n calls in record { fit = t.fit; once = t.once }

pub host_as_published : (kind : Kind) (n : ℕ) (calls : List Call) → HostAsPublished kind n calls
unfolding half_opened
host_as_published kind n calls =
    let t = opened_talk kind n calls in
    record { answers = (half_as_published n (messages_of kind n (opened n) calls)).printed t.fit t.once ∙ t.same }
