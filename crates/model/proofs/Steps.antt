-- Which step a call answered 0 is: the one split by call and by phase, for a board (`taken`) and for the reference (`ref_taken`). What is
-- said of every step is said by cases of these.
use Prim.Native.Nat.{ℕ, ◌≤◌}
use mathlib.Core.Path.{◌≡◌}
use mathlib.Core.Bool.{true, false, cond}
use native.Mathlib.Omega.{arith}
use lib.Dec.{eqb}
use borrow.Author.Tests.{eqb-true, eqb-false}
use Rattle.lists.specs.Functions.{put, inside}
use Rattle.lists.proofs.Functions.{on, split, put_same}
use Rattle.model.specs.Records.{Value}
use Rattle.model.specs.Kinds.{Kind}
use Rattle.model.specs.Member.{judged}
use Rattle.model.specs.Host.{wins, entry_after, stored_after}
use Rattle.model.specs.Board.{Board, with_member, board_begun, submit_taken, reply_taken, sent_record, commit_taken, outcome_taken}
use Rattle.model.specs.Board.{board_delivered, board_crashed}
use Rattle.model.specs.Runs.{Call, begin, deliver, crash, answer_of, done, after}
use Rattle.model.specs.Reference.{Reference, ref_with, ref_begun, ref_submit, ref_reply, ref_accept, ref_abort, ref_commit, ref_end}
use Rattle.model.specs.Reference.{ref_delivered, ref_marked, ref_answer, ref_done}
use Rattle.model.proofs.Answers.{BeginTaken, begin_taken, deliver_taken, crash_taken}

-- a deliver, by the phase that its member is in
by_phase : {A : Type 0} (Q : A → Type 0) (p : ℕ) {a b c d : A} → (p ≡ 0 → ⊥)
    → (p ≡ 1 → Q a) → (p ≡ 2 → Q b) → (p ≡ 3 → Q c) → (4 ≤ p → Q d)
    → Q (cond (eqb p 1) a (cond (eqb p 2) b (cond (eqb p 3) c d)))
by_phase Q p z one two three more =
    split Q (eqb p 1) (λ e. one (eqb-true p 1 e)) (λ e1.
    split Q (eqb p 2) (λ e. two (eqb-true p 2 e)) (λ e2.
    split Q (eqb p 3) (λ e. three (eqb-true p 3 e)) (λ e3.
    let d1 = eqb-false p 1 e1 in let d2 = eqb-false p 2 e2 in let d3 = eqb-false p 3 e3 in more (omega arith))))

-- The board: the call's step, and what it leaves.

pub data Taken (kind : Kind) (n : ℕ) (b : Board) : Call → Board → Type 0 where
  begins : (i r t : ℕ) (v : Value)
      → BeginTaken kind n (b.members i).phase (b.members i).crashed ((b.members i).own r) i r t
      → Taken kind n b (begin i r t v) (board_begun b i r t v)
  submits : (i : ℕ) → inside n i ≡ true → (b.members i).phase ≡ 1 → Taken kind n b (deliver i) (submit_taken b i)
  replies : (i : ℕ) → inside n i ≡ true → (b.members i).phase ≡ 2 → Taken kind n b (deliver i) (reply_taken n b i)
  commits : (i : ℕ) → inside n i ≡ true → (b.members i).phase ≡ 3 → Taken kind n b (deliver i) (commit_taken b i)
  ends : (i : ℕ) → inside n i ≡ true → 4 ≤ (b.members i).phase → ((b.members i).phase ≡ 6 → ⊥)
      → Taken kind n b (deliver i) (outcome_taken b i (eqb (b.members i).phase 4))
  crashes : (i : ℕ) → inside n i ≡ true → Taken kind n b (crash i) (board_crashed b i)

module _ (kind : Kind) (n : ℕ) (b : Board) where
  pub taken : (call : Call) → answer_of kind n b call ≡ 0 → Taken kind n b call (done n b call)
  unfolding answer_of done board_delivered
  taken (begin i r t v) h =
      let m = b.members i in
      begins i r t v (begin_taken kind n m.phase m.crashed (m.own r) i r t h)
  taken (deliver i) h =
      let m = b.members i in
      let d = deliver_taken n m.phase m.crashed i h in
      by_phase (Taken kind n b (deliver i)) m.phase d.not_idle
      (submits i d.member) (replies i d.member) (commits i d.member) (λ l. ends i d.member l d.not_halted)
  taken (crash i) h = let m = b.members i in crashes i (crash_taken n m.phase m.crashed i h)

  -- what holds of the board, and of what every step leaves, holds after a call
  pub stepped : (Q : Board → Type 0) (call : Call) → Q b → ((next : Board) → Taken kind n b call next → Q next) → Q (after kind n b call)
  unfolding after
  stepped Q call refused step = split Q (eqb (answer_of kind n b call) 0)
      (λ e. step (done n b call) (taken call (eqb-true (answer_of kind n b call) 0 e)))
      (λ e. refused)

-- A deliver, given the phase.
pub board_phase : (n : ℕ) (b : Board) (i p : ℕ) → (b.members i).phase ≡ p
    → board_delivered n b i ≡ cond (eqb p 1) (submit_taken b i) (cond (eqb p 2) (reply_taken n b i)
    (cond (eqb p 3) (commit_taken b i) (outcome_taken b i (eqb p 4))))
unfolding board_delivered
board_phase n b i p e = rw e

-- A commit, by its verdict: an aborted one leaves the host as it was.
aborted_leaves : (b : Board) (i : ℕ) → wins (b.host (b.members i).slot) (sent_record i (b.members i)) ≡ false
    → commit_taken b i ≡ with_member b i (judged (b.members i) false)
unfolding commit_taken entry_after stored_after with_member
aborted_leaves b i lost =
    let r = (b.members i).slot in
    rw lost (λ t. record {
      members = put b.members i (judged (b.members i) false);
      host = put_same b.host r t;
      stored = put_same b.stored r t;
    })

pub by-verdict {ℓ} : (Q : Board → Type ℓ) (b : Board) (i : ℕ)
    → (wins (b.host (b.members i).slot) (sent_record i (b.members i)) ≡ true → Q (commit_taken b i))
    → (wins (b.host (b.members i).slot) (sent_record i (b.members i)) ≡ false → Q (with_member b i (judged (b.members i) false)))
    → Q (commit_taken b i)
by-verdict Q b i accepted aborted = on (wins (b.host (b.members i).slot) (sent_record i (b.members i))) accepted
    (λ lost. rw (aborted_leaves b i lost) (aborted lost))

-- The reference: the same.

pub data RefTaken (ref : Reference) : Call → Reference → Type 0 where
  begins : (i r t : ℕ) (v : Value) → (ref.members i).phase ≡ 0
      → RefTaken ref (begin i r t v) (ref_with ref i (ref_begun (ref.members i) r t v))
  submits : (i : ℕ) → (ref.members i).phase ≡ 1 → RefTaken ref (deliver i) (ref_submit ref i)
  replies : (i : ℕ) → (ref.members i).phase ≡ 2 → RefTaken ref (deliver i) (ref_reply ref i)
  aborts : (i : ℕ) → (ref.members i).phase ≡ 3 → (ref.members i).overtaken ≡ true → RefTaken ref (deliver i) (ref_abort ref i)
  accepts : (i : ℕ) → (ref.members i).phase ≡ 3 → (ref.members i).overtaken ≡ false → RefTaken ref (deliver i) (ref_accept ref i)
  ends : (i : ℕ) → 4 ≤ (ref.members i).phase → RefTaken ref (deliver i) (ref_end ref i)
  crashes : (i : ℕ) → RefTaken ref (crash i) (ref_with ref i (ref_marked (ref.members i)))

pub ref_taken : (kind : Kind) (n : ℕ) (ref : Reference) (call : Call) → ref_answer kind n ref call ≡ 0
    → RefTaken ref call (ref_done ref call)
unfolding ref_answer ref_done ref_delivered ref_commit
ref_taken kind n ref (begin i r t v) h =
    let m = ref.members i in
    begins i r t v (begin_taken kind n m.phase m.crashed (m.begins r) i r t h).is_idle
ref_taken kind n ref (deliver i) h =
    let m = ref.members i in
    by_phase (RefTaken ref (deliver i)) m.phase (deliver_taken n m.phase m.crashed i h).not_idle
    (submits i) (replies i) (λ e. split (RefTaken ref (deliver i)) m.overtaken (aborts i e) (accepts i e)) (ends i)
ref_taken kind n ref (crash i) h = crashes i

-- A deliver, given the phase.
pub ref_phase : (ref : Reference) (i p : ℕ) → (ref.members i).phase ≡ p
    → ref_delivered ref i ≡ cond (eqb p 1) (ref_submit ref i) (cond (eqb p 2) (ref_reply ref i)
    (cond (eqb p 3) (ref_commit ref i) (ref_end ref i)))
unfolding ref_delivered
ref_phase ref i p e = rw e
