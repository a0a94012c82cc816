-- What is claimed: the member's and the host's definitions are the published rules of Published.antt, with document 01's differences.
use Rattle.std.specs.Prelude.{ℕ, ◌/◌, ◌%◌, ◌≤◌, ◌≡◌, Bool, true, false, cond, not, ◌&&◌, ◌↔◌, List, [], ◌∷◌, ◌++◌, eqb}
use Rattle.std.proofs.Math.Option.{none}
use Rattle.model.specs.Records.{Value, Rec, read, write}
use Rattle.model.specs.Kinds.{Kind, is_operation, barred}
use Rattle.model.specs.Member.{Member, idle, begun, answered, replied, passed, failed, judged, outcome, returned_by}
use Rattle.model.specs.Board.{Board, opened, sent_record}
use Rattle.model.specs.Runs.{Call, begin, deliver, crash, answer_of, after}
use Rattle.model.specs.Published.{
  Id,
  Called,
  Client,
  client_opened,
  line33,
  line34,
  line37,
  line38,
  line38others,
  line38own,
  line39,
  line310,
  line312,
  line312added,
  line316,
  line328,
  op_of,
  after_ok,
  after_ok_writes,
  after_abort_amended,
  Server,
  server_opened,
  ToServer,
  submit,
  commit,
  FromServer,
  submit_r,
  commit_r,
  line512,
  line512owner,
  line512writes,
  server_answers,
}

-- The member.

-- the client's variables that a member's state holds, with op.value: between operations the last own value, in one the pending value
unfoldable pub variables : Member → Value → Client
variables m op_value = record {
  op_cnt = m.own;
  ts_suc = m.accepted;
  value_suc = m.last;
  op_value = op_value;
  tsm_comp = m.known;
}

unfoldable pub resting : Member → Client
resting m = variables m m.last

unfoldable pub working : Member → Client
working m = variables m m.pending

-- what member i's submit says
unfoldable pub submit_of : ℕ → Member → Id
submit_of i m = record { client = i; count = m.own m.slot; operation = m.operation; reg = m.slot }

-- the seals value: "bit 0 for the newest record, bit 1 for the stored one"
unfoldable pub newest_held : ℕ → Bool
newest_held seals = eqb (seals % 2) 1

unfoldable pub stored_held : ℕ → Bool
stored_held seals = eqb (seals / 2) 1

-- Of every state m of member i, honest host or not: the newest record of a reply is lso, the stored one x_op.
pub record MemberAsPublished (n i : ℕ) : Type 0 where
  -- of reads and writes, number 7 lets through exactly the calls of Algorithm 1
  pub calls : (r t : ℕ) → is_operation t ≡ true → (barred i r t ≡ false) ↔ Called i t r
  -- the client's variables at first
  pub opens : resting idle ≡ client_opened
  -- begin is 3.3, and 3.16 made at once
  pub begins : (m : Member) (r t : ℕ) (v : Value) → working (begun m r t v) ≡ line316 t v (line33 r (resting m))
  -- its submit is that of 3.4 and 3.5
  pub submits : (m : Member) (r t : ℕ) (v : Value) → submit_of i (begun m r t v) ≡ line34 i t r (line33 r (resting m))
  -- it goes on to its commit exactly when 3.7 to 3.12 and amendment 2's check pass
  pub checks : (m : Member) (newest stored : Rec) (seals : ℕ)
      → eqb (replied n i m newest stored seals).phase 3
      ≡ (line37 (newest_held seals) (stored_held seals)
      && line38 n i m.slot (working m) newest
      && line39 m.slot stored
      && line310 n m.slot stored newest
      && line312 n m.slot (working m) newest
      && line312added n i m.slot (working m) newest)
  -- and else halts, with the number that document 01 has for the first line that fails
  pub halts : (m : Member) (newest stored : Rec) (seals : ℕ)
      → replied n i m newest stored seals
      ≡ cond (not (line37 (newest_held seals) (stored_held seals))) (failed m 21)
      (cond (not (line38others n i m.slot (working m) newest)) (failed m 22)
      (cond (not (line38own i m.slot (working m) newest)) (failed m 23)
      (cond (not (line39 m.slot stored)) (failed m 24)
      (cond (not (line310 n m.slot stored newest)) (failed m 25)
      (cond (not (line312 n m.slot (working m) newest)) (failed m 26)
      (cond (not (line312added n i m.slot (working m) newest)) (failed m 27)
      (passed n i m newest stored)))))))
  -- its record, and what its commit sends, is the op of the COMMIT
  pub commits : (m : Member) (newest stored : Rec)
      → (passed n i m newest stored).first ≡ op_of n i m.operation m.slot (working m) newest
  pub sends : (m : Member) (newest stored : Rec)
      → sent_record i (passed n i m newest stored) ≡ op_of n i m.operation m.slot (working m) newest
  -- the outcome accepted is 3.21, 3.26 and document 01's 3.27; aborted it is 3.23, by amendment 1 without 3.21
  pub accepts : (m : Member)
      → variables (outcome m true) m.pending ≡ after_ok_writes m.operation m.slot m.first (working m)
  pub aborts : (m : Member) → resting (outcome m false) ≡ after_abort_amended (working m)
  -- the value returned is 3.28's, and none after ABORT
  pub returns : (m : Member) (won : Bool) → returned_by m won ≡ cond won (line328 m.operation m.second) none
  -- a whole operation that is accepted: Algorithm 3 as printed, 3.27 too
  pub whole : (m : Member) (r t : ℕ) (v : Value) (newest stored : Rec)
      → let c = line316 t v (line33 r (resting m)) in
      resting (outcome (judged (passed n i (answered (begun m r t v) newest stored) newest stored) true) true)
      ≡ after_ok r (op_of n i t r c newest) c

-- The host.

-- the message that a call answered 0 takes to the host: a deliver in phase 1 the submit, in phase 3 the commit
unfoldable pub sent_by : Board → Call → List ToServer
sent_by b (begin i r t v) = []
sent_by b (deliver i) =
    let m = b.members i in
    cond (eqb m.phase 1) (submit (submit_of i m) ∷ [])
    (cond (eqb m.phase 3) (commit (sent_record i m) ∷ [])
    [])
sent_by b (crash i) = []

-- the host's answer to it, as the member holds it on the board that the call leaves: the two records of the reply, or phase 4 or 5
unfoldable pub got_by : Board → Board → Call → List FromServer
got_by b left (begin i r t v) = []
got_by b left (deliver i) =
    let phase = (b.members i).phase in
    let m = left.members i in
    cond (eqb phase 1) (submit_r m.second m.first ∷ [])
    (cond (eqb phase 3) (commit_r (eqb m.phase 4) ∷ [])
    [])
got_by b left (crash i) = []

-- the messages of a run, and the answers that its members got
unfoldable pub messages_of : Kind → ℕ → Board → List Call → List ToServer
messages_of kind n b [] = []
messages_of kind n b (call ∷ calls) =
    cond (eqb (answer_of kind n b call) 0) (sent_by b call) [] ++ messages_of kind n (after kind n b call) calls

unfoldable pub answers_of : Kind → ℕ → Board → List Call → List FromServer
answers_of kind n b [] = []
answers_of kind n b (call ∷ calls) =
    let left = after kind n b call in
    cond (eqb (answer_of kind n b call) 0) (got_by b left call) [] ++ answers_of kind n left calls

-- Algorithm 5 with the third amendment at 5.12, fed the messages of a run from the opening, gives the answers that the run's members
-- got: to each submit the same records, to each commit the same verdict.
pub record HostAsPublished (kind : Kind) (n : ℕ) (calls : List Call) : Type 0 where
  pub answers : server_answers line512owner server_opened (messages_of kind n (opened n) calls)
      ≡ answers_of kind n (opened n) calls

-- The opening board's members are idle, and the records of slots 1 to n are X and lso of the opened server.
pub record OpenedAsPublished (n : ℕ) : Type 0 where
  pub members : (i : ℕ) → (opened n).members i ≡ idle
  pub stored : (r : ℕ) → 1 ≤ r → r ≤ n → (opened n).stored r ≡ server_opened.x r
  pub newest : (r : ℕ) → 1 ≤ r → r ≤ n → ((opened n).host r).newest ≡ server_opened.lso r

-- The third amendment's 5.12 is the printed line on the client's own register, and stores nothing on another's. Document 01's line, which
-- it replaces, does the same with a write to one's own register, and stores no read.
pub record OwnerAsPrinted : Type 0 where
  pub stores : (op : Rec) (s : Server) → op.member ≡ op.slot → line512owner op s ≡ line512 op s
  pub leaves : (op : Rec) (s : Server) → (op.member ≡ op.slot → ⊥) → line512owner op s ≡ s
  pub writes_before : (op : Rec) (s : Server) → op.operation ≡ write → op.member ≡ op.slot → line512writes op s ≡ line512 op s
  pub reads_before : (op : Rec) (s : Server) → op.operation ≡ read → line512writes op s ≡ s
