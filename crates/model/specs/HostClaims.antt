-- What is claimed of the host half alone, by its own definitions (Host.antt): fed any messages that it does not refuse, it answers as
-- Algorithm 5's server with document 01's lines and the third amendment, and as the server with the printed 5.4 and 5.9 where each commit
-- follows its own submit once. HostAsPublished (PublishedClaims.antt) is about the host of a board, whose messages come from its members.
use Rattle.std.specs.Prelude.{ℕ, ◌≡◌, Bool, true, false, cond, not, ◌&&◌, ◌||◌, List, [], ◌∷◌}
use Rattle.lists.specs.Functions.{put, inside, within}
use Rattle.model.specs.Rows.{zero_matrix}
use Rattle.model.specs.Records.{Rec, read, write, opening}
use Rattle.model.specs.Kinds.{Kind, is_operation, barred}
use Rattle.model.specs.Host.{Entry, submitted, wins, entry_after, stored_after}
use Rattle.model.specs.Board.{opened}
use Rattle.model.specs.Runs.{Call}
use Rattle.model.specs.Published.{
  Id,
  id_of,
  same_id,
  with_type,
  Server,
  server_opened,
  ToServer,
  submit,
  commit,
  FromServer,
  submit_r,
  commit_r,
  mark,
  line54noted,
  line55,
  line56,
  line58,
  line59noted,
  line512owner,
  line513,
  server_answers,
}
use Rattle.model.specs.PublishedClaims.{messages_of}

-- The half.

-- "The host is lent the n host entries": these, and the stored records in them
pub record Half : Type 0 where
  pub host : ℕ → Entry
  pub stored : ℕ → Rec

-- "Opening sets every word zero but n and the host's opening records."
unfoldable pub half_opened : ℕ → Half
half_opened n = record { host = (opened n).host; stored = (opened n).stored }

-- ".. and takes submits and commits as above, by the fields in them": what a message leaves, as submit_words and commit_words of
-- Halves.antt have it
unfoldable pub half_after : Half → ToServer → Half
half_after h (submit id) = record {
  host = put h.host id.reg (submitted (h.host id.reg) id.client id.count);
  stored = h.stored;
}
half_after h (commit op) =
    let r = op.slot in
    record {
      host = put h.host r (entry_after (h.host r) op);
      stored = put h.stored r (stored_after (h.host r) (h.stored r) op);
    }

-- and what it answers: the slot's stored and newest records, or whether the commit is accepted
unfoldable pub half_answer : Half → ToServer → FromServer
half_answer h (submit id) = submit_r (h.stored id.reg) (h.host id.reg).newest
half_answer h (commit op) = commit_r (wins (h.host op.slot) op)

unfoldable pub half_answers : Half → List ToServer → List FromServer
half_answers h [] = []
half_answers h (message ∷ messages) = half_answer h message ∷ half_answers (half_after h message) messages

-- The fields are none of those that the half refuses by number 4, 5, 6 or 7 (host_number, Halves.antt). No member is 0, then, which the
-- newest submit has for none.
unfoldable pub fits : ℕ → Id → Bool
fits n id =
    inside n id.client
    && inside n id.reg
    && is_operation id.operation
    && not (barred id.client id.reg id.operation)

unfoldable pub id_in : ToServer → Id
id_in (submit id) = id
id_in (commit op) = id_of op

unfoldable pub all_fit : ℕ → List ToServer → Bool
all_fit n [] = true
all_fit n (message ∷ messages) = fits n (id_in message) && all_fit n messages

-- Algorithm 5 with document 01's 5.4 and 5.9, on marks, and the third amendment's 5.12: no other line differs.

unfoldable pub noted_after : Server → ToServer → Server
noted_after s (submit id) = line55 (mark id) (line54noted (mark id) s)
noted_after s (commit op) =
    let noted = mark (id_of op) in
    let t = line58 noted s in
    cond (line59noted noted s) t (line513 op (line512owner op t))

unfoldable pub noted_answer : Server → ToServer → FromServer
noted_answer s (submit id) = line56 id s
noted_answer s (commit op) = commit_r (not (line59noted (mark (id_of op)) s))

unfoldable pub noted_answers : Server → List ToServer → List FromServer
noted_answers s [] = []
noted_answers s (message ∷ messages) = noted_answer s message ∷ noted_answers (noted_after s message) messages

-- whether an operation of the id's member, slot and count is waiting, of either type
unfoldable pub waits_already : (Id → Bool) → Id → Bool
waits_already waiting id = waiting (with_type read id) || waiting (with_type write id)

-- Each commit follows its own submit, once, and no submit comes again before its commit: waiting are the ids whose submit came and whose
-- commit did not. Members send such streams, as RunSends says of every run: one operation runs at a time, its submit goes out in phase 1
-- and its commit in phase 3, once each, and the next begin is after the outcome; a member that halted or crashed begins no more.
unfoldable pub each_once : (Id → Bool) → List ToServer → Bool
each_once waiting [] = true
each_once waiting (submit id ∷ messages) =
    not (waits_already waiting id) && each_once (λ other. waiting other || same_id other id) messages
each_once waiting (commit op ∷ messages) =
    waiting (id_of op) && each_once (λ other. waiting other && not (same_id other (id_of op))) messages

-- nothing is submitted yet
unfoldable pub none_waiting : Id → Bool
none_waiting id = false

-- The claims.

pub record HalfAsPublished (n : ℕ) (messages : List ToServer) : Type 0 where
  -- on every stream that fits, Algorithm 5 with these lines
  pub noted : all_fit n messages ≡ true
      → noted_answers server_opened messages ≡ half_answers (half_opened n) messages
  -- as printed but for 5.12, where each commit follows its own submit once
  pub printed : all_fit n messages ≡ true → each_once none_waiting messages ≡ true
      → server_answers line512owner server_opened messages ≡ half_answers (half_opened n) messages

-- what the members of every run send meets both premises
pub record RunSends (kind : Kind) (n : ℕ) (calls : List Call) : Type 0 where
  pub fit : all_fit n (messages_of kind n (opened n) calls) ≡ true
  pub once : each_once none_waiting (messages_of kind n (opened n) calls) ≡ true

-- The difference at 5.9, of every operation op that fits: the commit never submitted, and the commit that comes a second time. Algorithm
-- 5 accepts both, and the half aborts both.
unfoldable pub unasked : Rec → List ToServer
unasked op = commit op ∷ []

unfoldable pub repeated : Rec → List ToServer
repeated op = submit (id_of op) ∷ commit op ∷ commit op ∷ []

-- and at 5.4: after the submit that comes a second time, under whatever type, Algorithm 5 aborts, and the half accepts
unfoldable pub resubmitted : ℕ → Rec → List ToServer
resubmitted t op = submit (id_of op) ∷ submit (with_type t (id_of op)) ∷ commit op ∷ []

pub record HalfDiffers (n : ℕ) (op : Rec) : Type 0 where
  pub unasked_server : server_answers line512owner server_opened (unasked op) ≡ commit_r true ∷ []
  pub unasked_half : half_answers (half_opened n) (unasked op) ≡ commit_r false ∷ []
  pub repeated_server : server_answers line512owner server_opened (repeated op)
      ≡ submit_r (opening op.slot) (opening op.slot) ∷ commit_r true ∷ commit_r true ∷ []
  pub repeated_half : half_answers (half_opened n) (repeated op)
      ≡ submit_r (opening op.slot) (opening op.slot) ∷ commit_r true ∷ commit_r false ∷ []
  pub resubmitted_server : (t : ℕ) → server_answers line512owner server_opened (resubmitted t op)
      ≡ submit_r (opening op.slot) (opening op.slot) ∷ submit_r (opening op.slot) (opening op.slot) ∷ commit_r false ∷ []
  pub resubmitted_half : (t : ℕ) → half_answers (half_opened n) (resubmitted t op)
      ≡ submit_r (opening op.slot) (opening op.slot) ∷ submit_r (opening op.slot) (opening op.slot) ∷ commit_r true ∷ []

-- A stream in which the premises hold, with its answers written out: on slot 1 of two, member 2's read overtakes member 1's write, which
-- is aborted; the read is accepted; member 1 writes again, and member 2 reads what it wrote. Member 1 reads its own slot, and member 2 is
-- sent that read as the stored record.

-- member i's operation of type t on slot 1, its k-th, with k in each of the value's 8 words
unfoldable pub on_slot1 : ℕ → ℕ → ℕ → Rec
on_slot1 i t k = record { member = i; slot = 1; operation = t; count = k; value = within 8 0 (λ word. k); matrix = zero_matrix }

unfoldable pub sample : List ToServer
sample =
    submit (record { client = 1; count = 1; operation = write; reg = 1 })
    ∷ submit (record { client = 2; count = 1; operation = read; reg = 1 })
    ∷ commit (on_slot1 1 write 1)
    ∷ commit (on_slot1 2 read 1)
    ∷ submit (record { client = 1; count = 2; operation = write; reg = 1 })
    ∷ commit (on_slot1 1 write 2)
    ∷ submit (record { client = 2; count = 2; operation = read; reg = 1 })
    ∷ commit (on_slot1 2 read 2)
    ∷ submit (record { client = 1; count = 3; operation = read; reg = 1 })
    ∷ commit (on_slot1 1 read 3)
    ∷ submit (record { client = 2; count = 3; operation = read; reg = 1 })
    ∷ commit (on_slot1 2 read 3)
    ∷ []

unfoldable pub sample_answers : List FromServer
sample_answers =
    submit_r (opening 1) (opening 1)
    ∷ submit_r (opening 1) (opening 1)
    ∷ commit_r false
    ∷ commit_r true
    ∷ submit_r (opening 1) (on_slot1 2 read 1)
    ∷ commit_r true
    ∷ submit_r (on_slot1 1 write 2) (on_slot1 1 write 2)
    ∷ commit_r true
    ∷ submit_r (on_slot1 1 write 2) (on_slot1 2 read 2)
    ∷ commit_r true
    ∷ submit_r (on_slot1 1 read 3) (on_slot1 1 read 3)
    ∷ commit_r true
    ∷ []

pub record SampleHolds : Type 0 where
  pub fit : all_fit 2 sample ≡ true
  pub once : each_once none_waiting sample ≡ true
  pub answers : half_answers (half_opened 2) sample ≡ sample_answers
  pub server : server_answers line512owner server_opened sample ≡ sample_answers
