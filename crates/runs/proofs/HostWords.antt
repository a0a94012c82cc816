-- The host half's calls on words answer as Algorithm 5's server: the words of a sound half decode to it, so that each call is the half's
-- step (HostHalf.antt).
use Prim.Native.Nat.{ℕ}
use native.Mathlib.Omega.{arith}
use mathlib.Core.Path.{◌≡◌, refl, sym, ap, ap₂, ◌∙◌}
use mathlib.Core.Bool.{Bool, true, false, cond, not, ◌&&◌}
use mathlib.Core.List.{List, [], ◌∷◌}
use lib.Dec.{eqb}
use lib.ListN.{length}
use borrow.Author.Tests.{eq-eqb}
use Rattle.lists.specs.Functions.{put, inside, within}
use Rattle.lists.specs.Parts.{words}
use Rattle.lists.proofs.Functions.{◌and◌, on, both, put_same, put_both, each_all, inside_in, inside_high, within_off}
use Rattle.lists.proofs.Pieces.{pieces-laid}
use Rattle.model.specs.Records.{Rec, read, write, zero_record, record_within}
use Rattle.model.specs.RecordWords.{record_words}
use Rattle.model.specs.Kinds.{is_size, is_operation, barred, becomes_stored}
use Rattle.model.specs.Host.{Entry, submitted, wins, entry_after, stored_after}
use Rattle.model.specs.Board.{no_entry}
use Rattle.lists.specs.Every.{Every}
use Rattle.model.specs.Table.{entry_size, host_size, entry_of, stored_of, entry_words, host_of, stored_records_of, host_words, sound_record}
use Rattle.model.specs.Table.{sound_entry, sound_host, entries_number}
use Rattle.model.specs.Numbers.{fields_number}
use Rattle.model.specs.Halves.{host_number, submit_words, submit_newest, submit_stored, commit_number, commit_outcome, commit_words}
use Rattle.model.specs.Published.{Id, id_of, ToServer, submit, commit, submit_r}
use Rattle.model.specs.HostClaims.{Half, half_opened, half_after, half_answer, half_answers, fits, id_in, all_fit, each_once, none_waiting}
use Rattle.model.specs.HostClaims.{on_slot1, sample}
use Rattle.model.proofs.Ids.{fit_parts}
use Rattle.model.proofs.HostHalf.{half_as_published, sample_holds}
use Rattle.laws.proofs.Records.{record_of-words, within_read, within_zero_record}
use Rattle.laws.proofs.Blocks.{entry_same, stored_same_lem, length-entry}
use Rattle.laws.proofs.Tables.{length-host}
use Rattle.laws.proofs.Sound.{record_sound, SoundSlot, entry_sound}
use Rattle.runs.specs.HostWords.{entries_opened, call_number, call_words, call_answer, call_answers, taken, MessageHeld}
use Rattle.runs.specs.HostWords.{WordsAsPublished, strayed, SampleInWords}
use Rattle.runs.proofs.Sound.{operation_small, opened_sound}
use Rattle.runs.proofs.Held.{blank_off, HeldHost, host_back, stored_back, slot_held, opened_held}

-- A half that words can hold, and that number 3 does not refuse.
record Kept (n : ℕ) (h : Half) : Type 0 where
  held : HeldHost n h.host h.stored
  slots : (r : ℕ) → inside n r ≡ true → SoundSlot n (h.host r) (h.stored r)

opened_kept : (n : ℕ) → Kept n (half_opened n)
unfolding half_opened
opened_kept n = record { held = (opened_held n).host; slots = (opened_sound n).slots }

abbrev words_of : ℕ → Half → List ℕ
words_of n h = host_words n h.host h.stored

module _ (n : ℕ) (h : Half) (k : Kept n h) where
  host-read : host_of n (words (words_of n h)) ≡ h.host
  unfolding host_of host_words
  host-read =
      pieces-laid n no_entry (entry_size n) (entry_of n) (entry_same n) (λ r. entry_words n (h.host r) (h.stored r))
      (λ r p q. length-entry n (h.host r) (h.stored r))
      ∙ host_back k.held

  stored-records-read : stored_records_of n (words (words_of n h)) ≡ h.stored
  unfolding stored_records_of host_words
  stored-records-read =
      pieces-laid n zero_record (entry_size n) (stored_of n) (stored_same_lem n) (λ r. entry_words n (h.host r) (h.stored r))
      (λ r p q. length-entry n (h.host r) (h.stored r))
      ∙ stored_back k.held

  sound : sound_host n h.host h.stored ≡ true
  unfolding sound_host
  sound = each_all n (λ r. sound_entry n (h.host r) (h.stored r))
      (λ r p q. entry_sound n (h.host r) (h.stored r) (k.slots r (inside_in n r p q)))

-- the first of 4 to 7 that holds
none_holds : (a b c d : Bool) → eqb (cond (not a) 4 (cond (not b) 5 (cond (not c) 6 (cond d 7 0)))) 0 ≡ (a && b && c && not d)
none_holds false b c d = refl
none_holds true false c d = refl
none_holds true true false d = refl
none_holds true true true false = refl
none_holds true true true true = refl

module _ (n : ℕ) (size : is_size n ≡ true) (h : Half) (k : Kept n h) where
  -- a call's number: none of its own words' grounds holds, so it is 0 exactly where the fields fit
  fields-number : (id : Id) → eqb (host_number n (words_of n h) id.client id.reg id.operation) 0 ≡ fits n id
  unfolding host_number fields_number entries_number fits
  fields-number id = rw (
    size,
    eq-eqb (length (words_of n h)) (host_size n) (length-host n h.host h.stored),
    host-read n h k,
    stored-records-read n h k,
    sound n h k,
  ) (none_holds
      (inside n id.client)
      (inside n id.reg)
      (is_operation id.operation)
      (barred id.client id.reg id.operation))

  same_number : (message : ToServer) → eqb (call_number n (words_of n h) message) 0 ≡ fits n (id_in message)
  unfolding call_number commit_number id_in id_of
  same_number (submit id) = fields-number id
  same_number (commit op) = fields-number (id_of op)

  -- a call that is refused leaves the words
  refused-words : (message : ToServer) → fits n (id_in message) ≡ false → call_words n (words_of n h) message ≡ words_of n h
  unfolding call_words submit_words commit_words commit_number id_in id_of
  refused-words (submit id) f = rw (fields-number id, f)
  refused-words (commit op) f = rw (fields-number (id_of op), f)

  -- one that is not leaves the words of the half after it, and hands back its answer
  same_words : (message : ToServer) → fits n (id_in message) ≡ true
      → call_words n (words_of n h) message ≡ words_of n (half_after h message)
  unfolding call_words submit_words commit_words commit_number id_in id_of half_after
  same_words (submit id) f = rw (fields-number id, f, host-read n h k, stored-records-read n h k)
  same_words (commit op) f = rw (fields-number (id_of op), f, host-read n h k, stored-records-read n h k)

  same_answer : (message : ToServer) → fits n (id_in message) ≡ true
      → call_answer n (words_of n h) message ≡ half_answer h message
  unfolding call_answer submit_newest submit_stored commit_outcome commit_number id_in id_of half_answer
  same_answer (submit id) f =
      ap₂ (λ stored host. submit_r (stored id.reg) (host id.reg).newest) (stored-records-read n h k) (host-read n h k)
  same_answer (commit op) f = rw (fields-number (id_of op), f, host-read n h k)
      (on (wins (h.host op.slot) op) (λ t. rw t) (λ t. rw t))

  -- The half after it is again one that words can hold: a slot's entry and its stored record replaced by ones that they can.
  slot_kept : (r : ℕ) (e : Entry) (s : Rec) → inside n r ≡ true → record_within n e.newest ≡ e.newest → record_within n s ≡ s
      → SoundSlot n e s → Kept n (record { host = put h.host r e; stored = put h.stored r s })
  slot_kept r e s p a b c = record {
    held = slot_held k.held r e s p a b;
    slots = put_both (λ j e s. inside n j ≡ true → SoundSlot n e s) h.host h.stored r e s (λ q. c) (λ j d. k.slots j);
  }

  submit-kept : (id : Id) → fits n id ≡ true → Kept n (half_after h (submit id))
  unfolding half_after submitted
  submit-kept id f =
      let p = fit_parts n id f in
      let r = id.reg in
      let s = k.slots r p.1 in
      let e = submitted (h.host r) id.client id.count in
      rw (put_same h.stored r) at
      (slot_kept r e (h.stored r) p.1 (k.held.newest r) (k.held.whole r) (inside_high n id.client p.0, s.1, s.2))

  commit-kept : (op : Rec) → fits n (id_of op) ≡ true → record_within n op ≡ op → Kept n (half_after h (commit op))
  unfolding half_after entry_after stored_after id_of
  commit-kept op f held =
      let p = fit_parts n (id_of op) f in
      let r = op.slot in
      let e = h.host r in
      let s = k.slots r p.1 in
      slot_kept r (entry_after e op) (stored_after e (h.stored r) op) p.1
      (on (wins e op) (λ t. rw t held) (λ t. rw t (k.held.newest r)))
      (on (wins e op && becomes_stored op) (λ t. rw t held) (λ t. rw t (k.held.whole r))) (
        on (wins e op) (λ t. rw t (omega arith)) (λ t. rw t s.0),
        on (wins e op && becomes_stored op) (λ t. rw t op-sound) (λ t. rw t s.1),
        on (wins e op) (λ t. rw t op-sound) (λ t. rw t s.2),
      )
    where
      op-sound : sound_record n op ≡ true
      op-sound =
          let p = fit_parts n (id_of op) f in
          record_sound (record {
            member = inside_high n op.member p.0;
            slot = inside_high n op.slot p.1;
            operation = (operation_small op.operation p.2).1;
          })

  message-kept : (message : ToServer) → fits n (id_in message) ≡ true → MessageHeld n message → Kept n (half_after h message)
  unfolding id_in
  message-kept (submit id) f held = submit-kept id f
  message-kept (commit op) f held = commit-kept op f held

same_answers : (n : ℕ) → is_size n ≡ true → (messages : List ToServer) → Every (MessageHeld n) messages
    → (h : Half) → Kept n h
    → half_answers h (taken n messages) ≡ call_answers n (words_of n h) messages
unfolding taken call_answers half_answers
same_answers n size [] v h k = refl
same_answers n size (message ∷ messages) v h k = on (fits n (id_in message))
    (λ f. rw (same_number n size h k message, f) (ap₂ ◌∷◌
    (sym (same_answer n size h k message f))
    (same_answers n size messages v.1 (half_after h message) (message-kept n size h k message f v.0)
    ∙ ap (λ l. call_answers n l messages) (sym (same_words n size h k message f)))))
    (λ f. rw (same_number n size h k message, f, refused-words n size h k message f)
    (same_answers n size messages v.1 h k))

taken_fit : (n : ℕ) (messages : List ToServer) → all_fit n (taken n messages) ≡ true
unfolding taken all_fit
taken_fit n [] = refl
taken_fit n (message ∷ messages) = on (fits n (id_in message))
    (λ f. rw f (both f (taken_fit n messages)))
    (λ f. rw f (taken_fit n messages))

pub words_as_published : (n : ℕ) → is_size n ≡ true → (messages : List ToServer) → Every (MessageHeld n) messages
    → WordsAsPublished n messages
unfolding entries_opened half_opened
words_as_published n size messages v =
    let p = half_as_published n (taken n messages) in
    let fit = taken_fit n messages in
    let same = same_answers n size messages v (half_opened n) (opened_kept n) in
    record { noted = p.noted fit ∙ same; printed = λ once. p.printed fit once ∙ same }

-- the contract of the half's commit hands every record on so: what is cut to a board of n is cut once and for all
pub commit_held : (n : ℕ) (r : Rec) → MessageHeld n (commit (record_within n r))
commit_held n r =
    let e = record_of-words n r in
    ap (record_within n) (sym e) ∙ within_read n (words (record_words n r)) ∙ e

-- The sample.

on_slot_held : (i t k : ℕ) → record_within 2 (on_slot1 i t k) ≡ on_slot1 i t k
unfolding on_slot1 record_within zero_record
on_slot_held i t k = λ j. record {
  member = i;
  slot = 1;
  operation = t;
  count = k;
  value = blank_off 8 0 (within 8 0 (λ word. k)) (λ word p. within_off 8 0 (λ word. k) word p) j;
  matrix = ap (λ r. r.matrix) (within_zero_record 2) j;
}

strayed_held : Every (MessageHeld 2) strayed
unfolding strayed sample
strayed_held =
    tt and tt and tt and on_slot_held 1 write 1 and on_slot_held 2 read 1 and tt and on_slot_held 1 write 2 and tt
    and on_slot_held 2 read 2 and tt and on_slot_held 1 read 3 and tt
    and on_slot_held 2 read 3 and tt

strayed_taken : taken 2 strayed ≡ sample
unfolding taken strayed sample fits id_in id_of inside is_operation barred on_slot1
strayed_taken = refl

pub sample_in_words : SampleInWords
sample_in_words =
    let s = sample_holds in
    let p = words_as_published 2 (inside_in 12 2 (omega arith) (omega arith)) strayed strayed_held in
    record {
      held = strayed_held;
      refused = strayed_taken;
      answers = sym (rw (strayed_taken) at (p.printed (ap (each_once none_waiting) (strayed_taken) ∙ s.once))) ∙ s.server;
    }
