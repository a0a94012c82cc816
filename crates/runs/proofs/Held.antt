-- What a table can hold: a board all of whose counts and words lie at members and slots 1 to n reads back from its words as itself, and
-- every call leaves such a board.
use Prim.Native.Nat.{ℕ, ◌+◌, ◌-◌, ◌*◌, ◌≤◌}
use native.Mathlib.Omega.{arith}
use mathlib.Core.Path.{◌≡◌, refl, sym, ap, ◌∙◌, fun_ext}
use mathlib.Core.Bool.{Bool, true, false, cond}
use mathlib.Core.Logic.{⊎_elim}
use lib.Dec.{eqb}
use borrow.Author.Tests.{ne_eqb}
use Rattle.lists.specs.Functions.{put, from, inside, within, numbered}
use Rattle.lists.specs.Parts.{words, tabulate}
use Rattle.lists.proofs.Functions.{on, split, apart, put_off, put_same, put_all, inside_in, inside_low, inside_high, within_at}
use Rattle.lists.proofs.Functions.{within_off, within_same, within_blank, numbered_within, numbered_off, numbered_at, numbered_same}
use Rattle.lists.proofs.Parts.{tabulate-at}
use Rattle.model.specs.Rows.{Row, Matrix, zero_row}
use Rattle.model.specs.Records.{Value, Rec, write, opening, zero_record, matrix_within, record_within}
use Rattle.model.specs.RecordWords.{row_of, matrix_of, value_of}
use Rattle.model.specs.Kinds.{Kind, becomes_stored}
use Rattle.model.specs.Member.{Member, idle, begun, answered, halt_number, joined, own_record, passed, failed, replied, judged, completed}
use Rattle.model.specs.Member.{dropped, took_over, outcome, moved, crashed_of}
use Rattle.model.specs.Host.{Entry, submitted, entry_after, stored_after}
use Rattle.model.specs.Board.{Board, no_entry, opening_entry, opened, with_member, board_begun, submit_taken, reply_taken, sent_record}
use Rattle.model.specs.Board.{commit_taken, outcome_taken, board_crashed}
use Rattle.model.specs.Runs.{Call, begin, deliver, crash}
use Rattle.model.specs.Table.{pending_at, last_at, first_at, second_at, slot_at, operation_at, known_at, block_size, member_of}
use Rattle.model.specs.Table.{member_words}
use Rattle.model.specs.Table.{entry_of, stored_of, entry_words, board_of, table_words}
use Rattle.model.proofs.Rows.{larger_either}
use Rattle.model.proofs.Steps.{Taken, begins, submits, replies, commits, ends, crashes, by-verdict}
use Rattle.laws.proofs.Records.{record_of-words, within_read, within_opening, within_zero_record}
use Rattle.laws.proofs.Blocks.{member_words_lem, member_same, member_zero, entry_read, stored_read}
use Rattle.laws.proofs.Tables.{table_read}
use Rattle.laws.proofs.Sound.{SoundBoard}
use Rattle.laws.proofs.Steps.{begun_by, noted_by, failed_by, judged_by_lem, dropped_by, crashed_by, tookOver-read, tookOver-write}

-- Functions that are blank outside 1 to n.

module _ {A : Type 0} (n : ℕ) (d : A) where
  pub off_blank : (f : ℕ → A) → within n d f ≡ f → (k : ℕ) → inside n k ≡ false → f k ≡ d
  off_blank f h k p = ap (λ g. g k) (sym h) ∙ within_off n d f k p

  pub blank_off : (f : ℕ → A) → ((k : ℕ) → inside n k ≡ false → f k ≡ d) → within n d f ≡ f
  blank_off f h = fun_ext λ k. on (inside n k)
      (λ p. within_at n d f k (inside_low n k p) (inside_high n k p))
      (λ p. within_off n d f k p ∙ sym (h k p))

  within_put : (f : ℕ → A) (k : ℕ) (v : A) → inside n k ≡ true → within n d f ≡ f → within n d (put f k v) ≡ put f k v
  within_put f k v p h = blank_off (put f k v) (λ i q.
      put_off f k v i (λ e. apart (ap (inside n) e ∙ p) q) ∙ off_blank f h i q)

  within-numbered : (f : ℕ → A) → within n d (numbered n d f) ≡ numbered n d f
  within-numbered f = rw numbered_within (blank_off (within n d (λ k. f (k - 1))) (λ k p. within_off n d (λ k. f (k - 1)) k p))

-- A matrix that a board of n has whole, row by row.
abbrev pub MatrixHeld : ℕ → Matrix → Type 0
MatrixHeld n m = ((j : ℕ) → inside n j ≡ false → m j ≡ zero_row) × ((j : ℕ) → within n 0 (m j) ≡ m j)

matrix_parts : (n : ℕ) (m : Matrix) → matrix_within n m ≡ m → MatrixHeld n m
unfolding zero_row
matrix_parts n m h = (
  off_blank n zero_row m whole,
  λ j. on (inside n j)
      (λ p. ap (within n 0) (here j p) ∙ blank_off n 0 (within n 0 (m j)) (λ k q. within_off n 0 (m j) k q) ∙ sym (here j p))
      (λ p. ap (within n 0) (off_blank n zero_row m whole j p) ∙ within_blank n 0 ∙ sym (off_blank n zero_row m whole j p)),
)
  where
    rows : ℕ → Row
    rows j = within n 0 (m j)

    whole : within n zero_row m ≡ m
    whole = blank_off n zero_row m (λ k p. ap (λ g. g k) (sym h) ∙ within_off n zero_row rows k p)

    here : (j : ℕ) → inside n j ≡ true → m j ≡ within n 0 (m j)
    here j p = ap (λ g. g j) (sym h) ∙ within_at n zero_row rows j (inside_low n j p) (inside_high n j p)

matrix_whole : (n : ℕ) (m : Matrix) → MatrixHeld n m → matrix_within n m ≡ m
matrix_whole n m h = blank_off n zero_row (λ j. within n 0 (m j)) (λ j p. h.1 j ∙ h.0 j p) ∙ fun_ext h.1

-- The member.

pub record HeldMember (n : ℕ) (m : Member) : Type 0 where
  pub block : ℕ → ℕ
  pub decodes : m ≡ member_of n block

member_back : {n : ℕ} {m : Member} → HeldMember n m → member_of n (words (member_words n m)) ≡ m
member_back {n} {m} h = rw h.decodes (
    ap (λ l. member_of n (words l)) (member_words_lem n h.block)
    ∙ member_same n (words (tabulate (block_size n) h.block)) h.block (tabulate-at (block_size n) h.block))

-- a value of 8 words
abbrev pub ValueHeld : Value → Type 0
ValueHeld v = value_of (λ i. v (i + 1)) ≡ v

-- a step that is one of words
by_words : {n : ℕ} {m : Member} (step : Member → Member) (h : HeldMember n m) (after : ℕ → ℕ)
    → member_of n after ≡ step (member_of n h.block) → HeldMember n (step m)
by_words step h after e = record { block = after; decodes = ap step h.decodes ∙ sym e }

begun_held : {n : ℕ} {m : Member} (r t : ℕ) (v : Value) → HeldMember n m → inside n r ≡ true → ValueHeld v → HeldMember n (begun m r t v)
begun_held {n} r t v h p q = by_words (λ m. begun m r t v) h _ (begun_by n w r t v carried (inside_low n r p) (inside_high n r p) value)
  where
    w : ℕ → ℕ
    w = h.block

    carried : ℕ → ℕ
    carried = cond (eqb t write) (λ i. v (i + 1)) (from w (last_at n))

    value : value_of carried ≡ cond (eqb t write) v (value_of (from w (last_at n)))
    value = on (eqb t write) (λ e. rw e q) (λ e. rw e)

-- a step within an operation that notes two records which the board has whole
noted_held : {n : ℕ} {m : Member} (phase : ℕ) (one two : Rec) → HeldMember n m → record_within n one ≡ one → record_within n two ≡ two
    → HeldMember n (moved m phase m.halt one two)
noted_held {n} phase one two h p q = by_words (λ m. moved m phase m.halt one two) h _
    (noted_by n h.block phase one two ∙ (λ t. moved (member_of n h.block) phase (member_of n h.block).halt (p t) (q t)))

failed_held : {n : ℕ} {m : Member} (number : ℕ) → HeldMember n m → HeldMember n (failed m number)
failed_held {n} number h = by_words (λ m. failed m number) h _ (failed_by n h.block number)

judged_held : {n : ℕ} {m : Member} (won : Bool) → HeldMember n m → HeldMember n (judged m won)
judged_held {n} won h = by_words (λ m. judged m won) h _ (judged_by_lem n h.block won)

dropped_held : {n : ℕ} {m : Member} → HeldMember n m → HeldMember n (dropped m)
dropped_held {n} h = by_words dropped h _ (dropped_by n h.block)

crashed_held : {n : ℕ} {m : Member} → HeldMember n m → HeldMember n (crashed_of m)
crashed_held {n} h = by_words crashed_of h _ (crashed_by n h.block)

-- The parts of a member that is held.

matrix_read : (n : ℕ) (w : ℕ → ℕ) → MatrixHeld n (matrix_of n w)
unfolding matrix_of row_of zero_row
matrix_read n w = (
  numbered_off n zero_row rows,
  λ j. on (inside n j)
      (λ p. let e = here j p in ap (within n 0) e ∙ within-numbered n 0 (from w ((j - 1) * n)) ∙ sym e)
      (λ p. let e = numbered_off n zero_row rows j p in ap (within n 0) e ∙ within_blank n 0 ∙ sym e),
)
  where
    rows : ℕ → Row
    rows k = numbered n 0 (from w (k * n))

    here : (j : ℕ) → inside n j ≡ true → numbered n zero_row rows j ≡ numbered n 0 (from w ((j - 1) * n))
    here j p =
        ap (λ g. g j) (numbered_within n zero_row rows)
        ∙ within_at n zero_row (λ k. rows (k - 1)) j (inside_low n j p) (inside_high n j p)

known_held : {n : ℕ} {m : Member} → HeldMember n m → MatrixHeld n m.known
unfolding member_of
known_held {n} h = rw h.decodes (matrix_read n (from h.block (known_at n)))

pending_held : {n : ℕ} {m : Member} → HeldMember n m → within 8 0 m.pending ≡ m.pending
unfolding member_of value_of
pending_held {n} h = rw h.decodes (within-numbered 8 0 (from h.block (pending_at n)))

first_held : {n : ℕ} {m : Member} → HeldMember n m → record_within n m.first ≡ m.first
unfolding member_of
first_held {n} h = rw h.decodes (within_read n (from h.block (first_at n)))

second_held : {n : ℕ} {m : Member} → HeldMember n m → record_within n m.second ≡ m.second
unfolding member_of
second_held {n} h = rw h.decodes (within_read n (from h.block (second_at n)))

-- The member's own record: its rows are the known ones and the newest record's, with one count of the board's replaced.

joined_held : (n i r count : ℕ) (known newest : Matrix) → inside n i ≡ true → inside n r ≡ true → MatrixHeld n known → MatrixHeld n newest
    → MatrixHeld n (joined n i r count known newest)
unfolding joined
joined_held n i r count known newest p q k w = (
  (λ j o. rw (ne_eqb j r (λ e. apart (ap (inside n) e ∙ q) o))
      (⊎_elim (λ e. e ∙ k.0 j o) (λ e. e ∙ w.0 j o) (larger_either n (known j) (newest j)))),
  (λ j. on (eqb j r)
      (λ e. rw e (within_put n 0 (newest r) i count p (w.1 r)))
      (λ e. rw e (⊎_elim
      (λ d. rw d (k.1 j)) (λ d. rw d (w.1 j)) (larger_either n (known j) (newest j))))),
)

matrix_of_lem : (n : ℕ) (r : Rec) → record_within n r ≡ r → matrix_within n r.matrix ≡ r.matrix
unfolding record_within
matrix_of_lem n r h = ap (λ r. r.matrix) h

own_held : {n : ℕ} {m : Member} (i : ℕ) (newest : Rec) → HeldMember n m → inside n i ≡ true → inside n m.slot ≡ true
    → record_within n newest ≡ newest → record_within n (own_record n i m newest) ≡ own_record n i m newest
unfolding record_within own_record
own_held {n} {m} i newest h p q w = λ t. record {
  member = i;
  slot = m.slot;
  operation = m.operation;
  count = m.own m.slot;
  value = pending_held h t;
  matrix = matrix_whole n _ (joined_held n i m.slot (m.own m.slot) m.known newest.matrix p q (known_held h)
      (matrix_parts n newest.matrix (matrix_of_lem n newest w))) t;
}

replied_held : {n : ℕ} {m : Member} (i : ℕ) (newest stored : Rec) (seals : ℕ)
    → HeldMember n m → inside n i ≡ true → inside n m.slot ≡ true
    → record_within n newest ≡ newest → record_within n stored ≡ stored → HeldMember n (replied n i m newest stored seals)
unfolding replied passed
replied_held {n} {m} i newest stored seals h p q a b = on (eqb (halt_number n i m newest stored seals) 0)
    (λ e. rw e (noted_held 3 (own_record n i m newest) stored h (own_held i newest h p q a) b))
    (λ e. rw e (failed_held (halt_number n i m newest stored seals) h))

-- The host: entries and stored records that words can hold.

pub record HeldHost (n : ℕ) (host : ℕ → Entry) (stored : ℕ → Rec) : Type 0 where
  pub newest : (r : ℕ) → record_within n (host r).newest ≡ (host r).newest
  pub host_off : (r : ℕ) → inside n r ≡ false → host r ≡ no_entry
  pub whole : (r : ℕ) → record_within n (stored r) ≡ stored r
  pub stored_off : (r : ℕ) → inside n r ≡ false → stored r ≡ zero_record

module _ {n : ℕ} {host : ℕ → Entry} {stored : ℕ → Rec} (h : HeldHost n host stored) where
  pub host_back : within n no_entry (λ r. entry_of n (words (entry_words n (host r) (stored r)))) ≡ host
  host_back = within_same n no_entry (λ r. entry_of n (words (entry_words n (host r) (stored r)))) host
      (λ r p q. entry_read n (host r) (stored r) (record_of-words n (host r).newest ∙ h.newest r))
      ∙ blank_off n no_entry host h.host_off

  pub stored_back : within n zero_record (λ r. stored_of n (words (entry_words n (host r) (stored r)))) ≡ stored
  stored_back = within_same n zero_record (λ r. stored_of n (words (entry_words n (host r) (stored r)))) stored
      (λ r p q. stored_read n (host r) (stored r) (record_of-words n (stored r) ∙ h.whole r))
      ∙ blank_off n zero_record stored h.stored_off

  -- one slot changed
  pub slot_held : (r : ℕ) (e : Entry) (s : Rec) → inside n r ≡ true → record_within n e.newest ≡ e.newest → record_within n s ≡ s
      → HeldHost n (put host r e) (put stored r s)
  slot_held r e s p g k = record {
    newest = put_all (λ k e. record_within n e.newest ≡ e.newest) host r e g (λ k d. h.newest k);
    host_off = put_all (λ k e. inside n k ≡ false → e ≡ no_entry) host r e (λ q. absurd (apart p q)) (λ k d. h.host_off k);
    whole = put_all (λ k s. record_within n s ≡ s) stored r s k (λ k d. h.whole k);
    stored_off = put_all (λ k s. inside n k ≡ false → s ≡ zero_record) stored r s (λ q. absurd (apart p q)) (λ k d. h.stored_off k);
  }

-- The board.

pub record HeldBoard (n : ℕ) (b : Board) : Type 0 where
  pub members : (i : ℕ) → inside n i ≡ true → HeldMember n (b.members i)
  pub members_off : (i : ℕ) → inside n i ≡ false → b.members i ≡ idle
  pub host : HeldHost n b.host b.stored

-- it reads back from its words
pub board_read : (n : ℕ) (b : Board) → HeldBoard n b → board_of n (words (table_words n b)) ≡ b
board_read n b h = table_read n b ∙ (λ t. record {
  members = members t;
  host = host_back h.host t;
  stored = stored_back h.host t;
})
  where
    members : within n idle (λ i. member_of n (words (member_words n (b.members i)))) ≡ b.members
    members = within_same n idle (λ i. member_of n (words (member_words n (b.members i)))) b.members
        (λ i p q. member_back (h.members i (inside_in n i p q)))
        ∙ blank_off n idle b.members h.members_off

-- one member changed, and with it the host
member_held : (n : ℕ) (b : Board) → HeldBoard n b → (i : ℕ) (m : Member) → inside n i ≡ true → HeldMember n m
    → (host : ℕ → Entry) (stored : ℕ → Rec) → HeldHost n host stored
    → HeldBoard n (record { members = put b.members i m; host = host; stored = stored })
member_held n b h i m p g host stored k = record {
  members = put_all (λ k m. inside n k ≡ true → HeldMember n m) b.members i m (λ q. g) (λ k d. h.members k);
  members_off = put_all (λ k m. inside n k ≡ false → m ≡ idle) b.members i m (λ q. absurd (apart p q)) (λ k d. h.members_off k);
  host = k;
}

-- The opening.

idle_held : (n : ℕ) → HeldMember n idle
idle_held n = record { block = λ i. 0; decodes = sym (member_zero n) }

-- what holds of the blank and of each on 1 to n holds everywhere
within_all : {A : Type 0} (Q : A → Type 0) (n : ℕ) (d : A) (f : ℕ → A) → Q d → ((k : ℕ) → Q (f k)) → (k : ℕ) → Q (within n d f k)
unfolding within
within_all Q n d f blank each k = split Q (inside n k) (λ p. each k) (λ p. blank)

pub opened_held : (n : ℕ) → HeldBoard n (opened n)
unfolding opened no_entry opening_entry
opened_held n = record {
  members = λ i p. idle_held n;
  members_off = λ i p. refl;
  host = record {
    newest = within_all (λ e. record_within n e.newest ≡ e.newest) n no_entry opening_entry (within_zero_record n) (within_opening n);
    host_off = λ r p. within_off n no_entry opening_entry r p;
    whole = within_all (λ r. record_within n r ≡ r) n zero_record opening (within_zero_record n) (within_opening n);
    stored_off = λ r p. within_off n zero_record opening r p;
  };
}

-- Every call.

completed_held : {n : ℕ} {m : Member} → HeldMember n m → inside n m.slot ≡ true → HeldMember n (completed m)
unfolding completed member_of
completed_held {n} {m} h p = dropped_held (on (eqb (w operation_at) write)
    (λ e. by_words took_over h _ (tookOver-write n w (inside_low n (w slot_at) slot) (inside_high n (w slot_at) slot) e))
    (λ e. by_words took_over h _ (tookOver-read n w (inside_low n (w slot_at) slot) (inside_high n (w slot_at) slot) e)))
  where
    w : ℕ → ℕ
    w = h.block

    slot : inside n (h.block slot_at) ≡ true
    slot = ap (λ m. inside n m.slot) (sym h.decodes) ∙ p

outcome_held : {n : ℕ} {m : Member} (won : Bool) → HeldMember n m → inside n m.slot ≡ true → HeldMember n (outcome m won)
unfolding outcome
outcome_held true h p = completed_held h p
outcome_held false h p = dropped_held h

-- the value of every call that the code makes: the contracts of begin have it so
pub given_held : (w : ℕ → ℕ) → ValueHeld (value_of w)
unfolding value_of
given_held w = numbered_same 8 0 (λ i. numbered 8 0 w (i + 1)) w (numbered_at 8 0 w)

-- a call whose value has 8 words
abbrev pub CallHeld : Call → Type 0
CallHeld (begin i r t v) = ValueHeld v
CallHeld (deliver i) = Unit {0}
CallHeld (crash i) = Unit {0}

module _ (n : ℕ) (b : Board) (s : SoundBoard n b) (h : HeldBoard n b) (i : ℕ) (p : inside n i ≡ true) where
  mine : HeldMember n (b.members i)
  mine = h.members i p

  slot-inside : inside 5 (b.members i).phase ≡ true → inside n (b.members i).slot ≡ true
  slot-inside q = inside_in n (b.members i).slot ((s.members i p).operates q).slot_least (s.members i p).slot

  -- in phase 1 to 5
  under-way : 1 ≤ (b.members i).phase → (b.members i).phase ≤ 5 → inside n (b.members i).slot ≡ true
  under-way low high = slot-inside (inside_in 5 (b.members i).phase low high)

  -- the step of the member alone
  one-held : (m : Member) → HeldMember n m → HeldBoard n (with_member b i m)
  unfolding with_member
  one-held m g = member_held n b h i m p g b.host b.stored h.host

  submit-held : (b.members i).phase ≡ 1 → HeldBoard n (submit_taken b i)
  unfolding submit_taken answered submitted
  submit-held e =
      let m = b.members i in
      let r = m.slot in
      let newest = h.host.newest r in
      let stored = h.host.whole r in
      let entry = submitted (b.host r) i (m.own r) in
      member_held n b h i (answered m (b.host r).newest (b.stored r)) p
      (noted_held 2 (b.host r).newest (b.stored r) mine newest stored) (put b.host r entry) b.stored
      (rw (put_same b.stored r) at (slot_held h.host r entry (b.stored r) (under-way (omega arith) (omega arith)) newest stored))

  reply-held : (b.members i).phase ≡ 2 → HeldBoard n (reply_taken n b i)
  unfolding reply_taken
  reply-held e =
      let m = b.members i in
      one-held (replied n i m m.first m.second 3)
      (replied_held i m.first m.second 3 mine p (under-way (omega arith) (omega arith)) (first_held mine) (second_held mine))

  sent-held : record_within n (sent_record i (b.members i)) ≡ sent_record i (b.members i)
  unfolding record_within sent_record
  sent-held = λ t. record {
    member = i;
    slot = (b.members i).slot;
    operation = (b.members i).operation;
    count = (b.members i).own (b.members i).slot;
    value = ap (λ r. r.value) (first_held mine) t;
    matrix = ap (λ r. r.matrix) (first_held mine) t;
  }

  commit_held : (b.members i).phase ≡ 3 → HeldBoard n (commit_taken b i)
  unfolding commit_taken entry_after stored_after
  commit_held e =
      let m = b.members i in
      let r = m.slot in
      let c = sent_record i m in
      let entry : Entry = record { submit_member = 0; submit_count = 0; newest = c } in
      let stored = cond (becomes_stored c) c (b.stored r) in
      by-verdict (HeldBoard n) b i
      (λ won. rw won (member_held n b h i (judged m true) p (judged_held true mine) (put b.host r entry) (put b.stored r stored)
      (slot_held h.host r entry stored (under-way (omega arith) (omega arith)) sent-held
      (split {A = Rec} (λ s. record_within n s ≡ s) (becomes_stored c) (λ t. sent-held) (λ t. h.host.whole r)))))
      (λ lost. one-held (judged m false) (judged_held false mine))

-- Every step.
pub taken_held : {kind : Kind} {n : ℕ} {b next : Board} {call : Call} → Taken kind n b call next → SoundBoard n b → HeldBoard n b
    → CallHeld call → HeldBoard n next
unfolding board_begun outcome_taken board_crashed
taken_held {n = n} {b = b} (begins i r t v k) s h eight =
    one-held n b s h i k.member (begun (b.members i) r t v) (begun_held r t v (h.members i k.member) k.slot eight)
taken_held {n = n} {b = b} (submits i p e) s h _ = submit-held n b s h i p e
taken_held {n = n} {b = b} (replies i p e) s h _ = reply-held n b s h i p e
taken_held {n = n} {b = b} (commits i p e) s h _ = commit_held n b s h i p e
taken_held {n = n} {b = b} (ends i p l six) s h _ =
    let m = b.members i in
    let high = (s.members i p).phase in
    one-held n b s h i p (outcome m (eqb m.phase 4))
    (outcome_held (eqb m.phase 4) (h.members i p) (under-way n b s h i p (omega arith) (omega arith)))
taken_held {n = n} {b = b} (crashes i p) s h _ = one-held n b s h i p (crashed_of (b.members i)) (crashed_held (h.members i p))
