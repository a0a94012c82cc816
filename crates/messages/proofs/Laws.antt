-- What is said once of messages by value and in bytes.
use Prim.Native.Nat.{ℕ, ◌+◌, ◌≤◌}
use mathlib.Core.Path.{◌≡◌, sym, ap, ◌∙◌}
use mathlib.Core.Bool.{true, false}
use mathlib.Core.List.{List, ◌++◌}
use mathlib.Core.Option.{none, some}
use lib.Dec.{eqb}
use borrow.Author.Tests.{ne_eqb}
use native.Mathlib.Omega.{arith}
use lib.ListN.{length, length-append, get_or-append}
use lib.Seq.{get_or-append-add}
use Rattle.lists.specs.Functions.{pasted, inside}
use Rattle.lists.specs.Parts.{words}
use Rattle.lists.proofs.Functions.{apart, inside_in, inside_low, inside_high, pasted_join, pasted_same}
use Rattle.lists.proofs.Parts.{tabulate-at, replaced_by}
use Rattle.model.specs.RecordWords.{record_words}
use Rattle.model.specs.Records.{Rec}
use Rattle.model.specs.Messages.{Message, submit, reply, commit, outcome, kind_of, length_of, record_byte, record_length}
use Rattle.model.specs.Messages.{record_bytes, encode, fit_message, fit_given, written_length, write_number, written_to, read_number}
use Rattle.model.specs.Messages.{frame_length, submit_length, outcome_length, record_at}
use Rattle.laws.proofs.Messages.{heading, by_kind, length_of_most, length-record_bytes, length-encode, writable_of, readable, sized}
use Rattle.laws.proofs.Messages.{from_submit, from_reply, from_commit, from_outcome}
use Rattle.rules.proofs.Refusals.{refuses}
use Rattle.message_numbers.specs.Kinds.{kind_number}
use Rattle.message_numbers.specs.declared.kind.MessageKind.{MessageKind}
use Rattle.message_numbers.specs.declared.kind.MessageKind.TheVariants.{Submit, Reply, Commit, Outcome}
use Rattle.messages.specs.Meaning.{Fields, Fronted, message_of}

-- Runs of bytes one after the other, and a list whose front was written.

pub pasted_append : (p q : List ℕ) (k : ℕ) (w : ℕ → ℕ) → k ≡ length p
    → pasted k (length q) (words q) (pasted 0 (length p) (words p) w) ≡ pasted 0 (length (p ++ q)) (words (p ++ q)) w
pasted_append p q k w e =
    let s : k ≡ 0 + length p = omega arith in
    ap (λ k. pasted k (length q) (words q) (pasted 0 (length p) (words p) w)) s
    ∙ ap (pasted (0 + length p) (length q) (words q))
    (pasted_same 0 (length p) (words p) (words (p ++ q)) w (λ i h. sym (get_or-append p q 0 i h)))
    ∙ pasted_join 0 (length p) (length q) (words (p ++ q)) (words q) w (λ i h. sym (get_or-append-add p q i 0))
    ∙ ap (λ k. pasted 0 k (words (p ++ q)) w) (sym (length-append p q))

pub record_bytes_lem : (n a : ℕ) (r : Rec) (w : ℕ → ℕ)
    → pasted a (record_length n) (record_byte (words (record_words n r))) w
    ≡ pasted a (length (record_bytes n r)) (words (record_bytes n r)) w
unfolding record_bytes
record_bytes_lem n a r w =
    pasted_same a (record_length n) (record_byte (words (record_words n r))) (words (record_bytes n r)) w
    (λ i h. sym (tabulate-at (record_length n) (record_byte (words (record_words n r))) i h))
    ∙ ap (λ k. pasted a k (words (record_bytes n r)) w) (sym (length-record_bytes n r))

pub fronted_same : {p q : List ℕ} (l t : List ℕ) → p ≡ q → Fronted p l t → Fronted q l t
fronted_same l t e h = h ∙ ap (λ p. pasted 0 (length p) (words p) (words l)) e

-- a heading whose length is known
pub headed : {size k : ℕ} (kind x : ℕ) (l t : List ℕ) → size ≡ k → Fronted (heading size kind x) l t → Fronted (heading k kind x) l t
headed kind x l t e = fronted_same l t (ap (λ s. heading s kind x) e)

-- more bytes written behind those at the front, and a record
pub fronted_more : (p q l t u : List ℕ) (k : ℕ) → k ≡ length p → Fronted p l t → words u ≡ pasted k (length q) (words q) (words t)
    → Fronted (p ++ q) l u
fronted_more p q l t u k e f h = h ∙ ap (pasted k (length q) (words q)) f ∙ pasted_append p q k (words l) e

pub fronted_record : (n : ℕ) (p : List ℕ) (r : Rec) (l t u : List ℕ) (k : ℕ) → k ≡ length p → Fronted p l t
    → words u ≡ pasted k (record_length n) (record_byte (words (record_words n r))) (words t) → Fronted (p ++ record_bytes n r) l u
fronted_record n p r l t u k e f h = fronted_more p (record_bytes n r) l t u k e f (h ∙ record_bytes_lem n k r (words t))

-- The message that the writer is handed, by its kind.

module _ (f : Fields) where
  is : (a b : ℕ) → f.kind ≡ a → eqb f.kind b ≡ eqb a b
  is a b e = ap (λ k. eqb k b) e

  pub given_submit : f.kind ≡ 1 → message_of f ≡ some (submit f.member f.slot f.operation f.count)
  unfolding message_of
  given_submit e = rw (is 1 1 e)

  pub given_reply : f.kind ≡ 2 → message_of f ≡ some (reply f.newest f.stored)
  unfolding message_of
  given_reply e = rw (is 2 1 e, is 2 2 e)

  pub given_commit : f.kind ≡ 3 → message_of f ≡ some (commit f.newest)
  unfolding message_of
  given_commit e = rw (is 3 1 e, is 3 2 e, is 3 3 e)

  pub given_outcome : f.kind ≡ 4 → message_of f ≡ some (outcome f.result)
  unfolding message_of
  given_outcome e = rw (is 4 1 e, is 4 2 e, is 4 3 e, is 4 4 e)

  pub given_none : (f.kind ≡ 1 → ⊥) → (f.kind ≡ 2 → ⊥) → (f.kind ≡ 3 → ⊥) → (f.kind ≡ 4 → ⊥) → message_of f ≡ none
  unfolding message_of
  given_none a b c d = rw (ne_eqb f.kind 1 a, ne_eqb f.kind 2 b, ne_eqb f.kind 3 c, ne_eqb f.kind 4 d)

  pub given_unknown : inside 4 f.kind ≡ false → message_of f ≡ none
  given_unknown h = given_none
      (λ e. apart (inside_in 4 f.kind (omega arith) (omega arith)) h)
      (λ e. apart (inside_in 4 f.kind (omega arith) (omega arith)) h)
      (λ e. apart (inside_in 4 f.kind (omega arith) (omega arith)) h)
      (λ e. apart (inside_in 4 f.kind (omega arith) (omega arith)) h)

  -- a message that fits has a kind
  pub given_kind : (n : ℕ) → fit_given n (message_of f) ≡ true → inside 4 f.kind ≡ true
  unfolding fit_given
  given_kind n h = by_kind f.kind
      (λ e. inside_in 4 f.kind (omega arith) (omega arith))
      (λ e. inside_in 4 f.kind (omega arith) (omega arith))
      (λ e. inside_in 4 f.kind (omega arith) (omega arith))
      (λ e. inside_in 4 f.kind (omega arith) (omega arith))
      (λ a b c d. absurd (apart h (ap (fit_given n) (given_none a b c d))))

  pub given_length : (n : ℕ) → inside 4 f.kind ≡ true → written_length n (message_of f) ≡ 2 + length_of f.kind n
  unfolding written_length kind_of
  given_length n h = by_kind f.kind
      (λ e. said (submit f.member f.slot f.operation f.count) (given_submit e) e)
      (λ e. said (reply f.newest f.stored) (given_reply e) e)
      (λ e. said (commit f.newest) (given_commit e) e)
      (λ e. said (outcome f.result) (given_outcome e) e)
      (λ a b c d. absurd (omega (arith, inside_low 4 f.kind h, inside_high 4 f.kind h)))
    where
      said : (m : Message) → message_of f ≡ some m → f.kind ≡ kind_of m → written_length n (message_of f) ≡ 2 + length_of f.kind n
      said m e k = ap (written_length n) e ∙ length-encode n m ∙ ap (λ k. 2 + length_of k n) (sym k)

-- The fields f of a message that the writer takes, and the output l: it fits, there is room, and what is to be written.
pub record Taken (n : ℕ) (f : Fields) (l : List ℕ) : Type 0 where
  pub low : 1 ≤ n
  pub high : n ≤ 12
  pub kind_low : 1 ≤ f.kind
  pub kind_high : f.kind ≤ 4
  pub fit : (m : Message) → message_of f ≡ some m → fit_message n m ≡ true
  pub due : written_length n (message_of f) ≡ 2 + length_of f.kind n
  pub room : (k : ℕ) → f.kind ≡ k → 2 + length_of k n ≤ length l
  pub written : (m : Message) (t : List ℕ) → message_of f ≡ some m → length t ≡ length l → Fronted (encode n m) l t
      → t ≡ written_to n (message_of f) l

pub taken : (n : ℕ) (f : Fields) (l : List ℕ) → write_number n (message_of f) (length l) ≡ 0 → Taken n f l
unfolding fit_given written_to written_length
taken n f l h =
    let w = writable_of n (message_of f) (length l) h in
    let k = given_kind f n w.fit in
    record {
      low = inside_low 12 n w.size;
      high = inside_high 12 n w.size;
      kind_low = inside_low 4 f.kind k;
      kind_high = inside_high 4 f.kind k;
      fit = λ m e. sym (ap (fit_given n) e) ∙ w.fit;
      due = given_length f n k;
      room = λ k e. rw (given_length f n (given_kind f n w.fit) ∙ ap (λ k. 2 + length_of k n) e) at w.long;
      written = λ m t e same p.
          let long = rw (ap (written_length n) e) at w.long in
          replaced_by l t 0 (encode n m) (omega arith) same p ∙ sym (ap (λ m. written_to n m l) e);
    }

-- Bytes that the reader takes, by their kind: they are as long as it asks.

sized_as : (n : ℕ) (l : List ℕ) (read kind : MessageKind) → 0 ≡ read_number n l → kind_number read ≡ words l 3 → read ≡ kind
    → length l ≡ 2 + length_of (kind_number kind) n
sized_as n l read kind h k e = sized n l (kind_number kind) (readable n l (sym h)).whole (sym k ∙ ap kind_number e)

pub sized_submit : (n : ℕ) (l : List ℕ) (read : MessageKind) → 0 ≡ read_number n l → kind_number read ≡ words l 3 → read ≡ Submit
    → frame_length + submit_length ≤ length l
unfolding length_of
sized_submit n l read h k e = omega (arith, sized_as n l read Submit h k e)

pub sized_reply : (n : ℕ) (l : List ℕ) (read : MessageKind) → 0 ≡ read_number n l → kind_number read ≡ words l 3 → read ≡ Reply
    → (n ≤ 12) × (record_at + record_length n + record_length n ≤ length l)
unfolding length_of record_length
sized_reply n l read h k e = ((readable n l (sym h)).high, omega (arith, sized_as n l read Reply h k e))

pub sized_commit : (n : ℕ) (l : List ℕ) (read : MessageKind) → 0 ≡ read_number n l → kind_number read ≡ words l 3 → read ≡ Commit
    → (n ≤ 12) × (record_at + record_length n ≤ length l)
unfolding length_of record_length
sized_commit n l read h k e = ((readable n l (sym h)).high, omega (arith, sized_as n l read Commit h k e))

pub sized_outcome : (n : ℕ) (l : List ℕ) (read : MessageKind) → 0 ≡ read_number n l → kind_number read ≡ words l 3 → read ≡ Outcome
    → frame_length + outcome_length ≤ length l
unfolding length_of
sized_outcome n l read h k e = omega (arith, sized_as n l read Outcome h k e)

-- What the writer refuses before it looks at a field: a board of no such size, and a kind that is none.

pub refused_size : (n : ℕ) (f : Fields) (room : ℕ) → inside 12 n ≡ false → write_number n (message_of f) room ≡ 1
unfolding write_number
refused_size n f room h = rw h

pub refused_kind : (n : ℕ) (f : Fields) (room : ℕ) → inside 12 n ≡ true → inside 4 f.kind ≡ false
    → write_number n (message_of f) room ≡ 15
unfolding write_number fit_given
refused_kind n f room h k = rw (given_unknown f k, h)

-- The laws that the functions are proved by: the message of each kind, and of none; what refuses it, and what is refused before its fields
-- are looked at; and what is written.
pub ruleset given = (given_submit, given_reply, given_commit, given_outcome, given_unknown)

pub ruleset judging = (given_unknown, given_kind, given_length, length_of_most, inside_in, inside_low, inside_high)

pub ruleset refusing = (refused_size, refused_kind, inside_low, inside_high)

pub ruleset reading = (readable, from_submit, from_reply, from_commit, from_outcome, sized_submit, sized_reply, sized_commit, sized_outcome)

pub ruleset writing = (taken, length_of_most, refuses)
