-- The round trip of messages by value, `round_trip`. A message's fields are those of a message of the model by its kind (`kept`, `Handed`);
-- between those messages and their bytes stand `read_back` and `written-again`. `Held.antt` says the first half of the struct itself.
use Prim.Native.Nat.{ℕ, ◌+◌, ◌≤◌}
use native.Mathlib.Omega.{arith}
use mathlib.Core.Path.{◌≡◌, refl, sym, ap, ◌∙◌}
use mathlib.Core.Bool.{true, ◌&&◌}
use mathlib.Core.List.{List, ◌++◌}
use mathlib.Core.Option.{Option, some}
use lib.Dec.{eqb, ltb}
use lib.ListN.{length, take, drop}
use lib.Seq.{take_at}
use borrow.Author.Tests.{eq-eqb, le-ltb, eqb-true}
use Rattle.lists.specs.Functions.{from, inside, each}
use Rattle.lists.specs.Parts.{words, tabulate}
use Rattle.lists.proofs.Functions.{on, first, second, both, apart, inside_in, inside_low, inside_high}
use Rattle.lists.proofs.Parts.{length-tabulate}
use Rattle.model.specs.Records.{record_within}
use Rattle.model.specs.RecordWords.{record_words, matrix_word}
use Rattle.model.specs.Kinds.{is_operation}
use Rattle.model.specs.Halves.{fit_record}
use Rattle.model.specs.Messages.{Message, submit, reply, commit, outcome, record_length, length_of, record_at, number_bytes}
use Rattle.model.specs.Messages.{byte_in, headed}
use Rattle.model.specs.Messages.{record_byte, record_word, record_bytes, record_from, encode, message_from, fit_message}
use Rattle.model.specs.Messages.{read_number, decode}
use Rattle.model.specs.Messages.{fit_given, written_length, write_number, writable, written_to, small_record, small, fits, Bytes}
use Rattle.model.specs.Messages.{message_within}
use Rattle.laws.proofs.Records.{within_read}
use Rattle.laws.proofs.Messages.{Readable, readable, by_kind, decoded, writable_of, from_submit, from_reply, from_commit, from_outcome}
use Rattle.laws.proofs.Messages.{submit_parts, reply_parts, commit_parts, outcome_parts, read_back_lem, written_again}
use Rattle.messages.specs.Meaning.{Fields, fields_of, message_of, fields_read, number_written}
use Rattle.messages.specs.RoundTrip.{sent, fields_within, small_fields, ReadBack, WrittenAgain}
use Rattle.messages.specs.RoundTrip.{example_record, example, room, example_bytes, Case, RoundTrip}
use Rattle.messages.proofs.Laws.{given_submit, given_reply, given_commit, given_outcome, given_none}
use Rattle.messages.proofs.WrittenBytes.{bytes_encode}

-- Fields and messages.

-- the writer takes a message's parts from where the reader puts them
kept : (m : Message) → message_of (fields_of (some m)) ≡ some m
unfolding message_of fields_of
kept (submit i r t c) = refl
kept (reply a b) = refl
kept (commit a) = refl
kept (outcome o) = refl

-- The message of the fields f, by their kind: its numbers are small as theirs are, and the fields of what the board has of it are what the
-- board has of f.
record Handed (n : ℕ) (f : Fields) : Type 0 where
  message : Message
  given : message_of f ≡ some message
  little : small n message ≡ true
  cut : fields_of (some (message_within n message)) ≡ fields_within n f

-- f's parts under the kind k
of_kind : Fields → ℕ → Fields
of_kind f k = record {
  kind = k;
  member = f.member;
  slot = f.slot;
  operation = f.operation;
  count = f.count;
  result = f.result;
  newest = f.newest;
  stored = f.stored;
}

module _ (n : ℕ) (f : Fields) where
  kind-known : (k : ℕ) → f.kind ≡ k → fields_within n (of_kind f k) ≡ fields_within n f
  unfolding of_kind
  kind-known k e = sym (ap (λ k. fields_within n (of_kind f k)) e)

  handed : small_fields n f ≡ true → fit_given n (message_of f) ≡ true → Handed n f
  unfolding of_kind small_fields fit_given small fields_of fields_within message_within
  handed s h =
      let c = ltb f.count 4294967296 in
      let a = small_record n f.newest in
      let b = small_record n f.stored in
      let r = second c (a && b) s in
      by_kind f.kind
      (λ e. record {
        message = submit f.member f.slot f.operation f.count;
        given = given_submit f e;
        little = first c (a && b) s;
        cut = kind-known 1 e;
      })
      (λ e. record { message = reply f.newest f.stored; given = given_reply f e; little = r; cut = kind-known 2 e })
      (λ e. record { message = commit f.newest; given = given_commit f e; little = first a b r; cut = kind-known 3 e })
      (λ e. record { message = outcome f.result; given = given_outcome f e; little = refl; cut = kind-known 4 e })
      (λ p q r t. absurd (apart h (ap (fit_given n) (given_none f p q r t))))

-- The first half.

took : (n : ℕ) (m : Option Message) (size : ℕ) → write_number n m size ≡ 0 → writable n m size ≡ m
unfolding writable
took n m size h = rw (eq-eqb (write_number n m size) 0 h)

sent_is_lem : (n : ℕ) (f : Fields) (out : List ℕ) (m : Message) → message_of f ≡ some m
    → number_written n f out ≡ 0 → sent n f out ≡ encode n m
unfolding written_length written_to
sent_is_lem n f out m e h =
    ap (λ o. take (written_length n o) (written_to n o out)) (took n (message_of f) (length out) h ∙ e)
    ∙ take_at (encode n m) (drop (length (encode n m)) out) (length (encode n m)) refl

back : (n : ℕ) (f : Fields) (out : List ℕ) → small_fields n f ≡ true → number_written n f out ≡ 0 → ReadBack n f out
unfolding fits fit_given
back n f out s h =
    let w = writable_of n (message_of f) (length out) h in
    let g = handed n f s w.fit in
    let m = g.message in
    let fit : fit_message n m ≡ true = sym (ap (fit_given n) g.given) ∙ w.fit in
    let high = inside_high 12 n w.size in
    let d : decode n (encode n m) ≡ some (message_within n m) = read_back_lem n m (inside_low 12 n w.size) high (both fit g.little) in
    let e = sent_is_lem n f out m g.given h in
    record {
      bytes = rw e (bytes_encode n m high fit);
      number = ap (read_number n) e ∙ (decoded n (encode n m) (message_within n m) d).0;
      fields = ap (fields_read n) e ∙ ap fields_of d ∙ g.cut;
    }

-- The second half.

-- a message that the writer takes
takes : (n : ℕ) (m : Message) (size : ℕ) → inside 12 n ≡ true → fit_message n m ≡ true → length (encode n m) ≤ size
    → write_number n (some m) size ≡ 0
unfolding write_number fit_given written_length
takes n m size a b h = rw (a, b, le-ltb size (length (encode n m)) h)

module _ (n : ℕ) (l : List ℕ) (h : read_number n l ≡ 0) where
  m : Message
  m = message_from n (words l)

  read-m : decode n l ≡ some m
  unfolding decode m
  read-m = rw (eq-eqb (read_number n l) 0 h)

  given-m : message_of (fields_read n l) ≡ some m
  given-m = ap (λ o. message_of (fields_of o)) read-m ∙ kept m

  again : Bytes l → (out : List ℕ) → length l ≤ length out → WrittenAgain n l out
  unfolding m written_length written_to
  again whole out long =
      let e : encode n m ≡ l = written_again n l m whole read-m in
      let r = readable n l h in
      let taken = takes n m (length out) (inside_in 12 n r.low r.high) r.fit (rw e long) in
      let number : number_written n (fields_read n l) out ≡ 0 = ap (λ o. write_number n o (length out)) given-m ∙ taken in
      let t = took n (message_of (fields_read n l)) (length out) number ∙ given-m in
      record {
        number = number;
        long = ap (written_length n) t ∙ ap length e;
        output = ap (λ o. written_to n o out) t ∙ ap (λ p. p ++ drop (length p) out) e;
      }

-- what the reader gives has nothing past the board
from_within : (n : ℕ) (w : ℕ → ℕ) → record_within n (record_from n w) ≡ record_from n w
unfolding record_from
from_within n w = within_read n (record_word w)

within_fields : (n : ℕ) (m : Message) → fields_within n (fields_of (some m)) ≡ fields_of (some (message_within n m))
unfolding fields_within fields_of message_within
within_fields n (submit i r t c) = refl
within_fields n (reply a b) = refl
within_fields n (commit a) = refl
within_fields n (outcome o) = refl

within_message : (n : ℕ) (l : List ℕ) → Readable n l → message_within n (message_from n (words l)) ≡ message_from n (words l)
unfolding message_within
within_message n l h =
    let w = words l in
    by_kind (w 3)
    (λ e. rw (from_submit n w e))
    (λ e. rw (from_reply n w e, from_within n (from w record_at), from_within n (from w (record_at + record_length n))))
    (λ e. rw (from_commit n w e, from_within n (from w record_at)))
    (λ e. rw (from_outcome n w e))
    (λ p q r s. absurd (omega (arith, h.kind_low, h.kind_high)))

whole : (n : ℕ) (l : List ℕ) → fields_within n (fields_read n l) ≡ fields_read n l
unfolding decode
whole n l = on (eqb (read_number n l) 0)
    (λ e. let h = eqb-true (read_number n l) 0 e in
    rw e (within_fields n (message_from n (words l)) ∙ ap (λ m. fields_of (some m)) (within_message n l (readable n l h))))
    (λ e. rw e (unfold fields_within fields_of in refl))

-- The examples, computed.

example_small : (kind : ℕ) → small_fields 2 (example kind) ≡ true
unfolding small_fields small_record each example example_record
example_small kind = refl

-- a record of the example, in bytes
example_bytes_lem : (i : ℕ) → record_bytes 2 (example_record i) ≡ example_bytes i
unfolding record_bytes record_length record_byte headed byte_in number_bytes from record_words tabulate matrix_word example_record
    example_bytes
example_bytes_lem i = refl

-- enough: the message of that kind, its bytes, and that they have room
case : (kind : ℕ) (m : Message) (bytes : List ℕ) → message_of (example kind) ≡ some m → fit_message 2 m ≡ true → encode 2 m ≡ bytes
    → length bytes ≤ 115 → Case kind bytes
unfolding inside room
case kind m bytes e fit l h =
    let taken = takes 2 m (length room) refl fit (rw (l, length-tabulate) h) in
    let number : number_written 2 (example kind) room ≡ 0 = ap (λ o. write_number 2 o (length room)) e ∙ taken in
    record { small = example_small kind; number = number; wrote = sent_is_lem 2 (example kind) room m e number ∙ l }

-- THE ROUND TRIP of messages by value.
pub round_trip : RoundTrip
unfolding example example_record example_bytes message_of fit_message fit_record inside is_operation record_length length_of number_bytes
round_trip =
    let a = example_record 1 in
    let b = example_record 2 in
    record {
      back = back;
      again = λ n l out b h. again n l h b out;
      whole = whole;
      submit = case 1 (submit 2 1 1 66051) _ refl refl (submit_parts 2 2 1 1 66051) (omega arith);
      reply = case 2 (reply a b) _ refl refl (reply_parts 2 a b ∙ rw (example_bytes_lem 1, example_bytes_lem 2)) (omega arith);
      commit = case 3 (commit a) _ refl refl (commit_parts 2 a ∙ rw (example_bytes_lem 1)) (omega arith);
      outcome = case 4 (outcome 2) _ refl refl (outcome_parts 2 2) (omega arith);
    }
