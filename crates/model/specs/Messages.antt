-- Messages, as bytes. Document 01: "Two bytes of length (of what follows), version byte 1, kind; numbers big-endian."
-- The reader, the writer and the check of messages answer by the definitions below.
use Rattle.std.specs.Prelude.{ℕ, ◌+◌, ◌-◌, ◌*◌, ◌/◌, ◌%◌, ◌<◌, Bool, true, false, cond, not, ◌&&◌, ◌||◌, List, [], ◌∷◌, ◌++◌, eqb}
use Rattle.std.specs.Prelude.{ltb, length, drop}
use Rattle.std.proofs.Math.Option.{Option, none, some}
use Rattle.lists.specs.Functions.{from, inside, each}
use Rattle.lists.specs.Parts.{words, tabulate}
use Rattle.model.specs.Records.{Rec, record_within}
use Rattle.model.specs.RecordWords.{record_of, record_words}
use Rattle.model.specs.Kinds.{is_size, fit_fields}
use Rattle.model.specs.Halves.{fit_record}

pub data Message : Type 0 where
  -- member, slot, type, count
  submit : ℕ → ℕ → ℕ → ℕ → Message
  -- the newest record, the stored record
  reply : Rec → Rec → Message
  commit : Rec → Message
  -- 1 accepted, 2 aborted
  outcome : ℕ → Message

unfoldable pub kind_of : Message → ℕ
kind_of (submit i r t count) = 1
kind_of (reply newest stored) = 2
kind_of (commit r) = 3
kind_of (outcome o) = 4

-- Lengths, in bytes. Every length and every place below is put together from those of what a message holds.

-- "Two bytes of length (of what follows)"
abbrev pub frame_length : ℕ
frame_length = 2

-- "version byte 1, kind"
abbrev pub header_length : ℕ
header_length = 2

-- the n of a reply and of a commit
abbrev pub n_length : ℕ
n_length = 1

-- a count, and each number of a value and of a matrix
abbrev pub number_length : ℕ
number_length = 4

-- "A record's member, slot and type are a byte each": so many of its parts are
abbrev pub byte_parts : ℕ
byte_parts = 3

-- "then count"
abbrev pub head_length : ℕ
head_length = byte_parts + number_length

-- "32 sheet bytes"
abbrev pub value_length : ℕ
value_length = 32

-- "matrix row by row"
abbrev pub matrix_length : ℕ → ℕ
matrix_length n = number_length * (n * n)

unfoldable pub record_length : ℕ → ℕ
record_length n = head_length + value_length + matrix_length n

-- What the length field says, by the kind: the header and the kind's fields.

-- "Kind 1 submit: member, slot, type (a byte each), count"
abbrev pub submit_length : ℕ
submit_length = header_length + (3 + number_length)

-- "Kind 2 reply: n, newest record, stored record"
abbrev pub reply_length : ℕ → ℕ
reply_length n = header_length + (n_length + (record_length n + record_length n))

-- "Kind 3 commit: n, record"
abbrev pub commit_length : ℕ → ℕ
commit_length n = header_length + (n_length + record_length n)

-- "Kind 4 outcome: one byte"
abbrev pub outcome_length : ℕ
outcome_length = header_length + 1

unfoldable pub length_of : ℕ → ℕ → ℕ
length_of kind n =
    cond (eqb kind 1) submit_length
    (cond (eqb kind 2) (reply_length n)
    (cond (eqb kind 3) (commit_length n)
    outcome_length))

-- where the fields of a message begin, and where the record of a commit does, or the first of a reply
abbrev pub fields_at : ℕ
fields_at = frame_length + header_length

abbrev pub record_at : ℕ
record_at = fields_at + n_length

-- Numbers of four bytes, big-endian.

unfoldable pub number_bytes : ℕ → List ℕ
number_bytes x = x / 16777216 % 256 ∷ x / 65536 % 256 ∷ x / 256 % 256 ∷ x % 256 ∷ []

unfoldable pub number_of : (ℕ → ℕ) → ℕ
number_of b = b 0 * 16777216 + b 1 * 65536 + b 2 * 256 + b 3

-- numbers one after the other: byte i of the numbers w, and number i in the bytes b
unfoldable pub byte_in : (ℕ → ℕ) → ℕ → ℕ
byte_in w i = words (number_bytes (w (i / 4))) (i % 4)

unfoldable pub number_in : (ℕ → ℕ) → ℕ → ℕ
number_in b i = number_of (from b (i * 4))

-- Records: the words of a record as they stand in the table, the first three in a byte each and the others in four.

-- f's values for the parts that are a byte each, then g's
unfoldable pub headed : (ℕ → ℕ) → (ℕ → ℕ) → ℕ → ℕ
headed f g i = cond (ltb i byte_parts) (f i) (g (i - byte_parts))

-- byte i of the record's words w, and word i in the record's bytes b
unfoldable pub record_byte : (ℕ → ℕ) → ℕ → ℕ
record_byte w = headed w (byte_in (from w byte_parts))

unfoldable pub record_word : (ℕ → ℕ) → ℕ → ℕ
record_word b = headed b (number_in (from b byte_parts))

unfoldable pub record_bytes : ℕ → Rec → List ℕ
record_bytes n r = tabulate (record_length n) (record_byte (words (record_words n r)))

unfoldable pub record_from : ℕ → (ℕ → ℕ) → Rec
record_from n b = record_of n (record_word b)

-- The whole bytes of a message.

-- what stands after the kind
unfoldable pub field_bytes : ℕ → Message → List ℕ
field_bytes n (submit i r t count) = i ∷ r ∷ t ∷ number_bytes count
field_bytes n (reply newest stored) = n ∷ record_bytes n newest ++ record_bytes n stored
field_bytes n (commit r) = n ∷ record_bytes n r
field_bytes n (outcome o) = o ∷ []

-- "Two bytes of length (of what follows)"
unfoldable pub framed : List ℕ → List ℕ
framed rest = length rest / 256 ∷ length rest % 256 ∷ rest

unfoldable pub encode : ℕ → Message → List ℕ
encode n m = framed (1 ∷ kind_of m ∷ field_bytes n m)

-- the message in the bytes b, by the kind that stands there
unfoldable pub message_from : ℕ → (ℕ → ℕ) → Message
message_from n b =
    cond (eqb (b 3) 1) (submit (b fields_at) (b (fields_at + 1)) (b (fields_at + 2)) (number_of (from b (fields_at + 3))))
    (cond (eqb (b 3) 2) (reply (record_from n (from b record_at)) (record_from n (from b (record_at + record_length n))))
    (cond (eqb (b 3) 3) (commit (record_from n (from b record_at)))
    (outcome (b fields_at))))

-- "15 .. member or slot not 1 to n, type, outcome": no count and no matrix is refused, and number 7 is not asked
unfoldable pub fit_message : ℕ → Message → Bool
fit_message n (submit i r t count) = fit_fields n i r t
fit_message n (reply newest stored) = fit_record n newest && fit_record n stored
fit_message n (commit r) = fit_record n r
fit_message n (outcome o) = inside 2 o

-- "15 .. wrong n": a reply and a commit name it
unfoldable pub right_n : ℕ → (ℕ → ℕ) → Bool
right_n n b = not (eqb (b 3) 2 || eqb (b 3) 3) || eqb (b fields_at) n

-- The reader's number, and the check's: "1 n not 1 to 12", "12 under 4 bytes, or length field not the rest; 13 version; 14 kind not 1
-- to 4; 15 wrong length for kind, wrong n, member or slot not 1 to n, type, outcome".
unfoldable pub read_number : ℕ → List ℕ → ℕ
read_number n l =
    let b = words l in
    cond (not (is_size n)) 1
    (cond (ltb (length l) 4) 12
    (cond (not (eqb (b 0 * 256 + b 1) (length l - 2))) 12
    (cond (not (eqb (b 2) 1)) 13
    (cond (not (inside 4 (b 3))) 14
    (cond (not (eqb (length l - 2) (length_of (b 3) n) && (right_n n b && fit_message n (message_from n b)))) 15
    0)))))

-- what the reader reads: a message, or none where a number refuses it
unfoldable pub decode : ℕ → List ℕ → Option Message
decode n l = cond (eqb (read_number n l) 0) (some (message_from n (words l))) none

-- The writer. It is handed a message, or none where the kind is not 1 to 4; `room` is the output's length.

-- "15 a field as above": a kind that is none counts as such
unfoldable pub fit_given : ℕ → Option Message → Bool
fit_given n none = false
fit_given n (some m) = fit_message n m

unfoldable pub written_length : ℕ → Option Message → ℕ
written_length n none = 0
written_length n (some m) = length (encode n m)

-- "1 n not 1 to 12", "15 a field as above; 16 output shorter than the message"
unfoldable pub write_number : ℕ → Option Message → ℕ → ℕ
write_number n m room =
    cond (not (is_size n)) 1
    (cond (not (fit_given n m)) 15
    (cond (ltb room (written_length n m)) 16
    0))

-- the message that is written: none where it is refused
unfoldable pub writable : ℕ → Option Message → ℕ → Option Message
writable n m room = cond (eqb (write_number n m room) 0) m none

-- "The writer leaves an output's bytes past the message as they were."
unfoldable pub written_to : ℕ → Option Message → List ℕ → List ℕ
written_to n none out = out
written_to n (some m) out = encode n m ++ drop (length (encode n m)) out

-- What the two promise each other. A message fits where its fields are as the reader wants them and each number in four bytes is below
-- 2 ^ 32; what a board of n has of a message is what comes back.

unfoldable pub small_record : ℕ → Rec → Bool
small_record n r =
    ltb r.count 4294967296
    && (each 8 (λ i. ltb (r.value i) 4294967296)
    && each n (λ j. each n (λ k. ltb (r.matrix j k) 4294967296)))

unfoldable pub small : ℕ → Message → Bool
small n (submit i r t count) = ltb count 4294967296
small n (reply newest stored) = small_record n newest && small_record n stored
small n (commit r) = small_record n r
small n (outcome o) = true

unfoldable pub fits : ℕ → Message → Bool
fits n m = fit_message n m && small n m

-- every element of a list is a byte
abbrev pub Bytes : List ℕ → Type 0
Bytes l = (i : ℕ) → words l i < 256

unfoldable pub message_within : ℕ → Message → Message
message_within n (submit i r t count) = submit i r t count
message_within n (reply newest stored) = reply (record_within n newest) (record_within n stored)
message_within n (commit r) = commit (record_within n r)
message_within n (outcome o) = outcome o
