-- Demand 2's second half: "a message written reads back as itself, and accepted bytes written again are the same bytes". It is said of what
-- the contracts of `read` and `write` cite, so of the fields that the struct holds: a reader and a writer that keep a record in different
-- fields do not meet it, though each reads and writes the model's messages.
use Rattle.std.specs.Prelude.{ℕ, ◌+◌, ◌*◌, ◌≤◌, ◌≡◌, Bool, true, cond, ◌&&◌, ◌||◌, List, [], ◌∷◌, ◌++◌, eqb, ltb, length, take, drop}
use Rattle.lists.specs.Parts.{tabulate}
use Rattle.model.specs.Records.{Rec, zero_record, record_within}
use Rattle.model.specs.Messages.{read_number, small_record, Bytes}
use Rattle.messages.specs.Meaning.{Fields, fields_read, number_written, length_written, output_after}

-- the bytes that a call of `write` wrote: the front of its output
abbrev pub sent : ℕ → Fields → List ℕ → List ℕ
sent n f out = take (length_written n f out) (output_after n f out)

-- What a board of n has of a message by value: the parts of its kind, records cut to slots and members 1 to n, every other part zero.
-- "Kind 1 submit: member, slot, type .., count .. Kind 2 reply: n, newest record, stored record .. Kind 3 commit: n, record .. Kind 4
-- outcome: one byte"; a commit's record stands in `newest`.
unfoldable pub fields_within : ℕ → Fields → Fields
fields_within n f = record {
  kind = f.kind;
  member = cond (eqb f.kind 1) f.member 0;
  slot = cond (eqb f.kind 1) f.slot 0;
  operation = cond (eqb f.kind 1) f.operation 0;
  count = cond (eqb f.kind 1) f.count 0;
  result = cond (eqb f.kind 4) f.result 0;
  newest = cond (eqb f.kind 2 || eqb f.kind 3) (record_within n f.newest) zero_record;
  stored = cond (eqb f.kind 2) (record_within n f.stored) zero_record;
}

-- "counts are unsigned 32-bit": each count, and each word of a value, is below 2 ^ 32. They are `u32` in the struct, so it holds of every
-- message that a program holds (`held_small`, proofs/Held.antt).
unfoldable pub small_fields : ℕ → Fields → Bool
small_fields n f = ltb f.count 4294967296 && (small_record n f.newest && small_record n f.stored)

-- What was written: bytes that the reader takes, and it gives back what the board has of the message.
pub record ReadBack (n : ℕ) (f : Fields) (out : List ℕ) : Type 0 where
  pub bytes : Bytes (sent n f out)
  pub number : read_number n (sent n f out) ≡ 0
  pub fields : fields_read n (sent n f out) ≡ fields_within n f

-- What was read from l: the writer takes it, and writes l again; "the writer leaves an output's bytes past the message as they were".
pub record WrittenAgain (n : ℕ) (l out : List ℕ) : Type 0 where
  pub number : number_written n (fields_read n l) out ≡ 0
  pub long : length_written n (fields_read n l) out ≡ length l
  pub output : output_after n (fields_read n l) out ≡ l ++ drop (length l) out

-- A message of each kind for a board of 2, every field of the struct in use, and room for the longest: "P12 whole commit and reply are 60
-- and 115 bytes for n = 2".

unfoldable pub example_record : ℕ → Rec
example_record i = record {
  member = i;
  slot = 1;
  operation = 2;
  count = 4294967295;
  value = λ k. k * 257;
  matrix = λ j k. j * 65536 + k;
}

unfoldable pub example : ℕ → Fields
example kind = record {
  kind = kind;
  member = 2;
  slot = 1;
  operation = 1;
  count = 66051;
  result = 2;
  newest = example_record 1;
  stored = example_record 2;
}

unfoldable pub room : List ℕ
room = tabulate 115 (λ i. 170)

-- The record's bytes: "member, slot and type are a byte each, then count, 32 sheet bytes, matrix row by row".
unfoldable pub example_bytes : ℕ → List ℕ
example_bytes i =
    (i ∷ 1 ∷ 2 ∷ 255 ∷ 255 ∷ 255 ∷ 255 ∷ [])
    ++ ((0 ∷ 0 ∷ 1 ∷ 1 ∷ 0 ∷ 0 ∷ 2 ∷ 2 ∷ 0 ∷ 0 ∷ 3 ∷ 3 ∷ 0 ∷ 0 ∷ 4 ∷ 4 ∷ [])
    ++ ((0 ∷ 0 ∷ 5 ∷ 5 ∷ 0 ∷ 0 ∷ 6 ∷ 6 ∷ 0 ∷ 0 ∷ 7 ∷ 7 ∷ 0 ∷ 0 ∷ 8 ∷ 8 ∷ [])
    ++ (0 ∷ 1 ∷ 0 ∷ 1 ∷ 0 ∷ 1 ∷ 0 ∷ 2 ∷ 0 ∷ 2 ∷ 0 ∷ 1 ∷ 0 ∷ 2 ∷ 0 ∷ 2 ∷ [])))

-- The writer takes the example of that kind, and these bytes are what it writes.
pub record Case (kind : ℕ) (bytes : List ℕ) : Type 0 where
  pub small : small_fields 2 (example kind) ≡ true
  pub number : number_written 2 (example kind) room ≡ 0
  pub wrote : sent 2 (example kind) room ≡ bytes

pub record RoundTrip : Type 0 where
  -- "a message written reads back as itself": every message by value that the writer takes, on every board, to every output
  pub back : (n : ℕ) (f : Fields) (out : List ℕ) → small_fields n f ≡ true → number_written n f out ≡ 0 → ReadBack n f out
  -- "accepted bytes written again are the same bytes": all bytes that the reader takes, to every output with room for them. That they are
  -- bytes is what `&[u8]` says of a slice.
  pub again : (n : ℕ) (l out : List ℕ) → Bytes l → read_number n l ≡ 0 → length l ≤ length out → WrittenAgain n l out
  -- of what the reader gives the board has every part: written and read again, it is itself word for word
  pub whole : (n : ℕ) (l : List ℕ) → fields_within n (fields_read n l) ≡ fields_read n l
  -- such messages, and such bytes, are there of each kind
  pub submit : Case 1 (0 ∷ 9 ∷ 1 ∷ 1 ∷ 2 ∷ 1 ∷ 1 ∷ 0 ∷ 1 ∷ 2 ∷ 3 ∷ [])
  pub reply : Case 2 (0 ∷ 113 ∷ 1 ∷ 2 ∷ 2 ∷ example_bytes 1 ++ example_bytes 2)
  pub commit : Case 3 (0 ∷ 58 ∷ 1 ∷ 3 ∷ 2 ∷ example_bytes 1)
  pub outcome : Case 4 (0 ∷ 3 ∷ 1 ∷ 4 ∷ 2 ∷ [])
