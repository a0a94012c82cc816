-- How records and messages are handed over in words. A record goes over whole, as a working copy is: "a row holds 12 counts, the unused
-- ones zero". It is member, slot, type, count, the value's 8 words and all twelve rows of 12 counts, whatever n is.
use Rattle.std.specs.Prelude.{ℕ, cond, List, [], ◌∷◌, ◌++◌, ◌==◌}
use Rattle.std.proofs.Math.Option.{Option}
use Rattle.lists.specs.Functions.{from}
use Rattle.lists.specs.Parts.{words}
use Rattle.model.specs.Records.{Rec, zero_record, record_within}
use Rattle.model.specs.RecordWords.{record_of, record_words}
use Rattle.model.specs.Halves.{host_number, submit_newest, submit_stored}
use Rattle.model.specs.Messages.{Message}
use Rattle.messages.specs.Meaning.{Fields, message_of}

-- how many words are due: a record, two records, the fields of a message, one number
abbrev pub record_due : ℕ
record_due = 156

abbrev pub both_due : ℕ
both_due = 312

abbrev pub fields_due : ℕ
fields_due = 318

abbrev pub number_due : ℕ
number_due = 1

-- the record that stands from word `at` on
unfoldable pub record_from : List ℕ → ℕ → Rec
record_from l at = record_of 12 (from (words l) at)

-- the same as a half takes it: of the rows and counts, those that a board of n has
unfoldable pub record_given : ℕ → List ℕ → ℕ → Rec
record_given n l at = record_within n (record_from l at)

-- two records: the newest, then the stored one
unfoldable pub both_words : Rec → Rec → List ℕ
both_words newest stored = record_words 12 newest ++ record_words 12 stored

-- the fields of a message: kind, member, slot, type, count, outcome, newest record, stored record
unfoldable pub field_words : Fields → List ℕ
field_words f =
    (f.kind ∷ f.member ∷ f.slot ∷ f.operation ∷ f.count ∷ f.result ∷ [])
    ++ both_words f.newest f.stored

unfoldable pub fields_from : List ℕ → Fields
fields_from l = record {
  kind = words l 0;
  member = words l 1;
  slot = words l 2;
  operation = words l 3;
  count = words l 4;
  result = words l 5;
  newest = record_from l 6;
  stored = record_from l 162;
}

-- the message that the fields say; none for a kind not 1 to 4
unfoldable pub message_given : List ℕ → Option Message
message_given l = message_of (fields_from l)

-- what a submit is replied: the slot's newest and stored records, and two of zeros where it is refused
unfoldable pub replied_words : ℕ → List ℕ → ℕ → ℕ → ℕ → List ℕ
replied_words n l member slot operation =
    cond (host_number n l member slot operation == 0)
    (both_words (submit_newest n l slot) (submit_stored n l slot))
    (both_words zero_record zero_record)
