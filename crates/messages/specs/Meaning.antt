-- What a message held by value stands for: the struct's fields.
use Rattle.std.specs.Prelude.{ℕ, ◌≡◌, cond, List, eqb, length}
use Rattle.std.proofs.Math.Option.{Option, none, some}
use Rattle.lists.specs.Functions.{pasted}
use Rattle.lists.specs.Parts.{words}
use Rattle.model.specs.Records.{Rec, zero_record}
use Rattle.model.specs.Messages.{Message, submit, reply, commit, outcome, decode, written_length, write_number, writable, written_to}
use Rattle.records.specs.Meaning.{record_in}
use Rattle.messages.specs.declared.Message.{Message as MessageStruct}

pub record Fields : Type 0 where
  pub kind : ℕ
  pub member : ℕ
  pub slot : ℕ
  pub operation : ℕ
  pub count : ℕ
  pub result : ℕ
  pub newest : Rec
  pub stored : Rec

abbrev pub fields_in : MessageStruct → Fields
fields_in m = record {
  kind = m.kind;
  member = m.member;
  slot = m.slot;
  operation = m.operation;
  count = m.count;
  result = m.outcome;
  newest = record_in m.newest;
  stored = record_in m.stored;
}

-- The reader: a message's parts, the unused ones zero, a commit's record in `newest`; all zero where there is none.

-- two records, the other parts zero
abbrev pub only_records : ℕ → Rec → Rec → Fields
only_records kind newest stored = record {
  kind = kind;
  member = 0;
  slot = 0;
  operation = 0;
  count = 0;
  result = 0;
  newest = newest;
  stored = stored;
}

unfoldable pub fields_of : Option Message → Fields
fields_of none = only_records 0 zero_record zero_record
fields_of (some (submit i r t c)) = record {
  kind = 1;
  member = i;
  slot = r;
  operation = t;
  count = c;
  result = 0;
  newest = zero_record;
  stored = zero_record;
}
fields_of (some (reply newest stored)) = only_records 2 newest stored
fields_of (some (commit r)) = only_records 3 r zero_record
fields_of (some (outcome o)) = record {
  kind = 4;
  member = 0;
  slot = 0;
  operation = 0;
  count = 0;
  result = o;
  newest = zero_record;
  stored = zero_record;
}

-- The writer: the message of a kind, from its parts; none for a kind not 1 to 4.
unfoldable pub message_of : Fields → Option Message
message_of f =
    cond (eqb f.kind 1) (some (submit f.member f.slot f.operation f.count))
    (cond (eqb f.kind 2) (some (reply f.newest f.stored))
    (cond (eqb f.kind 3) (some (commit f.newest))
    (cond (eqb f.kind 4) (some (outcome f.result))
    none)))

-- What the calls answer on a board of n. `read` of the bytes l: `read_number n l`, and these fields.
abbrev pub fields_read : ℕ → List ℕ → Fields
fields_read n l = fields_of (decode n l)

-- `write` of the fields f to the output `out`: its number, its length, and the output after it.
abbrev pub number_written : ℕ → Fields → List ℕ → ℕ
number_written n f out = write_number n (message_of f) (length out)

abbrev pub length_written : ℕ → Fields → List ℕ → ℕ
length_written n f out = written_length n (writable n (message_of f) (length out))

abbrev pub output_after : ℕ → Fields → List ℕ → List ℕ
output_after n f out = written_to n (writable n (message_of f) (length out)) out

-- What the steps inside the reader and the writer leave; no contract of a public call cites these. A struct that no number refuses, and
-- that holds the message m:
abbrev pub Holds : MessageStruct → Message → Type 0
Holds r m = fields_in r ≡ fields_of (some m)

-- The bytes p at the front of a list, the others as they were:
abbrev pub Fronted : List ℕ → List ℕ → List ℕ → Type 0
Fronted p before after = words after ≡ pasted 0 (length p) (words p) (words before)
