-- What a record held by value stands for.
use Rattle.std.specs.Prelude.{ℕ}
use Rattle.lists.specs.Parts.{words}
use Rattle.model.specs.Records.{Rec, record_within}
use Rattle.model.specs.RecordWords.{value_of}
use Rattle.rows.specs.Meaning.{matrix_in}
use Rattle.records.specs.declared.Record.{Record as RecordStruct}

unfoldable pub record_in : RecordStruct → Rec
record_in r = record {
  member = r.member;
  slot = r.slot;
  operation = r.operation;
  count = r.count;
  value = value_of (words r.value);
  matrix = matrix_in r.matrix;
}

-- what a board of n has of it
abbrev pub record_for : ℕ → RecordStruct → Rec
record_for n r = record_within n (record_in r)
