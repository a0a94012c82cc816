-- Records. Document 01: "A record is member, slot, type (1 read, 2 write), count, sheet (8 words, big-endian), matrix".
use Rattle.std.specs.Prelude.{ℕ}
use Rattle.lists.specs.Functions.{within}
use Rattle.model.specs.Rows.{Matrix, zero_row, zero_matrix}

-- a value (document 01's sheet): its words, numbered 1 to 8
abbrev pub Value : Type 0
Value = ℕ → ℕ

unfoldable pub zero_value : Value
zero_value i = 0

-- the two types of operation
abbrev pub read : ℕ
read = 1

abbrev pub write : ℕ
write = 2

pub record Rec : Type 0 where
  pub member : ℕ
  pub slot : ℕ
  pub operation : ℕ
  pub count : ℕ
  pub value : Value
  pub matrix : Matrix

-- "The opening record of a slot is a write by its owner with count, sheet and matrix zero."
unfoldable pub opening : ℕ → Rec
opening slot = record { member = slot; slot = slot; operation = write; count = 0; value = zero_value; matrix = zero_matrix }

-- the record of no operation: every part zero
unfoldable pub zero_record : Rec
zero_record = record { member = 0; slot = 0; operation = 0; count = 0; value = zero_value; matrix = zero_matrix }

-- the part of a matrix, and of a record, that a board of n has: slots and members 1 to n, and the value's 8 words
abbrev pub matrix_within : ℕ → Matrix → Matrix
matrix_within n m = within n zero_row (λ j. within n 0 (m j))

unfoldable pub record_within : ℕ → Rec → Rec
record_within n r = record {
  member = r.member;
  slot = r.slot;
  operation = r.operation;
  count = r.count;
  value = within 8 0 r.value;
  matrix = matrix_within n r.matrix;
}
