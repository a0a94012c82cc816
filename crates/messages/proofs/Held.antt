-- A message that a program holds has numbers below 2 ^ 32 (`held_small`): what the language says of a struct, its type's relation `Is`
-- between a value and the machine's, bounds each `u32` in it. So the first half of the round trip has no premise there (`of-structs`).
use Prim.Native.Nat.{ℕ, zero, suc, ◌-◌, ◌<◌}
use native.Mathlib.Omega.{arith}
use mathlib.Core.Path.{◌≡◌, refl, ap}
use mathlib.Core.Bool.{true}
use mathlib.Core.List.{List, [], ◌∷◌, map}
use lib.Dec.{ltb}
use Rattle.std.proofs.lemmas.List.{map-id}
use lib.ListN.{length, get_or, replicate}
use borrow.Author.Tests.{lt-ltb}
use mir.Syntax.{w32}
use mir.Val.{Val, vint}
use denote.Shadow.{shadow}
use denote.Laws.{Is}
use denote.Array as array
use denote.Struct.Field.{Field, row_field, u32-field, array_field}
use Rattle.lists.specs.Functions.{inside, numbered, each}
use Rattle.lists.specs.Parts.{words}
use Rattle.lists.proofs.Functions.{on, both, each_all}
use Rattle.model.specs.Rows.{zero_row}
use Rattle.model.specs.RecordWords.{row_of, value_of}
use Rattle.model.specs.Messages.{small_record, write_number, fit_given, fit_message, written_length, encode, framed, field_bytes}
use Rattle.rows.specs.declared.Row.{Row}
use Rattle.rows.specs.Meaning.{row_in, matrix_in, no_row}
use Rattle.rows.specs.contracts.Row as row_type
use Rattle.records.specs.declared.Record.{Record}
use Rattle.records.specs.Meaning.{record_in}
use Rattle.records.specs.contracts.Record as record_type
use Rattle.messages.specs.declared.Message.{Message}
use Rattle.messages.specs.Meaning.{fields_in, message_of, number_written}
use Rattle.messages.specs.RoundTrip.{small_fields, ReadBack}
use Rattle.messages.specs.contracts.Message as message_type
use Rattle.messages.proofs.RoundTrip.{round_trip}

-- what holds of each of f's values and of d holds of those under numbers
numbered_all : {A : Type 0} (P : A → Type 0) (n : ℕ) (d : A) (f : ℕ → A) → P d → ((i : ℕ) → P (f i)) → (k : ℕ) → P (numbered n d f k)
unfolding numbered
numbered_all P n d f a h k = on (inside n k) (λ e. rw e (h (k - 1))) (λ e. rw e a)

-- what the language says of a field: its value and the machine's
abbrev Holds : (F : Field) → F.Value → List Val → Type 0
Holds F x vs = Is F.row (F.into x) vs

-- what holds of each value that can be held at a field, and of d, holds of the elements of an array of them, and past its end
module _ (F : Field) (P : F.Value → Type 0) (d : F.Value) (past : P d) (holds : (x : F.Value) (vs : List Val) → Holds F x vs → P x) where
  elements : (l : List F.Value) (us : List Val) → shadow (array.each F.row.Denot F.row.own_val (map F.into l) us)
      → (i : ℕ) → P (get_or l i d)
  elements [] [] p i = past
  elements [] (u ∷ us) p i = absurd p
  elements (x ∷ l) [] p i = absurd p
  elements (x ∷ l) (u ∷ us) p zero = holds x (u ∷ []) p.0
  elements (x ∷ l) (u ∷ us) p (suc i) = elements l us p.1 i

  in_array : (k : ℕ) (l : List F.Value) (vs : List Val) → Holds (array_field F k) l vs → (i : ℕ) → P (get_or l i d)
  in_array k l vs p = elements l p.0 p.1.1

-- arrays of `u32`, a row, and an array of rows
abbrev Small : ℕ → Type 0
Small x = x < 4294967296

-- (a struct has an array of numbers as it is, not number by number)
numbers_small : (k : ℕ) (l : List ℕ) (vs : List Val) → Is (array_field u32-field k).row l vs → (i : ℕ) → Small (words l i)
numbers_small k l vs p = in_array u32-field Small 0 (omega arith) (λ x vs p. p.1) k l vs (rw map-id p)

row_small : (r : Row) (vs : List Val) → Is row_type.the_row r vs → (i : ℕ) → Small (words r.counts i)
row_small r vs p = numbers_small 12 r.counts p.0.0 p.1.1.0

abbrev rows : ℕ → Field
rows k = array_field (row_field row_type.the_row) k

rows_small : (k : ℕ) (m : List Row) (vs : List Val) → Is (rows k).row m vs → (j i : ℕ) → Small (words (get_or m j no_row).counts i)
rows_small k m vs p =
    in_array (row_field row_type.the_row) (λ r. (i : ℕ) → Small (words r.counts i)) no_row (λ i. omega arith) row_small k m vs
    (rw map-id p)

value_small : (l : List ℕ) (vs : List Val) → Is (array_field u32-field 8).row l vs → (i : ℕ) → Small (value_of (words l) i)
unfolding value_of
value_small l vs p = numbered_all Small 8 0 (words l) (omega arith) (numbers_small 8 l vs p)

matrix_small : (m : List Row) (vs : List Val) → Is (rows 12).row m vs → (j k : ℕ) → Small (matrix_in m j k)
unfolding matrix_in row_in row_of zero_row
matrix_small m vs p = numbered_all (λ r. (k : ℕ) → Small (r k)) 12 zero_row (λ j. row_in (get_or m j no_row)) (λ k. omega arith)
    (λ j. numbered_all Small 12 0 (words (get_or m j no_row).counts) (omega arith) (rows_small 12 m vs p j))

-- A record's fields stand one after the other in its relation: count, value and matrix are the fourth to the sixth.
record_small : (n : ℕ) (r : Record) (vs : List Val) → Holds record_type.the_field r vs → small_record n (record_in r) ≡ true
unfolding small_record record_in
record_small n r vs p =
    let count : Small r.count = omega arith in
    let behind = p.1.1.1.1.1.1 in
    let value = value_small r.value _ behind.0 in
    let matrix = matrix_small r.matrix _ behind.1.0 in
    both (lt-ltb r.count 4294967296 count)
    (both (each_all 8 (λ i. ltb (value_of (words r.value) i) 4294967296) (λ i _ _. lt-ltb _ 4294967296 (value i)))
    (each_all n (λ j. each n (λ k. ltb (matrix_in r.matrix j k) 4294967296))
    (λ j _ _. each_all n (λ k. ltb (matrix_in r.matrix j k) 4294967296) (λ k _ _. lt-ltb _ 4294967296 (matrix j k)))))

-- A message's likewise: the two records are the last.
pub held_small : (n : ℕ) (m : Message) (vs : List Val) → Is message_type.the_row m vs → small_fields n (fields_in m) ≡ true
unfolding small_fields
held_small n m vs p =
    let count : Small m.count = omega arith in
    let behind = p.1.1.1.1.1.1.1.1 in
    both (lt-ltb m.count 4294967296 count)
    (both (record_small n m.newest _ behind.0) (record_small n m.stored _ behind.1.0))

-- The first half of the round trip, of every message that a program holds.
pub of_structs : (m : Message) (vs : List Val) → Is message_type.the_row m vs → (n : ℕ) (out : List ℕ)
    → number_written n (fields_in m) out ≡ 0 → ReadBack n (fields_in m) out
of_structs m vs p n out h = round_trip.back n (fields_in m) out (held_small n m vs p) h

-- A message that a program holds and the writer takes: an outcome, its other parts zero.

-- k times a value that can be held
module _ (F : Field) (x : F.Value) (v : Val) (h : Holds F x (v ∷ [])) where
  repeated : (k : ℕ) → shadow (array.each F.row.Denot F.row.own_val (map F.into (replicate k x)) (replicate k v))
  repeated zero = tt
  repeated (suc k) = (h, repeated k)

  length-repeated : (k : ℕ) → length (map F.into (replicate k x)) ≡ k
  length-repeated zero = refl
  length-repeated (suc k) = ap suc (length-repeated k)

  array_of : (k : ℕ) → Holds (array_field F k) (replicate k x) (array.array_val (replicate k v) ∷ [])
  array_of k = (replicate k v, ((refl, length-repeated k), repeated k))

number_of : (x : ℕ) → Small x → Holds u32-field x (vint w32 x ∷ [])
number_of x h = (refl, h)

zero_held : Holds u32-field 0 (vint w32 0 ∷ [])
zero_held = number_of 0 (omega arith)

row : Row
row = record { counts = replicate 12 0 }

row_held : (v : Val) × Holds row_type.the_field row (v ∷ [])
unfolding row
row_held = (_, (_, (refl, (array_of u32-field 0 (vint w32 0) zero_held 12, tt))))

part : Record
part = record { member = 0; slot = 0; operation = 0; count = 0; value = replicate 8 0; matrix = replicate 12 row }

part_held : (v : Val) × Holds record_type.the_field part (v ∷ [])
unfolding part
part_held =
    let z = zero_held in
    let value = array_of u32-field 0 (vint w32 0) z 8 in
    let matrix = array_of row_type.the_field row row_held.0 row_held.1 12 in
    (_, (_, (refl, (z, (z, (z, (z, (value, (matrix, tt)))))))))

pub an_outcome : Message
an_outcome = record { kind = 4; member = 0; slot = 0; operation = 0; count = 0; outcome = 1; newest = part; stored = part }

pub an_outcome_held : (vs : List Val) × Is message_type.the_row an_outcome vs
unfolding an_outcome
an_outcome_held =
    let z = zero_held in
    let r = part_held.1 in
    let kind = number_of 4 (omega arith) in
    let result = number_of 1 (omega arith) in
    (_, (_, (refl, (kind, (z, (z, (z, (z, (result, (r, (r, tt)))))))))))

pub an_outcome_taken : number_written 1 (fields_in an_outcome) (0 ∷ 0 ∷ 0 ∷ 0 ∷ 0 ∷ []) ≡ 0
unfolding an_outcome message_of write_number inside fit_given fit_message written_length encode framed field_bytes
an_outcome_taken = refl
