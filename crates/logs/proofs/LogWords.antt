-- A log written in words is read back as it was, but for its values, of which words 1 to 8 are left. A log that holds still holds with its
-- values cut to these: what its rows are asked looks at values only to compare a read's with a write's.
use Prim.Native.Nat.{ℕ, zero, suc, ◌+◌, ◌*◌, ◌/◌, ◌<◌}
use mathlib.Core.Path.{◌≡◌, refl, ap, ◌∙◌}
use mathlib.Core.Bool.{◌&&◌}
use mathlib.Core.List.{List, [], ◌∷◌, ◌++◌, map}
use native.Mathlib.Omega.{arith}
use lib.Dec.{eqb}
use lib.ListN.{length, length-append, get_or-append}
use Rattle.lists.specs.Functions.{from, within}
use Rattle.lists.specs.Parts.{words, tabulate, listed}
use Rattle.lists.proofs.Functions.{split-both}
use Rattle.lists.proofs.Parts.{length-tabulate, tabulate-at}
use Rattle.lists.proofs.Pieces.{second_at_lem}
use Rattle.model.specs.Records.{Value, write}
use Rattle.laws.proofs.Records.{value_of_same, value_of_next, within_zero_value}
use Rattle.logs.specs.Log.{LogRow, RowHolds, LogHolds, Rises, InTurn, row_before, last_written, row_size, row_of, rows_of, log_of}
use Rattle.logs.specs.OwnLog.{row_words, log_words}

-- a row with its value cut to the words that a value has
abbrev cut : LogRow → LogRow
cut row = record {
  member = row.member;
  operation = row.operation;
  slot = row.slot;
  value = within 8 0 row.value;
  begin_at = row.begin_at;
  accepted_at = row.accepted_at;
  end_at = row.end_at;
}

-- Reading looks at a row's 14 words alone.

row_of_same : (v w : ℕ → ℕ) → ((i : ℕ) → i < row_size → v i ≡ w i) → row_of v ≡ row_of w
unfolding row_of from
row_of_same v w h = λ t. record {
  member = h 0 (omega arith) t;
  operation = h 1 (omega arith) t;
  slot = h 2 (omega arith) t;
  value = value_of_same (from v 3) (from w 3) (λ i p. h (3 + i) (omega arith)) t;
  begin_at = h 11 (omega arith) t;
  accepted_at = h 12 (omega arith) t;
  end_at = h 13 (omega arith) t;
}

rows_of_same : (v w : ℕ → ℕ) (k : ℕ) → ((i : ℕ) → i < k * row_size → v i ≡ w i) → rows_of v k ≡ rows_of w k
unfolding rows_of from
rows_of_same v w zero h = refl
rows_of_same v w (suc k) h = λ t.
    row_of_same (from v (k * row_size)) (from w (k * row_size)) (λ i p. h (k * row_size + i) (omega arith)) t
    ∷ rows_of_same v w k (λ i p. h i (omega arith)) t

-- Written and read back: one row, and the rows of a log.

pub length-row : (row : LogRow) → length (row_words row) ≡ row_size
unfolding row_words tabulate
length-row row = refl

pub length-log : (rows : List LogRow) → length (log_words rows) ≡ length rows * row_size
unfolding log_words
length-log [] = refl
length-log (row ∷ above) = omega (arith, length-append (log_words above) (row_words row), length-log above, length-row row)

value_words : (row : LogRow) (i : ℕ) → i < 8 → from (words (row_words row)) 3 i ≡ row.value (i + 1)
unfolding row_words
value_words row i h =
    let positions = row.begin_at ∷ row.accepted_at ∷ row.end_at ∷ [] in
    second_at_lem (row.member ∷ row.operation ∷ row.slot ∷ []) (listed 8 row.value ++ positions) 3 i refl
    ∙ get_or-append (listed 8 row.value) positions 0 i (rw length-tabulate h)
    ∙ tabulate-at 8 (λ i. row.value (i + 1)) i h

row_read : (row : LogRow) → row_of (words (row_words row)) ≡ cut row
unfolding row_of row_words tabulate
row_read row = λ t. record {
  member = row.member;
  operation = row.operation;
  slot = row.slot;
  value = (value_of_same (from (words (row_words row)) 3) (λ i. row.value (i + 1)) (value_words row) ∙ value_of_next row.value) t;
  begin_at = row.begin_at;
  accepted_at = row.accepted_at;
  end_at = row.end_at;
}

rows_read : (rows : List LogRow) → rows_of (words (log_words rows)) (length rows) ≡ map cut rows
unfolding rows_of log_words
rows_read [] = refl
rows_read (row ∷ above) = λ t.
    (row_of_same (from (words (log_words above ++ row_words row)) (length above * row_size)) (words (row_words row))
    (λ i p. second_at_lem (log_words above) (row_words row) (length above * row_size) i (length-log above))
    ∙ row_read row) t
    ∷ (rows_of_same (words (log_words above ++ row_words row)) (words (log_words above)) (length above)
    (λ i p. get_or-append (log_words above) (row_words row) 0 i (rw length-log p))
    ∙ rows_read above) t

pub log_read : (rows : List LogRow) → log_of (log_words rows) ≡ map cut rows
unfolding log_of
log_read rows =
    ap (rows_of (words (log_words rows))) (let e : length (log_words rows) / row_size ≡ length rows = omega (arith, length-log rows) in e)
    ∙ rows_read rows

-- What is asked of a row, with all values cut.

cut_rises : (row : LogRow) (above : List LogRow) → Rises row above → Rises (cut row) (map cut above)
cut_rises row [] h = tt
cut_rises row (p ∷ above) h = h

cut_in_turn : (row : LogRow) (i : ℕ) (above : List LogRow) → InTurn row (row_before i above)
    → InTurn (cut row) (row_before i (map cut above))
unfolding row_before
cut_in_turn row i [] = λ h. tt
cut_in_turn row i (p ∷ above) = split-both (λ x y. InTurn row x → InTurn (cut row) y) (eqb p.member i)
    (λ e h. h)
    (λ e. cut_in_turn row i above)

cut_last : (r : ℕ) (above : List LogRow) → within 8 0 (last_written r above) ≡ last_written r (map cut above)
unfolding last_written
cut_last r [] = within_zero_value
cut_last r (p ∷ above) =
    split-both {A = Value} (λ v w. within 8 0 v ≡ w) (eqb p.slot r && eqb p.operation write) (λ e. refl) (λ e. cut_last r above)

cut_row : (n : ℕ) (row : LogRow) (above : List LogRow) → RowHolds n row above → RowHolds n (cut row) (map cut above)
cut_row n row above h = record {
  member = h.member;
  slot = h.slot;
  operation = h.operation;
  begins = h.begins;
  own_slot = h.own_slot;
  rises = cut_rises row above h.rises;
  begun = h.begun;
  ended = h.ended;
  in_turn = cut_in_turn row row.member above h.in_turn;
  reads = λ t e. ap (within 8 0) (h.reads t e) ∙ cut_last row.slot above;
}

cut_holds : (n : ℕ) (rows : List LogRow) → LogHolds n rows → LogHolds n (map cut rows)
cut_holds n [] h = tt
cut_holds n (row ∷ above) h = (cut_row n row above h.0, cut_holds n above h.1)

pub words_hold : (n : ℕ) (rows : List LogRow) → LogHolds n rows → LogHolds n (log_of (log_words rows))
words_hold n rows h = rw (log_read rows) (cut_holds n rows h)
