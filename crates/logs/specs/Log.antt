-- Document 02, (l), "Checking another vendor's log": what a log of accepted operations is, when it holds, and the numbers and the verdict of
-- its check.
use Rattle.std.specs.Prelude.{ℕ, zero, suc, ◌*◌, ◌/◌, ◌%◌, ◌<◌, ◌≡◌, Bool, true, false, cond, not, ◌&&◌, ◌||◌, List, [], ◌∷◌, ◌⊎◌}
use Rattle.std.specs.Prelude.{eqb, ltb, length}
use Rattle.std.proofs.Math.Option.{Option, none, some}
use Rattle.lists.specs.Functions.{from, Within}
use Rattle.lists.specs.Parts.{words}
use Rattle.model.specs.Records.{Value, read, write, zero_value}
use Rattle.model.specs.RecordWords.{value_of}
use Rattle.model.specs.Kinds.{is_size}

-- "Each row has member, type, slot, sheet, and positions of begin, acceptance and end, the end 0 where none."
pub record LogRow : Type 0 where
  pub member : ℕ
  pub operation : ℕ
  pub slot : ℕ
  pub value : Value
  pub begin_at : ℕ
  pub accepted_at : ℕ
  pub end_at : ℕ

-- The rows above a row, in what follows, stand the nearest first.

-- "that member's row before it"
unfoldable pub row_before : ℕ → List LogRow → Option LogRow
row_before i [] = none
row_before i (p ∷ above) = cond (eqb p.member i) (some p) (row_before i above)

-- "the sheet of the last write to its slot above it, or zeros where there is none": a write counts whether it has an end or not
unfoldable pub last_written : ℕ → List LogRow → Value
last_written r [] = zero_value
last_written r (p ∷ above) = cond (eqb p.slot r && eqb p.operation write) p.value (last_written r above)

-- the acceptance of the row just above is lower
abbrev pub Rises : LogRow → List LogRow → Type 0
Rises row [] = Unit {0}
Rises row (p ∷ above) = p.accepted_at < row.accepted_at

-- the member's row before it has an end, which is below its begin
abbrev pub InTurn : LogRow → Option LogRow → Type 0
InTurn row none = Unit {0}
InTurn row (some p) = (0 < p.end_at) × (p.end_at < row.begin_at)

-- "The checker says yes exactly if", of a row and the rows above it:
pub record RowHolds (n : ℕ) (row : LogRow) (above : List LogRow) : Type 0 where
  -- "members and slots are in 1 to n"
  pub member : Within n row.member
  pub slot : Within n row.slot
  -- "types are 1 or 2"
  pub operation : (row.operation ≡ read) ⊎ (row.operation ≡ write)
  -- "begins are not 0"
  pub begins : 0 < row.begin_at
  -- "writes are to own slots"
  pub own_slot : row.operation ≡ write → row.slot ≡ row.member
  -- "acceptances strictly rise"
  pub rises : Rises row above
  -- "begin is below acceptance and acceptance below a present end"
  pub begun : row.begin_at < row.accepted_at
  pub ended : 0 < row.end_at → row.accepted_at < row.end_at
  -- "each row of a member begins above the end of that member's row before it, which must have one"
  pub in_turn : InTurn row (row_before row.member above)
  -- "and each ended read has the sheet of the last write to its slot above it, or zeros where there is none"
  pub reads : row.operation ≡ read → 0 < row.end_at → row.value ≡ last_written row.slot above

-- Each row of a log, the last one first. A log of no rows holds.
abbrev pub LogHolds : ℕ → List LogRow → Type 0
LogHolds n [] = Unit {0}
LogHolds n (row ∷ above) = RowHolds n row above × LogHolds n above

-- In words: "14-word rows", in the order of their fields.
abbrev pub row_size : ℕ
row_size = 14

unfoldable pub row_of : (ℕ → ℕ) → LogRow
row_of w = record {
  member = w 0;
  operation = w 1;
  slot = w 2;
  value = value_of (from w 3);
  begin_at = w 11;
  accepted_at = w 12;
  end_at = w 13;
}

-- the first k rows of the words w, the last one first
unfoldable pub rows_of : (ℕ → ℕ) → ℕ → List LogRow
rows_of w zero = []
rows_of w (suc k) = row_of (from w (k * row_size)) ∷ rows_of w k

unfoldable pub log_of : List ℕ → List LogRow
log_of l = rows_of (words l) (length l / row_size)

-- The check of a log of `long` words, with room for `room` words of verdict. "n not 1 to 12 gives 1; then 2, a length not of whole 14-word
-- rows; then 34, more than 1,024 rows, before any row is read." A verdict of another length than one word is 2 too.

abbrev pub most_rows : ℕ
most_rows = 1024

unfoldable pub log_number : ℕ → ℕ → ℕ → ℕ
log_number n long room =
    cond (not (is_size n)) 1
    (cond (not (eqb (long % row_size) 0) || not (eqb room 1)) 2
    (cond (ltb most_rows (long / row_size)) 34
    0))

-- "says yes exactly if": an answer to whether something holds
pub data Says (Holds : Type 0) : Bool → Type 0 where
  holding : Holds → Says Holds true
  failing : (Holds → ⊥) → Says Holds false

-- a verdict in a word: 1 yes, 0 no
abbrev pub verdict_word : Bool → ℕ
verdict_word v = cond v 1 0

-- What the check of the words `log` on a board of n promises: its number; that a refusal leaves the verdict as it was; and else the verdict.
pub record LogChecked (n : ℕ) (log before : List ℕ) (answer : ℕ) (after : List ℕ) : Type 0 where
  pub number : answer ≡ log_number n (length log) (length before)
  pub refused : (answer ≡ 0 → ⊥) → after ≡ before
  pub verdict : answer ≡ 0 → (v : Bool) × (after ≡ verdict_word v ∷ []) × Says (LogHolds n (log_of log)) v
