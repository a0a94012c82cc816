-- Timestamp rows and matrices, and the order on them. Document 01: "A matrix has one row per slot, each with one count per member."
-- Members and slots are numbered from 1. A board of n looks at 1 to n alone.
use Rattle.std.specs.Prelude.{ℕ, Bool, true, false, cond, ◌||◌, eqb, leb}
use Rattle.lists.specs.Functions.{put, inside, each}

-- a count for each member
abbrev pub Row : Type 0
Row = ℕ → ℕ

-- a row for each slot
abbrev pub Matrix : Type 0
Matrix = ℕ → Row

unfoldable pub zero_row : Row
zero_row k = 0

unfoldable pub zero_matrix : Matrix
zero_matrix j = zero_row

-- "One row is below another when no entry exceeds its fellow"
unfoldable pub below : ℕ → Row → Row → Bool
below n a b = each n (λ k. leb (a k) (b k))

-- ".. a matrix likewise."
unfoldable pub matrix_below : ℕ → Matrix → Matrix → Bool
matrix_below n a b = each n (λ j. below n (a j) (b j))

-- "Rows are comparable when one is below the other."
unfoldable pub comparable : ℕ → Row → Row → Bool
comparable n a b = below n a b || below n b a

-- the larger of two comparable rows; of two that are not comparable, the first
unfoldable pub larger : ℕ → Row → Row → Row
larger n a b = cond (below n a b) b a

-- Document 02, (d): "the comparison shall answer equal, below, above or crossed, each exactly when it is so, below and above only for rows
-- that are not equal." RowClaims.antt says when each is so.
pub data Comparison : Type 0 where
  is_equal : Comparison
  is_below : Comparison
  is_above : Comparison
  is_crossed : Comparison

-- does every entry equal its fellow
unfoldable pub equal : ℕ → Row → Row → Bool
equal n a b = each n (λ k. eqb (a k) (b k))

-- the first row beside the second
unfoldable pub compared : ℕ → Row → Row → Comparison
compared n a b =
    cond (equal n a b) is_equal
    (cond (below n a b) is_below
    (cond (below n b a) is_above
    is_crossed))

-- "Checks 25 and 26 and the building of a matrix use the new answer": 25 passes a row that is equal or below, and then the other is the
-- larger; 26 fails at rows that are crossed
abbrev pub equal_or_below : Comparison → Bool
equal_or_below is_equal = true
equal_or_below is_below = true
equal_or_below is_above = false
equal_or_below is_crossed = false

abbrev pub crossed : Comparison → Bool
crossed is_equal = false
crossed is_below = false
crossed is_above = false
crossed is_crossed = true

-- one entry replaced; a member outside 1 to n has none
unfoldable pub with_count : ℕ → Row → ℕ → ℕ → Row
with_count n a k count = cond (inside n k) (put a k count) a
