-- How a record lies in words: 12 + n² words, in the order of document 01's sentence, the matrix row by row.
use Rattle.std.specs.Prelude.{ℕ, ◌+◌, ◌*◌, ◌/◌, ◌%◌, List, [], ◌∷◌, ◌++◌}
use Rattle.lists.specs.Functions.{from, numbered}
use Rattle.lists.specs.Parts.{tabulate, listed}
use Rattle.model.specs.Rows.{Row, Matrix, zero_row}
use Rattle.model.specs.Records.{Value, Rec}

-- where the parts begin, and how many words there are
abbrev pub value_at : ℕ
value_at = 4

abbrev pub matrix_at : ℕ
matrix_at = 12

unfoldable pub record_size : ℕ → ℕ
record_size n = matrix_at + n * n

-- Decoders: functions of the words w from the place on where the thing begins.

unfoldable pub row_of : ℕ → (ℕ → ℕ) → Row
row_of n w = numbered n 0 w

unfoldable pub matrix_of : ℕ → (ℕ → ℕ) → Matrix
matrix_of n w = numbered n zero_row (λ j. row_of n (from w (j * n)))

unfoldable pub value_of : (ℕ → ℕ) → Value
value_of w = numbered 8 0 w

unfoldable pub record_of : ℕ → (ℕ → ℕ) → Rec
record_of n w = record {
  member = w 0;
  slot = w 1;
  operation = w 2;
  count = w 3;
  value = value_of (from w value_at);
  matrix = matrix_of n (from w matrix_at);
}

-- The encoder: word i of a matrix is that of row i / n and member i % n, both counted from 0.

unfoldable pub matrix_word : ℕ → Matrix → ℕ → ℕ
matrix_word n m i = m (i / n + 1) (i % n + 1)

unfoldable pub record_words : ℕ → Rec → List ℕ
record_words n r =
    (r.member ∷ r.slot ∷ r.operation ∷ r.count ∷ [])
    ++ (listed 8 r.value ++ tabulate (n * n) (matrix_word n r.matrix))
