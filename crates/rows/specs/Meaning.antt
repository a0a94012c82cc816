-- What a row and a matrix held by value stand for: all twelve counts of all twelve rows, under the numbers 1 to 12; and what the answer of
-- a comparison stands for.
use Rattle.std.specs.Prelude.{List, [], get_or}
use Rattle.lists.specs.Functions.{numbered}
use Rattle.lists.specs.Parts.{words}
use Rattle.model.specs.Rows.{Row, Matrix, zero_row, Comparison, is_equal, is_below, is_above, is_crossed}
use Rattle.model.specs.RecordWords.{row_of}
use Rattle.rows.specs.declared.Row.{Row as RowStruct}
use Rattle.rows.specs.declared.Comparison.{Comparison as ComparisonEnum}
use Rattle.rows.specs.declared.Comparison.TheVariants.{Equal, Below, Above, Crossed}

unfoldable pub row_in : RowStruct → Row
row_in r = row_of 12 (words r.counts)

-- what `get_or` gives past the end of an array of rows
abbrev pub no_row : RowStruct
no_row = record { counts = [] }

unfoldable pub matrix_in : List RowStruct → Matrix
matrix_in m = numbered 12 zero_row (λ j. row_in (get_or m j no_row))

-- "If an answer is an enum, a definition states .. values for each of the enum's cases"; a comparison has no number
abbrev pub comparison_in : ComparisonEnum → Comparison
comparison_in Equal = is_equal
comparison_in Below = is_below
comparison_in Above = is_above
comparison_in Crossed = is_crossed
