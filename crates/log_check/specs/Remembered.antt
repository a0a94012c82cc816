-- What one pass over a log remembers of the rows above a row, and the tests of that row beside it.
use Rattle.std.specs.Prelude.{ℕ, ◌+◌, ◌*◌, ◌≤◌, ◌<◌, ◌≡◌, Bool, cond, ◌&&◌, ◌||◌, List, [], ◌∷◌, eqb, ltb, length}
use Rattle.std.proofs.Math.Option.{Option, none, some}
use Rattle.lists.specs.Functions.{from, numbered, Within}
use Rattle.lists.specs.Parts.{words}
use Rattle.model.specs.Records.{Value, read, write}
use Rattle.model.specs.RecordWords.{value_of}
use Rattle.model.specs.Kinds.{most_members}
use Rattle.logs.specs.Log.{LogRow, row_before, last_written, row_size, rows_of}

-- the largest word: no begin is above it
abbrev pub never : ℕ
never = 4294967295

-- the position above which the member's next row must begin: the end of this one, and never where it has none
unfoldable pub barred_until : ℕ → ℕ
barred_until end = cond (eqb end 0) never end

-- that of the member's row before, and 0 where there is none, since begins are not 0
unfoldable pub bar_before : Option LogRow → ℕ
bar_before none = 0
bar_before (some p) = barred_until p.end_at

-- the acceptance of the row above, and 0 where there is none, since acceptances are above begins
unfoldable pub last_accepted : List LogRow → ℕ
last_accepted [] = 0
last_accepted (p ∷ above) = p.accepted_at

unfoldable pub positions_test : ℕ → ℕ → ℕ → ℕ → ℕ → Bool
positions_test until last begin acceptance end =
    ltb until begin && (ltb begin acceptance && (ltb last acceptance && (eqb end 0 || ltb acceptance end)))

-- word i of the value that begins at place a of the words w; zeros where a is 0, at which no row's value begins
unfoldable pub written_word : (ℕ → ℕ) → ℕ → ℕ → ℕ
written_word w a i = cond (eqb a 0) 0 (w (a + i))

unfoldable pub written_value : (ℕ → ℕ) → ℕ → Value
written_value w a = value_of (written_word w a)

-- where the value of the last write to a slot begins, after a row on it whose own value begins at `value`
unfoldable pub written_after : ℕ → ℕ → ℕ → ℕ
written_after operation value written = cond (eqb operation write) value written

-- the read clause of a row whose value begins at `value`
abbrev pub ReadHolds : (ℕ → ℕ) → ℕ → ℕ → ℕ → ℕ → Type 0
ReadHolds w operation end value written =
    operation ≡ read → 0 < end → value_of (from w value) ≡ written_value w written

-- What is remembered of the first k rows of the words w: the acceptance of the last one; by member, up to where its last row bars; by slot,
-- where the value of its last write begins.
pub record Remembers (w : ℕ → ℕ) (k last : ℕ) (until written : List ℕ) : Type 0 where
  pub accepted : last ≡ last_accepted (rows_of w k)
  pub members : length until ≡ most_members
  pub barred : (i : ℕ) → Within most_members i → numbered most_members 0 (words until) i ≡ bar_before (row_before i (rows_of w k))
  pub slots : length written ≡ most_members
  pub values : (r : ℕ) → Within most_members r
      → written_value w (numbered most_members 0 (words written) r) ≡ last_written r (rows_of w k)
  pub placed : (r : ℕ) → Within most_members r → numbered most_members 0 (words written) r ≤ k * row_size

-- row k of a log is there to be read beside it
pub record Reading (log : List ℕ) (n k last : ℕ) (until written : List ℕ) : Type 0 where
  pub size : n ≤ most_members
  pub there : k * row_size + row_size ≤ length log
  pub remembers : Remembers (words log) k last until written
