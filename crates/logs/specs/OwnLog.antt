-- The log of a run of our own board, made from what is seen of it, and what is claimed of it: it passes the check.
use Rattle.std.specs.Prelude.{ℕ, ◌≤◌, ◌<◌, ◌^◌, ◌≡◌, cond, List, [], ◌∷◌, ◌++◌, map, eqb, length}
use Rattle.std.proofs.Math.Option.{Option, none, some}
use Rattle.lists.specs.Every.{Every}
use Rattle.lists.specs.Parts.{listed}
use Rattle.model.specs.Records.{Value, write, zero_value}
use Rattle.model.specs.Runs.{Call, begin, deliver, crash, Seen}
use Rattle.model.specs.History.{Op, watched, accepted_of}
use Rattle.logs.specs.Log.{LogRow, LogHolds, log_of, most_rows, LogChecked}

-- what an operation shows of a value: a write the one that it was given, a read the one that it returned, or zeros while it has not ended
unfoldable pub returned_or : Option Value → Value
returned_or none = zero_value
returned_or (some v) = v

unfoldable pub shown_value : Op → Value
shown_value o = cond (eqb o.given.operation write) o.given.value (returned_or o.returned)

-- ".. its step numbers as positions": those of its begin, of the deliver at which the host took its commit, and of its last deliver
unfoldable pub logged_row : Op → LogRow
logged_row o = record {
  member = o.given.member;
  operation = o.given.operation;
  slot = o.given.slot;
  value = shown_value o;
  begin_at = o.begin_at;
  accepted_at = o.verdict_at;
  end_at = o.end_at;
}

-- the accepted operations of a run "in order of acceptance", the last one first
unfoldable pub own_rows : List Call → List Seen → List LogRow
own_rows calls seen = map logged_row (accepted_of (watched calls seen).decided)

-- A log in words, its rows from the first to the last.

unfoldable pub row_words : LogRow → List ℕ
row_words row =
    (row.member ∷ row.operation ∷ row.slot ∷ [])
    ++ (listed 8 row.value ++ (row.begin_at ∷ row.accepted_at ∷ row.end_at ∷ []))

unfoldable pub log_words : List LogRow → List ℕ
log_words [] = []
log_words (row ∷ above) = log_words above ++ row_words row

unfoldable pub own_log : List Call → List Seen → List ℕ
own_log calls seen = log_words (own_rows calls seen)

-- What is claimed of a run's log: "Every log of our own board from its opening, of at most 1,024 rows in order of acceptance, its step numbers
-- as positions, passes while they fit."

abbrev pub Word : ℕ → Type 0
Word x = x < 2 ^ 32

-- a value that a call can be given: its words are words
abbrev pub WordsGiven : Call → Type 0
WordsGiven (begin i r t v) = (k : ℕ) → Word (v k)
WordsGiven (deliver i) = Unit {0}
WordsGiven (crash i) = Unit {0}

pub record OwnLogPasses (n : ℕ) (calls : List Call) (seen : List Seen) : Type 0 where
  -- the rows hold, however many there are
  pub rows : LogHolds n (own_rows calls seen)
  -- and so do those that the check reads in the log's words
  pub holds : LogHolds n (log_of (own_log calls seen))
  -- "while they fit": the words can be lent to it
  pub fit : length calls < 2 ^ 32 → Every WordsGiven calls → Every Word (own_log calls seen)
  -- so with at most 1,024 rows it answers 0, and its verdict is yes
  pub passes : length (own_rows calls seen) ≤ most_rows → (before after : List ℕ) (number : ℕ) → length before ≡ 1
      → LogChecked n (own_log calls seen) before number after → (number ≡ 0) × (after ≡ 1 ∷ [])
