-- The board program byte by byte: what it keeps between two bytes, what happens at each, and what it prints of that. Of a line no more than
-- 28 bytes are kept: no line of a good form is longer than 27.
use Rattle.std.specs.Prelude.{ℕ, ◌+◌, Bool, cond, ◌||◌, List, [], ◌∷◌, ◌++◌, eqb, ltb, length}
use Rattle.std.proofs.Math.Option.{Option, none, some}
use Rattle.lists.specs.Functions.{inside}
use Rattle.model.specs.Kinds.{Kind}
use Rattle.model.specs.Board.{opened}
use Rattle.model.specs.Runs.{Step}
use Rattle.model.specs.Table.{table_words}
use Rattle.model.specs.Script.{line_feed, first_of, step_line, most_steps, Run, refused, ran, board_line, refused_line, printed_step}
use Rattle.script.specs.Meaning.{longest_line}

-- the number of the next line, the table, and the first bytes of the line that has begun: line 0 is `members N`, 1 to 1,000,000 are the
-- steps, and beyond them nothing is looked at
pub record State : Type 0 where
  pub step : ℕ
  pub table : List ℕ
  pub kept : List ℕ

-- what happens where a line ends: the first is refused with a number, or opens a board of n members; line k is a step
pub data Event : Type 0 where
  refuses : ℕ → Event
  opens : ℕ → Event
  steps : ℕ → Option Step → Event

-- what some bytes leave, and what happens at them
pub record Fed : Type 0 where
  pub state : State
  pub events : List Event

abbrev pub most_kept : ℕ
most_kept = longest_line + 1

abbrev pub over_step : ℕ
over_step = most_steps + 1

abbrev pub over : State → Bool
over s = ltb most_steps s.step

unfoldable pub start : State
start = record { step = 0; table = []; kept = [] }

unfoldable pub keep : List ℕ → ℕ → List ℕ
keep kept b = cond (ltb (length kept) most_kept) (kept ++ (b ∷ [])) kept

-- a line was read to its end: the first, and a step's

abbrev pub ended : ℕ → List ℕ → Event → Fed
ended step table event = record { state = record { step = step; table = table; kept = [] }; events = event ∷ [] }

unfoldable pub first_run : Kind → List ℕ → Option ℕ → Fed
first_run kind table none = ended over_step table (refuses 17)
first_run kind table (some n) = cond (inside kind.most n) (ended 1 (table_words n (opened n)) (opens n)) (ended over_step table (refuses 1))

unfoldable pub step_run : Kind → State → Fed
step_run kind s =
    let done = step_line kind s.table s.kept in
    ended (s.step + 1) done.table (steps s.step done.happened)

unfoldable pub line_run : Kind → State → Fed
line_run kind s = cond (eqb s.step 0) (first_run kind s.table (first_of s.kept)) (step_run kind s)

-- one byte, and one after the other

abbrev pub silent : State → Fed
silent s = record { state = s; events = [] }

unfoldable pub byte_fed : Kind → State → ℕ → Fed
byte_fed kind s b =
    cond (over s) (silent s)
    (cond (eqb b line_feed) (line_run kind s)
    (silent (record { step = s.step; table = s.table; kept = keep s.kept b })))

unfoldable pub fed : Kind → State → List ℕ → Fed
fed kind s [] = silent s
fed kind s (b ∷ l) =
    let one = byte_fed kind s b in
    let rest = fed kind one.state l in
    record { state = rest.state; events = one.events ++ rest.events }

-- the input is over: a line that has begun is ended, and so is the first even if it is empty
unfoldable pub last_events : Kind → State → List Event
last_events kind s = cond (over s) [] (cond (eqb s.step 0 || ltb 0 (length s.kept)) (line_run kind s).events [])

-- The events of a whole script's run: those of its first line, and of its steps from number k on.

unfoldable pub step_events : ℕ → List (Option Step) → List Event
step_events k [] = []
step_events k (s ∷ l) = steps k s ∷ step_events (k + 1) l

unfoldable pub run_events : Run → List Event
run_events (refused number) = refuses number ∷ []
run_events (ran n l) = opens n ∷ step_events 1 l

-- What is printed.

unfoldable pub printed_event : Event → List ℕ
printed_event (refuses number) = refused_line number
printed_event (opens n) = board_line n
printed_event (steps k s) = printed_step k s

unfoldable pub printed_events : List Event → List ℕ
printed_events [] = []
printed_events (e ∷ l) = printed_event e ++ printed_events l
