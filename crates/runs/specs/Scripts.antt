-- A script's steps as a run of calls: which calls its lines make, and that what is seen at the steps is the run of these calls.
use Rattle.std.specs.Prelude.{ℕ, ◌≡◌, List, ◌++◌, map, take}
use Rattle.std.proofs.Math.Option.{Option}
use Rattle.model.specs.Kinds.{Kind}
use Rattle.model.specs.Board.{opened}
use Rattle.model.specs.Runs.{Step}
use Rattle.model.specs.Demand3.{Demand3}
use Rattle.model.specs.Table.{table_words}
use Rattle.model.specs.TableCalls.{table_run, table_boards}
use Rattle.model.specs.Script.{line_call, calls_of, step_call, seen_of, most_steps, Run, ran, board_line, printed_steps}

-- The claim about the steps of a script's lines: the k-th step makes the k-th line's call, what is seen at the steps is the run of these
-- calls
-- on the opened table, and of that run demand 3 holds.
pub record StepsRun (kind : Kind) (n : ℕ) (lines : List (List ℕ)) (steps : List (Option Step)) : Type 0 where
  pub made : map step_call steps ≡ map line_call lines
  pub run : seen_of steps ≡ table_run kind (table_words n (opened n)) (calls_of lines)
  pub holds : Demand3 kind n (calls_of lines) (table_boards kind (table_words n (opened n)) (calls_of lines)) (seen_of steps)

-- The claim about a whole script whose first line names n: its steps, of which there are 1,000,000 at most, are such a run, and what is
-- printed
-- is `board N` and these steps.
pub record ScriptRun (kind : Kind) (n : ℕ) (lines : List (List ℕ)) (whole : Run) (output : List ℕ) : Type 0 where
  pub steps : List (Option Step)
  pub ran : whole ≡ ran n steps
  pub run : StepsRun kind n (take most_steps lines) steps
  pub prints : output ≡ board_line n ++ printed_steps 1 steps
