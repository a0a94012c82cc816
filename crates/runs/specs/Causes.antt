-- The step that cost an operation of a script: both answers are about the steps that the board program makes of it and prints, and about
-- those of its lines without one.
use Rattle.std.specs.Prelude.{ℕ, ◌≡◌, List, ◌∷◌}
use Rattle.std.proofs.Math.Option.{Option, some}
use Rattle.model.specs.Kinds.{concur}
use Rattle.model.specs.Board.{opened}
use Rattle.model.specs.Runs.{Step}
use Rattle.model.specs.Table.{table_words}
use Rattle.model.specs.Script.{steps_from, lines_of, first_of, ran, script_run}
use Rattle.model.specs.Cause.{without, Cause, refused, answered}
use Rattle.model.specs.OvertakerClaims.{Aborted, NotAborted}
use Rattle.model.specs.CauseClaims.{OfAnother, CauseAnswered, SameOperations}
use Rattle.runs.specs.Overtakers.{step_numbered}

-- the step of each number that the lines make without the s-th, on a board of n members
abbrev pub steps_without : ℕ → List (List ℕ) → ℕ → ℕ → Option Step
steps_without n lines s = step_numbered (steps_from concur (table_words n (opened n)) (without s lines))

-- the script opens a board, and P holds of its steps without any one line; without none they are those of the script
pub record OfLines (input : List ℕ) (P : (ℕ → ℕ → Option Step) → Type 0) : Type 0 where
  pub n : ℕ
  pub first : List ℕ
  pub lines : List (List ℕ)
  pub split : lines_of input ≡ first ∷ lines
  pub named : first_of first ≡ some n
  pub runs : script_run concur input ≡ ran n (steps_from concur (table_words n (opened n)) (without 0 lines))
  pub holds : P (steps_without n lines)

-- The operation was aborted in the whole run, the answer is the right one, and without another's step member i has the same operations.
pub record Caused (i k : ℕ) (answer : Option ℕ) (at : ℕ → ℕ → Option Step) : Type 0 where
  pub submit_at : ℕ
  pub verdict_at : ℕ
  pub aborted : Aborted (at 0) i k submit_at verdict_at
  pub answered : CauseAnswered at i k answer
  pub same : (s : ℕ) → OfAnother i (at 0 s) → SameOperations (at 0) (at s) i s

-- 31 is answered where the operation was not aborted.
abbrev pub ScriptCaused : List ℕ → ℕ → ℕ → Cause → Type 0
ScriptCaused input i k (answered x) = OfLines input (Caused i k x)
ScriptCaused input i k (refused number) = number ≡ 31 → OfLines input (λ at. NotAborted (at 0) i k)
