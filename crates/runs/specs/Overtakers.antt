-- Who overtook an operation of a script: both answers are about the steps that the board program makes of it and prints.
use Rattle.std.specs.Prelude.{ℕ, ◌-◌, ◌≡◌, cond, List, [], ◌∷◌, eqb}
use Rattle.std.proofs.Math.Option.{Option, none}
use Rattle.model.specs.Kinds.{concur}
use Rattle.model.specs.Runs.{Step}
use Rattle.model.specs.Script.{ran, script_run}
use Rattle.model.specs.Overtaker.{Overtaker, refuses, names}
use Rattle.model.specs.OvertakerClaims.{Overtook, NotAborted}

-- the step of a number, as it is printed, from 1
unfoldable pub step_numbered : List (Option Step) → ℕ → Option Step
step_numbered [] k = none
step_numbered (s ∷ steps) k = cond (eqb k 1) s (step_numbered steps (k - 1))

-- the script opens a board, and P holds of its steps
pub record OfSteps (input : List ℕ) (P : (ℕ → Option Step) → Type 0) : Type 0 where
  pub n : ℕ
  pub steps : List (Option Step)
  pub runs : script_run concur input ≡ ran n steps
  pub holds : P (step_numbered steps)

-- A member and a step are named where that member overtook the operation at that step; 31 is answered where it was not aborted. So of a
-- script that is not refused there is no fourth answer.
abbrev pub ScriptAnswered : List ℕ → ℕ → ℕ → Overtaker → Type 0
ScriptAnswered input i k (names j t) = OfSteps input (λ at. Overtook at i k j t)
ScriptAnswered input i k (refuses number) = number ≡ 31 → OfSteps input (λ at. NotAborted at i k)
