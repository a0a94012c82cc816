-- The loop of `run`: each turn leaves a state held and the lengths of what is lent.
use Rattle.std.proofs.Common.{◌≡◌, ◌≤◌, ℕ, List, length}
use Rattle.script.specs.Meaning.{longest_printed}
use Rattle.script_run.specs.Meaning.{Ready}
use Rattle.script_run.specs.declared.Progress.{Progress}
use Rattle.concur_board.proofs.run.Given as goal

-- what each turn leaves
pub record Left (table kept input out : List ℕ) (q : Progress) (table' kept' input' out' : List ℕ) : Type 0 where
  pub ready : Ready q table' kept'
  pub table-long : length table' ≡ length table
  pub kept-long : length kept' ≡ length kept
  pub input-long : length input' ≡ length input
  pub out-long : length out' ≡ length out
  pub room : longest_printed ≤ length out'

abbrev pub invariant-loop-turns : goal.invariant-loop-turns
invariant-loop-turns g l =
    Left l.initial.table l.initial.kept l.initial.input l.initial.out l.progress l.table l.kept l.input l.out

abbrev pub decreases-loop-turns : goal.decreases-loop-turns
decreases-loop-turns g l = l.turns
