-- The loop of `feed_all`: the state is that of the bytes fed so far, and the output has room for a line.
use Rattle.std.proofs.Common.{◌≡◌, ◌≤◌, ◌-◌, ℕ, List, length, take}
use Rattle.model.specs.Kinds.{concur}
use Rattle.script.specs.Meaning.{longest_printed}
use Rattle.script_run.specs.Feeding.{fed}
use Rattle.script_run.specs.Meaning.{state_of, Ready}
use Rattle.script_run.specs.declared.Progress.{Progress}
use Rattle.concur_board.proofs.feed_all.Given as goal

-- the bytes fed so far, and room for a line in the output
pub record Upto (p : Progress) (table kept bytes out : List ℕ) (q : Progress) (from : ℕ) (table' kept' out' : List ℕ) : Type 0 where
  pub first : Ready p table kept
  pub within : from ≤ length bytes
  pub ready : Ready q table' kept'
  pub state : state_of q table' kept' ≡ (fed concur (state_of p table kept) (take from bytes)).state
  pub same : length out' ≡ length out
  pub room : longest_printed ≤ length out'

abbrev pub invariant-loop-from : goal.invariant-loop-from
invariant-loop-from g l =
    Upto l.initial.progress l.initial.table l.initial.kept l.bytes l.initial.out l.progress l.from l.table l.kept l.out

abbrev pub decreases-loop-from : goal.decreases-loop-from
decreases-loop-from g l = length l.bytes - l.from
