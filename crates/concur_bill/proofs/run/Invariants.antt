-- The loop of `run`: each turn leaves a state with its accounts held, and the lengths of what is lent.
use Rattle.std.proofs.Common.{◌≡◌, ◌≤◌, ℕ, List, length}
use Rattle.tariff.specs.Counting.{longest_bill}
use Rattle.bill.specs.Meaning.{Going}
use Rattle.bill.specs.declared.Counted.{Counted}
use Rattle.concur_bill.proofs.run.Given as goal

-- what each turn leaves
pub record Left (table kept input out : List ℕ) (c : Counted) (table' kept' input' : List ℕ) : Type 0 where
  pub going : Going c table' kept'
  pub table-long : length table' ≡ length table
  pub kept-long : length kept' ≡ length kept
  pub input-long : length input' ≡ length input
  pub room : longest_bill ≤ length out

abbrev pub invariant-loop-turns : goal.invariant-loop-turns
invariant-loop-turns g l = Left l.initial.table l.initial.kept l.initial.input l.out l.counted l.table l.kept l.input

abbrev pub decreases-loop-turns : goal.decreases-loop-turns
decreases-loop-turns g l = l.turns
