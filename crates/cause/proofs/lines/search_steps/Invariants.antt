-- The loop of `search_steps`: no line that is passed is the step that is looked for.
use Rattle.std.proofs.Common.{ℕ, ◌+◌, ◌≤◌, List, length}
use Rattle.std.specs.Iterator.Adapters.{enumerate_source, enumerate_count}
use Rattle.std.specs.declared.iter.Enumerate.{Enumerate}
use Rattle.model.specs.Overtaker.{most_bytes, lines_overtaker}
use Rattle.overtaker.specs.Lines.{lines_left}
use Rattle.cause.specs.Meaning.{Named}
use Rattle.overtaker.specs.declared.lines.Lines.{Lines}
use Rattle.cause.proofs.Searching.{Searching}
use Rattle.cause.proofs.lines.search_steps.Given as goal

pub record Passed (n i k : ℕ) (lines : List (List ℕ)) (ahead : Enumerate Lines) : Type 0 where
  pub overtaken : Named (lines_overtaker n lines i k)
  pub few : enumerate_count ahead + length (lines_left (enumerate_source ahead)) ≤ most_bytes
  pub searching : Searching n lines i k overtaken (lines_left (enumerate_source ahead)) (enumerate_count ahead)

abbrev pub invariant-loop-passed : goal.invariant-loop-passed
invariant-loop-passed l = Passed l.n l.asked.member l.asked.ordinal (lines_left l.lines) l.passed-iterator
