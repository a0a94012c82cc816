-- The loop of `search_lines`: what the lines ahead give, with what is remembered, is what all give.
use Rattle.std.proofs.Common.{◌≡◌, ◌≤◌, ℕ, ◌+◌, List, length}
use Rattle.std.specs.Option.{unwrap_or}
use Rattle.std.specs.Iterator.Adapters.{enumerate_source, enumerate_count}
use Rattle.std.specs.declared.iter.Enumerate.{Enumerate}
use Rattle.model.specs.Overtaker.{most_bytes}
use Rattle.model.specs.Cause.{without}
use Rattle.script_run.specs.Meaning.{Whole}
use Rattle.overtaker_search.specs.Search.{told_first, search_of, search_start, lines_searched}
use Rattle.overtaker_search.specs.declared.steps.Search.{Search}
use Rattle.overtaker_search.proofs.LineTaken.{NamedOr31}
use Rattle.overtaker.specs.Lines.{lines_left}
use Rattle.overtaker.specs.declared.lines.Lines.{Lines}
use Rattle.overtaker.proofs.NextLine.{ahead}
use Rattle.overtaker.proofs.passes.search_lines.Given as goal

pub record Passed (i k skip : ℕ) (table₀ : List ℕ) (lines : List (List ℕ)) (table : List ℕ) (search : Search) (left : Enumerate Lines) :
    Type 0 where
  pub whole : Whole table
  pub few : enumerate_count left + length (lines_left (enumerate_source left)) ≤ most_bytes
  pub begun : search.begun ≤ search.steps
  pub steps : search.steps ≤ enumerate_count left
  pub named : NamedOr31 (told_first search.first)
  pub same : lines_searched i k table₀ search_start (without skip lines)
      ≡ lines_searched i k table (search_of search) (ahead skip (enumerate_count left) (lines_left (enumerate_source left)))

abbrev pub invariant-loop-passed : goal.invariant-loop-passed
invariant-loop-passed l =
    Passed l.asked.member l.asked.ordinal (unwrap_or l.skip 0) l.initial.table (lines_left l.lines) l.table l.search l.passed-iterator
