-- The rows passed hold, and what is remembered is of them.
use Rattle.lists.specs.Parts.{words}
use Rattle.logs.specs.Log.{rows_of, LogHolds}
use Rattle.log_check.specs.Remembered.{Remembers}
use Rattle.log_check.proofs.steps.rows_hold.Given as goal

abbrev pub invariant-loop-k : goal.invariant-loop-k
invariant-loop-k l = record {
  holds : LogHolds l.n (rows_of (words l.log) l.k);
  remembers : Remembers (words l.log) l.k l.last l.until l.written;
}
