use mathlib.Core.Path.{◌≡◌}
use mathlib.Core.Bool.{not}
use Rattle.model.specs.Rows.{below}
use Rattle.rows.specs.Meaning.{row_in}
use Rattle.rows.proofs.Row.compare.Given as goal

-- the pairs are the entries passed, and a flag says whether an entry of them exceeds its fellow
abbrev pub invariant-loop-i : goal.invariant-loop-i
invariant-loop-i l = record {
  counted : l.pairs ≡ l.i;
  exceeds : l.exceeds ≡ not (below l.i (row_in l.self) (row_in l.other));
  exceeded : l.exceeded ≡ not (below l.i (row_in l.other) (row_in l.self));
}
