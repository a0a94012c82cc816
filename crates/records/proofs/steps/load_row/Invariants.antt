use mathlib.Core.Path.{◌≡◌}
use Prim.Native.Nat.{min}
use lib.ListN.{length}
use Rattle.lists.specs.Functions.{from, pasted}
use Rattle.lists.specs.Parts.{words}
use Rattle.records.proofs.steps.load_row.Given as goal

abbrev pub invariant-loop-i : goal.invariant-loop-i
invariant-loop-i l = record {
  long : length l.row.counts ≡ 12;
  read : words l.row.counts ≡ pasted 0 (min l.i l.n) (from (words l.t) l.at) (λ k. 0);
}
