use mathlib.Core.Path.{◌≡◌}
use lib.ListN.{length}
use Rattle.lists.specs.Functions.{from, pasted}
use Rattle.lists.specs.Parts.{words}
use Rattle.records.proofs.steps.load_value.Given as goal

abbrev pub invariant-loop-i : goal.invariant-loop-i
invariant-loop-i l = record {
  long : length l.value ≡ 8;
  read : words l.value ≡ pasted 0 l.i (from (words l.t) l.at) (λ k. 0);
}
