use mathlib.Core.Path.{◌≡◌}
use lib.ListN.{length}
use Rattle.lists.specs.Functions.{from, pasted}
use Rattle.lists.specs.Parts.{words}
use Rattle.model.specs.Messages.{number_in}
use Rattle.message_bytes.proofs.steps.read_value.Given as goal

abbrev pub invariant-loop-i : goal.invariant-loop-i
invariant-loop-i l = record {
  long : length l.value ≡ 8;
  read : words l.value ≡ pasted 0 l.i (number_in (from (words l.s) l.at)) (λ k. 0);
}
