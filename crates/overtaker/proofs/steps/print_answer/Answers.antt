-- `print_answer` meets its contract: there is room for a member and a step, or for a refusal's number.
use Rattle.std.proofs.Common.{rules}
use native.Mathlib.Omega.{arith}
use Rattle.model.specs.Script.{line_feed}
use Rattle.script.proofs.Printing.{field_short}
use Rattle.overtaker.proofs.Answers.{pair_short}
use Rattle.overtaker.proofs.steps.print_answer.Goals as goal

pub print_pair-requires : goal.print_pair-requires
print_pair-requires c =
    let o = c.in-Ok.overtaker in
    omega (arith, pair_short o.member o.step (search rules) (search rules), c.requires)

pub print_field-requires : goal.print_field-requires
print_field-requires c = omega (arith, field_short c.number.result line_feed (search rules), c.requires)
