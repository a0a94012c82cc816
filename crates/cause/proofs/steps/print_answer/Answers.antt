-- `print_answer` meets its contract: there is room for a number.
use Rattle.std.proofs.Common.{rules}
use native.Mathlib.Omega.{arith}
use Rattle.model.specs.Script.{line_feed}
use Rattle.script.proofs.Printing.{field_short}
use Rattle.cause.proofs.steps.print_answer.Goals as goal

pub print_field-requires : goal.print_field-requires
print_field-requires c = omega (arith, field_short c.in-Ok-Some.step line_feed (search rules), c.requires)

pub print_field-requires-in-Err : goal.print_field-requires-in-Err
print_field-requires-in-Err c = omega (arith, field_short c.number.result line_feed (search rules), c.requires)
