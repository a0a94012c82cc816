-- `print_pair` meets its contract: two fields, one behind the other.
use Prim.Native.Nat.{ℕ}
use mathlib.Core.List.{List}
use mathlib.Core.Option.{some}
use Rattle.model.specs.Script.{line_feed, field}
use Rattle.script.proofs.Printing.{printed_then}
use Rattle.script.proofs.steps.print_pair.Goals as goal
use Rattle.script.proofs.steps.print_pair.Goals.{Start}

-- The two fields.

abbrev f2 : Start → List ℕ
f2 s = field (some s.args.y) line_feed

-- The goals.

pub returns : goal.returns
returns c =
    printed_then c.print_field-next.ensures (f2 (goal.at.returns c).Start) c.requires c.print_field.ensures
