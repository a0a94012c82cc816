-- `print_worded` meets its contract: the word, and the number's field behind it.
use Prim.Native.Nat.{ℕ}
use mathlib.Core.List.{List}
use mathlib.Core.Option.{some}
use Rattle.model.specs.Script.{line_feed, field}
use Rattle.script.proofs.Printing.{printed_then}
use Rattle.script.proofs.steps.print_worded.Goals as goal
use Rattle.script.proofs.steps.print_worded.Goals.{Start}

abbrev number : Start → List ℕ
number s = field (some s.args.x) line_feed

pub returns : goal.returns
returns c =
    printed_then c.print_bytes-next.ensures (number (goal.at.returns c).Start) c.requires c.print_field.ensures
