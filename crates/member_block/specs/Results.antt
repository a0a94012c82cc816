-- What taking an outcome hands back, as the code has it: the value that is returned, if there is one.
use Rattle.std.specs.Prelude.{List, ℕ, Result, Ok, Err, Option as Returned, Some, None}
use Rattle.std.proofs.Math.Option.{Option, none, some}
use Rattle.lists.specs.Parts.{words}
use Rattle.model.specs.Records.{Value}
use Rattle.model.specs.RecordWords.{value_of}
use Rattle.rules.specs.declared.refusal.Refusal.{Refusal}

abbrev pub returned_in : Returned (List ℕ) → Option Value
returned_in None = none
returned_in (Some w) = some (value_of (words w))

-- of a call that takes an outcome: nothing is returned where it is refused
abbrev pub returned_of : Result (Returned (List ℕ)) Refusal → Option Value
returned_of (Ok r) = returned_in r
returned_of (Err refusal) = none
