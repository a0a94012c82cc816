-- How the code holds what the definitions speak of.
use Rattle.std.specs.Prelude.{ℕ, Option as Held, Some, None}
use Rattle.std.proofs.Math.Option.{Option, none, some}
use Rattle.model.specs.Overtaker.{Asked}
use Rattle.overtaker.specs.declared.Asked.{Asked as AskedStruct}

abbrev pub held_asked : Option Asked → Held AskedStruct
held_asked none = None
held_asked (some a) = Some (record { member = a.member; ordinal = a.ordinal })

-- two numbers of ten digits, and a byte behind each
abbrev pub longest_answer : ℕ
longest_answer = 22
