-- What the code's answer tells, in the definition's words.
use Rattle.std.specs.Prelude.{Result, Ok, Err}
use Rattle.model.specs.Overtaker.{Overtaker, refuses, names}
use Rattle.rules.specs.Refusals.{number}
use Rattle.rules.specs.declared.refusal.Refusal.{Refusal}
use Rattle.overtaker_search.specs.declared.Overtaker.{Overtaker as OvertakerStruct}

-- a submit that is named, or a refusal by its number
abbrev pub told_overtaker : Result OvertakerStruct Refusal → Overtaker
told_overtaker (Ok o) = names o.member o.step
told_overtaker (Err refusal) = refuses (number refusal)
