-- What the code's answer tells, in the definition's words, and what its functions require of each other.
use Rattle.std.specs.Prelude.{ℕ, Option, Result, Ok, Err}
use Rattle.model.specs.Overtaker.{Overtaker, refuses, names}
use Rattle.model.specs.Cause.{Cause, refused, answered}
use Rattle.rules.specs.Refusals.{number}
use Rattle.rules.specs.declared.refusal.Refusal.{Refusal}
use Rattle.script.specs.Meaning.{given}

-- a step, or none, or a refusal by its number
abbrev pub told_cause : Result (Option ℕ) Refusal → Cause
told_cause (Ok found) = answered (given found)
told_cause (Err refusal) = refused (number refusal)

-- somebody overtook the operation
abbrev pub Named : Overtaker → Type 0
Named (refuses number) = ⊥
Named (names member step) = Unit {0}

-- a number of ten digits, and the line feed
abbrev pub longest_answer : ℕ
longest_answer = 11
