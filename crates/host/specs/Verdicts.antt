-- The number of each outcome of a commit, and what a call that may be refused answers of it.
use Rattle.std.specs.Prelude.{ℕ, Result, Ok, Err}
use Rattle.rules.specs.declared.refusal.Refusal.{Refusal}
use Rattle.host.specs.declared.Verdict.{Verdict}
use Rattle.host.specs.declared.Verdict.TheVariants.{Accepted, Aborted}

-- document 01: "Kind 4 outcome: one byte, 1 accepted, 2 aborted"
abbrev pub outcome : Verdict → ℕ
outcome Accepted = 1
outcome Aborted = 2

-- 0 where the commit is refused
abbrev pub outcome_in : Result Verdict Refusal → ℕ
outcome_in (Ok verdict) = outcome verdict
outcome_in (Err refusal) = 0
