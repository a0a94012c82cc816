-- The number of each kind of message. Document 01: "Kind 1 submit .. Kind 2 reply .. Kind 3 commit .. Kind 4 outcome".
use Rattle.std.specs.Prelude.{ℕ, ◌≡◌, Result, MatchResult, false}
use Rattle.lists.specs.Functions.{inside}
use Rattle.rules.specs.declared.refusal.Refusal.{Refusal}
use Rattle.rules.specs.declared.refusal.Refusal.TheVariants.{Kind}
use Rattle.message_numbers.specs.declared.kind.MessageKind.{MessageKind}
use Rattle.message_numbers.specs.declared.kind.MessageKind.TheVariants.{Submit, Reply, Commit, Outcome}

abbrev pub kind_number : MessageKind → ℕ
kind_number Submit = 1
kind_number Reply = 2
kind_number Commit = 3
kind_number Outcome = 4

-- the kind with this number, or the refusal of a number that no kind has: "14 kind not 1 to 4"
abbrev pub Decodes : ℕ → Result MessageKind Refusal → Type 0
Decodes number r =
    MatchResult r (λ kind. kind_number kind ≡ number) (λ refusal. (refusal ≡ Kind) × (inside 4 number ≡ false))
