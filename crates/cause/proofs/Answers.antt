-- The definition's answer by each test that the code makes before its search.
use Rattle.std.proofs.Common.{◌≡◌, ◌≤◌, ◌<◌, ℕ, List, [], ◌∷◌, length, Some, None}
use mathlib.Core.Path.{refl, ◌∙◌}
use borrow.Author.Tests.{lt-ltb, le-ltb}
use Rattle.cause.specs.Meaning.{Named}
use Rattle.script.specs.Meaning.{held_number}
use Rattle.script.proofs.Reading.{held_none, held_some}
use Rattle.model.specs.Script.{first_of, lines_of}
use Rattle.model.specs.Overtaker.{Overtaker, refuses, names, most_bytes, members_overtaker, lines_overtaker}
use Rattle.model.specs.Cause.{refused, answered, unless_refused, lines_cause, most_lines, script_cause, cause}
use mathlib.Core.Option.{Option, some}

pub answered_so : (x : Overtaker) (y : Option ℕ) → Named x → unless_refused x y ≡ answered y
unfolding unless_refused
answered_so (refuses number) y h = absurd h
answered_so (names member at) y h = refl

module _ (input : List ℕ) (i k : ℕ) where
  pub too_long : most_bytes < length input → cause input i k ≡ refused 17
  unfolding cause
  too_long h = rw (lt-ltb most_bytes (length input) h)

  module _ (short : length input ≤ most_bytes) where
    pub no_lines : lines_of input ≡ [] → cause input i k ≡ refused 17
    unfolding cause script_cause
    no_lines e = rw (le-ltb most_bytes (length input) short, e)

    module _ (first : List ℕ) (behind : List (List ℕ)) (lines : lines_of input ≡ first ∷ behind) where
      pub too_many : most_lines < length behind → cause input i k ≡ refused 35
      unfolding cause script_cause
      too_many h = rw (le-ltb most_bytes (length input) short, lines, lt-ltb most_lines (length behind) h)

      module _ (few : length behind ≤ most_lines) where
        by-first : cause input i k
            ≡ unless_refused (members_overtaker (first_of first) behind i k) (lines_cause (first_of first) behind i k)
        unfolding cause script_cause
        by-first = rw (le-ltb most_bytes (length input) short, lines, le-ltb most_lines (length behind) few)

        pub first_malformed : held_number (first_of first) ≡ None → cause input i k ≡ refused 17
        unfolding members_overtaker unless_refused
        first_malformed e = by-first ∙ rw (held_none (first_of first) e)

        pub first_named : (n : ℕ) → held_number (first_of first) ≡ Some n
            → cause input i k ≡ unless_refused (lines_overtaker n behind i k) (lines_cause (some n) behind i k)
        unfolding members_overtaker
        first_named n e = by-first ∙ rw (held_some (first_of first) n e)
