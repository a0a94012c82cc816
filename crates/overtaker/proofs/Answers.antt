-- The definition's answer where the lines are not those of a board's steps; and what is printed of an answer.
use Rattle.std.proofs.Common.{◌≡◌, ◌≤◌, ◌<◌, ℕ, List, [], ◌∷◌, ◌++◌, length, take, true, false}
use Rattle.std.specs.Prelude.{Some, None, Result, Ok, Err}
use Rattle.std.specs.Result.{MatchResult}
use mathlib.Core.Option.{some}
use mathlib.Core.Path.{◌∙◌}
use borrow.Author.Tests.{le-ltb}
use native.Mathlib.Omega.{arith}
use lib.ListN.{length-append}
use Rattle.lists.specs.Functions.{inside}
use Rattle.model.specs.Script.{space, line_feed, first_of, lines_of, field}
use Rattle.model.specs.Overtaker.{refuses, well_formed, lines_overtaker, members_overtaker, script_overtaker, most_bytes, overtaker}
use Rattle.script.specs.Meaning.{held_number, Printed}
use Rattle.script.proofs.Reading.{held_none, held_some}
use Rattle.script.proofs.Printing.{field_short}
use Rattle.script_run.proofs.Held.{wrote, wrote_front}
use Rattle.rules.specs.declared.refusal.Refusal.{Refusal}
use Rattle.rules.specs.declared.refusal.Refusal.TheVariants.{NotOvertaken}
use Rattle.overtaker_search.specs.declared.Overtaker.{Overtaker}
use Rattle.overtaker_search.specs.Meaning.{told_overtaker}
use Rattle.overtaker_search.specs.Search.{told_first}
use Rattle.overtaker_search.proofs.LineTaken.{NamedOr31}

module _ (i k n : ℕ) (lines : List (List ℕ)) where
  pub lines-malformed : well_formed lines ≡ false → lines_overtaker n lines i k ≡ refuses 17
  unfolding lines_overtaker
  lines-malformed f = rw f

  pub no_size : inside 12 n ≡ false → well_formed lines ≡ true → lines_overtaker n lines i k ≡ refuses 1
  unfolding lines_overtaker
  no_size size f = rw (f, size)

-- By the first line: the script is short enough.
module _ (input : List ℕ) (i k : ℕ) (short : length input ≤ most_bytes) where
  pub no_lines : lines_of input ≡ [] → overtaker input i k ≡ refuses 17
  unfolding overtaker script_overtaker
  no_lines e = rw (le-ltb most_bytes (length input) short, e)

  module _ (first : List ℕ) (behind : List (List ℕ)) (lines : lines_of input ≡ first ∷ behind) where
    by_first : overtaker input i k ≡ members_overtaker (first_of first) behind i k
    unfolding overtaker script_overtaker
    by_first = rw (le-ltb most_bytes (length input) short, lines)

    pub first_malformed : held_number (first_of first) ≡ None → overtaker input i k ≡ refuses 17
    unfolding members_overtaker
    first_malformed e = by_first ∙ rw (held_none (first_of first) e)

    pub first_named : (n : ℕ) → held_number (first_of first) ≡ Some n → overtaker input i k ≡ lines_overtaker n behind i k
    unfolding members_overtaker
    first_named n e = by_first ∙ rw (held_some (first_of first) n e)

-- an answer by number whose number is 31, as a refusal
pub as_refused : (r : Result Overtaker ℕ) (q : Result Overtaker Refusal) → NamedOr31 (told_first r)
    → MatchResult r (λ o. q ≡ Ok o) (λ number. q ≡ Err NotOvertaken) → told_overtaker q ≡ told_first r
as_refused (Ok o) q n h = rw h
as_refused (Err number) q n h = rw (h, n)

-- the text of a member and a step
pub pair_short : (x y : ℕ) → x < 4294967296 → y < 4294967296 → length (field (some x) space ++ field (some y) line_feed) ≤ 22
pair_short x y h k = simp length-append (omega (
  arith,
  simp length-append at (field_short x space h),
  simp length-append at (field_short y line_feed k),
))

-- what was printed at the front of the output
pub printed_front : {before after : List ℕ} {text : List ℕ} {next : ℕ} → Printed before after 0 text next → length text ≤ length before
    → (next ≤ length after) × (take next after ≡ text)
printed_front p h = let w = wrote p (omega arith) in (w.room, wrote_front w (omega arith))
