-- Document 02, (m), "The step that cost the operation": which step of another member, left out by itself, would have let an aborted
-- operation be accepted. Of a run; then the answer to a script and to the arguments, as bytes.
use Rattle.std.specs.Prelude.{ℕ, ◌+◌, ◌-◌, Bool, false, cond, not, ◌&&◌, ◌||◌, List, [], ◌∷◌, eqb, ltb, length}
use Rattle.std.proofs.Math.Option.{Option, none, some}
use Rattle.model.specs.Kinds.{concur}
use Rattle.model.specs.Board.{opened}
use Rattle.model.specs.Runs.{Call, Seen}
use Rattle.model.specs.History.{Op, watched}
use Rattle.model.specs.Table.{table_words}
use Rattle.model.specs.TableCalls.{table_run}
use Rattle.model.specs.Script.{line_feed, text, first_of, calls_of, caller, lines_of, field}
use Rattle.model.specs.Overtaker.{Overtaker, refuses, names, members_overtaker, most_bytes, Asked, asked_by, for_asked}

-- Of a run.

-- "left out by itself": the list without its s-th, from 1; the others keep their order
unfoldable pub without : {A : Type 0} → ℕ → List A → List A
without s [] = []
without s (x ∷ others) = cond (eqb s 1) others (x ∷ without (s - 1) others)

-- whether it is member i's k-th operation, and the host's verdict on it was accepted
unfoldable pub is_accepted : ℕ → ℕ → Op → Bool
is_accepted i k o = eqb o.given.member i && (eqb o.ordinal k && o.accepted)

unfoldable pub has_accepted : ℕ → ℕ → List Op → Bool
has_accepted i k [] = false
has_accepted i k (o ∷ ops) = is_accepted i k o || has_accepted i k ops

-- "would have let an aborted operation be accepted": the calls without the s-th, run anew from the opening; `anew` is such a run, and the
-- others have the effect that they have there
unfoldable pub accepted_without : (List Call → List Seen) → List Call → ℕ → ℕ → ℕ → Bool
accepted_without anew calls i k s =
    let left = without s calls in
    has_accepted i k (watched left (anew left)).decided

-- "the earliest such step's number": the first, from number `at` on, of another member than i without which the operation is accepted
unfoldable pub first_cause : ℕ → (ℕ → Bool) → ℕ → List Call → Option ℕ
first_cause i accepted at [] = none
first_cause i accepted at (call ∷ calls) =
    cond (not (eqb (caller call) i) && accepted at) (some at) (first_cause i accepted (at + 1) calls)

unfoldable pub cause_in : (List Call → List Seen) → List Call → ℕ → ℕ → Option ℕ
cause_in anew calls i k = first_cause i (accepted_without anew calls i k) 1 calls

-- Of a script.

-- a refusal's number; or the step's number, or none
pub data Cause : Type 0 where
  refused : ℕ → Cause
  answered : Option ℕ → Cause

-- "then 17, 1 and 31 as for the earlier tool", which names somebody exactly where the operation was aborted
unfoldable pub unless_refused : Overtaker → Option ℕ → Cause
unless_refused (refuses number) found = refused number
unless_refused (names member step) found = answered found

-- the lines after the first, which names n. Each line makes one call, so a step's number is its call's.
unfoldable pub lines_cause : Option ℕ → List (List ℕ) → ℕ → ℕ → Option ℕ
lines_cause none lines i k = none
lines_cause (some n) lines i k = cause_in (table_run concur (table_words n (opened n))) (calls_of lines) i k

-- "a script of at most 256 steps"
abbrev pub most_lines : ℕ
most_lines = 256

-- "then 35, more than 256 lines after the first, before any is read"
unfoldable pub script_cause : List (List ℕ) → ℕ → ℕ → Cause
script_cause [] i k = refused 17
script_cause (first ∷ lines) i k =
    let n = first_of first in
    cond (ltb most_lines (length lines)) (refused 35) (unless_refused (members_overtaker n lines i k) (lines_cause n lines i k))

-- "17 for the arguments or a longer script", longer than that of the earlier tool
unfoldable pub cause : List ℕ → ℕ → ℕ → Cause
cause input i k = cond (ltb most_bytes (length input)) (refused 17) (script_cause (lines_of input) i k)

-- The program.

unfoldable pub cause_for : Option Asked → List ℕ → Cause
cause_for a input = for_asked (refused 17) (cause input) a

-- "print the earliest such step's number, or `none`, alone on a line"; a refusal prints its number
unfoldable pub printed_cause : Cause → List ℕ
printed_cause (refused number) = field (some number) line_feed
printed_cause (answered none) = text "none\n"
printed_cause (answered (some step)) = field (some step) line_feed

-- the program: what it prints of its arguments and of what it reads
unfoldable pub cause_output : ℕ → List ℕ → List ℕ → List ℕ → List ℕ
cause_output count first second input = printed_cause (cause_for (asked_by count first second) input)
