-- Document 02, (e), "Who overtook my operation": which submit it was, by what is seen of a run; then the answer to a script and to the
-- arguments, as bytes.
use Rattle.std.specs.Prelude.{ℕ, Bool, true, false, cond, not, ◌&&◌, List, [], ◌∷◌, ◌++◌, eqb, ltb, length}
use Rattle.std.proofs.Math.Option.{Option, none, some}
use Rattle.model.specs.Kinds.{concur, is_size}
use Rattle.model.specs.Board.{opened}
use Rattle.model.specs.Runs.{Call}
use Rattle.model.specs.History.{Op, Submit, Watch, watched, overtakes}
use Rattle.model.specs.Table.{table_words}
use Rattle.model.specs.TableCalls.{table_run}
use Rattle.model.specs.Script.{space, line_feed, number_of, first_of, line_call, calls_of, lines_of, field}

-- Of a run.

-- "a member and an ordinal, from 1, among that member's begins that were answered 0": whether it is that operation, and the host's verdict
-- on it was aborted
unfoldable pub is_aborted : ℕ → ℕ → Op → Bool
is_aborted i k o = eqb o.given.member i && (eqb o.ordinal k && not o.accepted)

unfoldable pub aborted_op : ℕ → ℕ → List Op → Option Op
aborted_op i k [] = none
aborted_op i k (o ∷ ops) = cond (is_aborted i k o) (some o) (aborted_op i k ops)

unfoldable pub earlier : Option Submit → Option Submit → Option Submit
earlier none later = later
earlier (some s) later = some s

-- "the first deliver at which the host took a submit on that slot between the operation's own submit and commit": submits stand newest
-- first, so the first taken is the last that fits
unfoldable pub first_overtaking : Op → List Submit → Option Submit
first_overtaking o [] = none
first_overtaking o (s ∷ submits) = earlier (first_overtaking o submits) (cond (overtakes s o) (some s) none)

unfoldable pub overtaking : Option Op → List Submit → Option Submit
overtaking none submits = none
overtaking (some o) submits = first_overtaking o submits

-- the submit that overtook member i's k-th operation: none where that does not occur or was not aborted
unfoldable pub overtaker_in : Watch → ℕ → ℕ → Option Submit
overtaker_in w i k = overtaking (aborted_op i k w.decided) w.submits

-- Of a script.

-- a refusal's number; or the member and the step number
pub data Overtaker : Type 0 where
  refuses : ℕ → Overtaker
  names : ℕ → ℕ → Overtaker

-- "then 31, the operation does not occur or was not aborted"
unfoldable pub named : Option Submit → Overtaker
named none = refuses 31
named (some s) = names s.member s.at

-- "17, .. any line of another form"

unfoldable pub is_call : Option Call → Bool
is_call none = false
is_call (some call) = true

unfoldable pub well_formed : List (List ℕ) → Bool
well_formed [] = true
well_formed (line ∷ lines) = is_call (line_call line) && well_formed lines

-- the lines after the first, which names n: "then 1, members not 1 to 12". Each line makes one call, so a step's number is its call's.
unfoldable pub lines_overtaker : ℕ → List (List ℕ) → ℕ → ℕ → Overtaker
lines_overtaker n lines i k =
    let calls = calls_of lines in
    let seen = table_run concur (table_words n (opened n)) calls in
    cond (not (well_formed lines)) (refuses 17)
    (cond (not (is_size n)) (refuses 1)
    (named (overtaker_in (watched calls seen) i k)))

unfoldable pub members_overtaker : Option ℕ → List (List ℕ) → ℕ → ℕ → Overtaker
members_overtaker none lines i k = refuses 17
members_overtaker (some n) lines i k = lines_overtaker n lines i k

-- "no line at all"
unfoldable pub script_overtaker : List (List ℕ) → ℕ → ℕ → Overtaker
script_overtaker [] i k = refuses 17
script_overtaker (first ∷ lines) i k = members_overtaker (first_of first) lines i k

-- "a script of at most 65,535 bytes"; "a longer script, before any line is read"
abbrev pub most_bytes : ℕ
most_bytes = 65535

unfoldable pub overtaker : List ℕ → ℕ → ℕ → Overtaker
overtaker input i k = cond (ltb most_bytes (length input)) (refuses 17) (script_overtaker (lines_of input) i k)

-- The program.

-- the operation asked for
pub record Asked : Type 0 where
  pub member : ℕ
  pub ordinal : ℕ

unfoldable pub both_numbers : Option ℕ → Option ℕ → Option Asked
both_numbers none y = none
both_numbers (some x) none = none
both_numbers (some x) (some y) = some (record { member = x; ordinal = y })

-- "arguments that are not two numbers as a script writes them": how many there are, and the bytes of the first two
unfoldable pub asked_by : ℕ → List ℕ → List ℕ → Option Asked
asked_by count first second = cond (eqb count 2) (both_numbers (number_of first) (number_of second)) none

-- one answer where the arguments ask for no operation, and one to the operation that they ask for
unfoldable pub for_asked : {A : Type 0} → A → (ℕ → ℕ → A) → Option Asked → A
for_asked otherwise answer none = otherwise
for_asked otherwise answer (some a) = answer a.member a.ordinal

unfoldable pub overtaker_for : Option Asked → List ℕ → Overtaker
overtaker_for a input = for_asked (refuses 17) (overtaker input) a

-- "It prints on one line, with one space between, the member and step number .. A refusal prints its number alone."
unfoldable pub printed_overtaker : Overtaker → List ℕ
printed_overtaker (refuses number) = field (some number) line_feed
printed_overtaker (names member step) = field (some member) space ++ field (some step) line_feed

-- the program: what it prints of its arguments and of what it reads
unfoldable pub overtaker_output : ℕ → List ℕ → List ℕ → List ℕ → List ℕ
overtaker_output count first second input = printed_overtaker (overtaker_for (asked_by count first second) input)
