-- The board program's lines as bytes: how they are read, what each does, and what is printed in the end. Document 01, "The board program".
use Rattle.std.specs.Prelude.{ℕ, zero, suc, ◌+◌, ◌-◌, ◌*◌, ◌/◌, ◌%◌, ◌^◌, ◌<◌, Bool, true, false, cond, ◌&&◌, ◌||◌, List, [], ◌∷◌}
use Rattle.std.specs.Prelude.{◌++◌, eqb, leb, ltb, length, take, drop}
use Prim.Native.Char.{code}
use Prim.Native.String.{String}
use Rattle.std.proofs.Math.Option.{Option, none, some}
use Rattle.lists.specs.Functions.{put, inside}
use Rattle.lists.specs.Parts.{words}
use Rattle.model.specs.Records.{Value, zero_value, read, write}
use Rattle.model.specs.Kinds.{Kind}
use Rattle.model.specs.Board.{opened}
use Rattle.model.specs.Runs.{Call, begin, deliver, crash, Seen, Step, step}
use Rattle.model.specs.Table.{table_words}
use Rattle.model.specs.TableCalls.{table_after, table_seen}

-- Bytes.

-- the bytes of a text, of which every character is one byte
abbrev pub text : String → List ℕ
text String.[] = []
text (String.◌∷◌ c s) = code c ∷ text s

abbrev pub line_feed : ℕ
line_feed = 10

abbrev pub space : ℕ
space = 32

abbrev pub dash : ℕ
dash = 45

-- the digits are the bytes 48 to 57
abbrev pub digit_zero : ℕ
digit_zero = 48

unfoldable pub is_digit : ℕ → Bool
is_digit b = leb digit_zero b && leb b (digit_zero + 9)

-- the words of the lines, each with the space behind it

abbrev pub members_word : List ℕ
members_word = text "members "

abbrev pub write_word : List ℕ
write_word = text "write "

abbrev pub read_word : List ℕ
read_word = text "read "

abbrev pub deliver_word : List ℕ
deliver_word = text "deliver "

abbrev pub crash_word : List ℕ
crash_word = text "crash "

abbrev pub board_word : List ℕ
board_word = text "board "

abbrev pub refused_word : List ℕ
refused_word = text "board refused "

unfoldable pub starts_with : List ℕ → List ℕ → Bool
starts_with [] l = true
starts_with (a ∷ word) [] = false
starts_with (a ∷ word) (b ∷ l) = eqb a b && starts_with word l

-- the bytes before the first b, and those after it: all and none where there is no b
unfoldable pub before : ℕ → List ℕ → List ℕ
before b [] = []
before b (a ∷ l) = cond (eqb a b) [] (a ∷ before b l)

unfoldable pub beyond : ℕ → List ℕ → List ℕ
beyond b [] = []
beyond b (a ∷ l) = cond (eqb a b) l (beyond b l)

-- Numbers in base ten.

-- the digits of x, k of them at most: those of x / 10, if x has more than one, and the last
unfoldable pub digits_within : ℕ → ℕ → List ℕ
digits_within zero x = []
digits_within (suc k) x = let more = digits_within k (x / 10) in cond (ltb x 10) [] more ++ ((digit_zero + x % 10) ∷ [])

-- the digits of x, of which there are never more than x + 1
unfoldable pub digits : ℕ → List ℕ
digits x = digits_within (suc x) x

-- the number that l's digits write behind those of x; none where a byte is no digit
unfoldable pub digits_read : ℕ → List ℕ → Option ℕ
digits_read x [] = some x
digits_read x (b ∷ l) = cond (is_digit b) (digits_read (x * 10 + (b - digit_zero)) l) none

-- "values below 2^32"
unfoldable pub limited : Option ℕ → Option ℕ
limited none = none
limited (some x) = cond (ltb x (2 ^ 32)) (some x) none

-- "digits without leading zeros": `0` has none, `00` and `01` have one
unfoldable pub leading_zero : List ℕ → Bool
leading_zero l = ltb 1 (length l) && eqb (words l 0) digit_zero

unfoldable pub number_of : List ℕ → Option ℕ
number_of l = cond (eqb (length l) 0 || leading_zero l) none (limited (digits_read 0 l))

-- Lines of a script, without the line feed.

-- `write M V`, `read M R`, `deliver M`, `crash M`, and any other
pub data Line : Type 0 where
  writes : ℕ → ℕ → Line
  reads : ℕ → ℕ → Line
  delivers : ℕ → Line
  crashes : ℕ → Line
  malformed : Line

unfoldable pub one_number : (ℕ → Line) → Option ℕ → Line
one_number line none = malformed
one_number line (some x) = line x

unfoldable pub two_numbers : (ℕ → ℕ → Line) → Option ℕ → Option ℕ → Line
two_numbers line none y = malformed
two_numbers line (some x) none = malformed
two_numbers line (some x) (some y) = line x y

-- what stands behind a line's word: a number, or two with one space between
abbrev pub single : (ℕ → Line) → List ℕ → Line
single line l = one_number line (number_of l)

abbrev pub double : (ℕ → ℕ → Line) → List ℕ → Line
double line l = two_numbers line (number_of (before space l)) (number_of (beyond space l))

unfoldable pub line_of : List ℕ → Line
line_of l =
    cond (starts_with write_word l) (double writes (drop (length write_word) l))
    (cond (starts_with read_word l) (double reads (drop (length read_word) l))
    (cond (starts_with deliver_word l) (single delivers (drop (length deliver_word) l))
    (cond (starts_with crash_word l) (single crashes (drop (length crash_word) l))
    malformed)))

-- the text of a line; each reads back as its line if its numbers are bounded, and no other text reads as a line
unfoldable pub text_of : Line → List ℕ
text_of (writes m v) = write_word ++ (digits m ++ space ∷ digits v)
text_of (reads m r) = read_word ++ (digits m ++ space ∷ digits r)
text_of (delivers m) = deliver_word ++ digits m
text_of (crashes m) = crash_word ++ digits m
text_of malformed = []

abbrev pub Bounded : Line → Type 0
Bounded (writes m v) = (m < 2 ^ 32) × (v < 2 ^ 32)
Bounded (reads m r) = (m < 2 ^ 32) × (r < 2 ^ 32)
Bounded (delivers m) = m < 2 ^ 32
Bounded (crashes m) = m < 2 ^ 32
Bounded malformed = ⊥

-- the first line, `members N`
unfoldable pub first_of : List ℕ → Option ℕ
first_of l = cond (starts_with members_word l) (number_of (drop (length members_word) l)) none

-- Steps.

-- the call that a line makes: "V fills the sheet's last word, the other seven being zero"; a script's write is to the member's own slot
unfoldable pub call_of : Line → Option Call
call_of (writes m v) = some (begin m m write (put zero_value 8 v))
call_of (reads m r) = some (begin m r read zero_value)
call_of (delivers m) = some (deliver m)
call_of (crashes m) = some (crash m)
call_of malformed = none

-- the call that the bytes of a line make: none where they have another form
abbrev pub line_call : List ℕ → Option Call
line_call line = call_of (line_of line)

-- the calls of the lines that make one, in order
unfoldable pub with_call : Option Call → List Call → List Call
with_call none calls = calls
with_call (some call) calls = call ∷ calls

unfoldable pub calls_of : List (List ℕ) → List Call
calls_of [] = []
calls_of (line ∷ lines) = with_call (line_call line) (calls_of lines)

unfoldable pub caller : Call → ℕ
caller (begin i r t v) = i
caller (deliver i) = i
caller (crash i) = i

-- the table after a line, and what happened at it: the call and what was seen, or none where the line makes no call
pub record Stepped : Type 0 where
  pub table : List ℕ
  pub happened : Option Step

-- A line of another form is a step that leaves the table.
unfoldable pub stepped : Kind → List ℕ → Option Call → Stepped
stepped kind table none = record { table = table; happened = none }
stepped kind table (some call) =
    record { table = table_after kind table call; happened = some (step call (table_seen kind table call)) }

unfoldable pub step_line : Kind → List ℕ → List ℕ → Stepped
step_line kind table line = stepped kind table (line_call line)

-- each line, on the table that the one before left
unfoldable pub steps_from : Kind → List ℕ → List (List ℕ) → List (Option Step)
steps_from kind table [] = []
steps_from kind table (line ∷ lines) =
    let s = step_line kind table line in
    s.happened ∷ steps_from kind s.table lines

-- the call that a step made: none where its line is malformed
unfoldable pub step_call : Option Step → Option Call
step_call none = none
step_call (some (step call s)) = some call

-- the calls that steps made, in order, and what was seen at them

unfoldable pub made_by : List (Option Step) → List Call
made_by [] = []
made_by (s ∷ steps) = with_call (step_call s) (made_by steps)

unfoldable pub with_seen : Option Step → List Seen → List Seen
with_seen none seen = seen
with_seen (some (step call s)) seen = s ∷ seen

unfoldable pub seen_of : List (Option Step) → List Seen
seen_of [] = []
seen_of (s ∷ steps) = with_seen s (seen_of steps)

-- Whole scripts.

-- "A line ends with a line feed, which the last may lack": the lines of l, of which the first goes on with the byte b
unfoldable pub with_byte : ℕ → List (List ℕ) → List (List ℕ)
with_byte b [] = (b ∷ []) ∷ []
with_byte b (line ∷ lines) = (b ∷ line) ∷ lines

unfoldable pub lines_of : List ℕ → List (List ℕ)
lines_of [] = []
lines_of (b ∷ l) = cond (eqb b line_feed) ([] ∷ lines_of l) (with_byte b (lines_of l))

-- "It ends after 1,000,000 steps."
abbrev pub most_steps : ℕ
most_steps = 1000000

-- a script's run: the first line is refused with a number, or a board of n members is opened, and each line after it is a step
pub data Run : Type 0 where
  refused : ℕ → Run
  ran : ℕ → List (Option Step) → Run

unfoldable pub board_run : Kind → Option ℕ → List (List ℕ) → Run
board_run kind none lines = refused 17
board_run kind (some n) lines =
    cond (inside kind.most n) (ran n (steps_from kind (table_words n (opened n)) (take most_steps lines))) (refused 1)

-- an empty script has no first line
unfoldable pub lines_run : Kind → List (List ℕ) → Run
lines_run kind [] = refused 17
lines_run kind (line ∷ lines) = board_run kind (first_of line) lines

unfoldable pub script_run : Kind → List ℕ → Run
script_run kind input = lines_run kind (lines_of input)

-- What is printed of a run.

unfoldable pub or_dash : Option ℕ → List ℕ
or_dash none = dash ∷ []
or_dash (some x) = digits x

-- a number or `-`, and the byte after it
abbrev pub field : Option ℕ → ℕ → List ℕ
field x end = or_dash x ++ (end ∷ [])

-- "step, answer, the member's phase after it, and the last word of a sheet just returned or `-`"
unfoldable pub printed_line : ℕ → ℕ → Option ℕ → Option ℕ → List ℕ
printed_line k answer phase word =
    field (some k) space ++ (field (some answer) space ++ (field phase space ++ field word line_feed))

unfoldable pub last_word : Option Value → Option ℕ
last_word none = none
last_word (some v) = some (v 8)

-- "For 4 and 17 the phase is `-`."
unfoldable pub printed_step : ℕ → Option Step → List ℕ
printed_step k none = printed_line k 17 none none
printed_step k (some (step call s)) =
    printed_line k s.answer (cond (eqb s.answer 4) none (some (s.phases (caller call)))) (last_word s.returned)

-- the steps from number k on
unfoldable pub printed_steps : ℕ → List (Option Step) → List ℕ
printed_steps k [] = []
printed_steps k (s ∷ steps) = printed_step k s ++ printed_steps (k + 1) steps

-- `board N`, or `board refused 17` (or `1`)
unfoldable pub board_line : ℕ → List ℕ
board_line n = board_word ++ field (some n) line_feed

unfoldable pub refused_line : ℕ → List ℕ
refused_line number = refused_word ++ field (some number) line_feed

unfoldable pub printed_run : Run → List ℕ
printed_run (refused number) = refused_line number
printed_run (ran n steps) = board_line n ++ printed_steps 1 steps

-- the program: what it prints of what it reads
unfoldable pub script_output : Kind → List ℕ → List ℕ
script_output kind input = printed_run (script_run kind input)
