-- Scripts and what the programs print of them: document 01's example, and the readings of docs/DECISIONS.md.
use Rattle.std.specs.Prelude.{ℕ, zero, suc, ◌≡◌, List, [], ◌∷◌, ◌++◌}
use Prim.Native.String.{String}
use Rattle.model.specs.Kinds.{concur}
use Rattle.model.specs.Script.{text, line_feed, script_output}
use Rattle.model.specs.Bill.{bill_output}

pub record Example : Type 0 where
  pub input : String
  pub output : String

infix 70 ◌prints◌
abbrev pub ◌prints◌ : String → String → Example
input prints output = record { input = input; output = output }

abbrev pub Holds : Example → Type 0
Holds e = script_output concur (text e.input) ≡ text e.output

unfoldable pub examples : List Example
examples =
    -- document 01's
    ("members 2\nwrite 1 77\ndeliver 1\ndeliver 1\ndeliver 1\ndeliver 1\nread 2 1\ndeliver 2\ndeliver 2\ndeliver 2\ndeliver 2\n"
    prints "board 2\n1 0 1 -\n2 0 2 -\n3 0 3 -\n4 0 4 -\n5 0 0 -\n6 0 1 -\n7 0 2 -\n8 0 3 -\n9 0 4 -\n10 0 0 77\n")
    -- the first line: form before n, every number below 2^32, no leading zeros, a line feed that may be lacking
    ∷ ("" prints "board refused 17\n")
    ∷ ("\n" prints "board refused 17\n")
    ∷ ("members 4294967296\ndeliver 1\n" prints "board refused 17\n")
    ∷ ("members 4294967295\ndeliver 1\n" prints "board refused 1\n")
    ∷ ("members 0" prints "board refused 1\n")
    ∷ ("members 01" prints "board refused 17\n")
    ∷ ("members 13" prints "board refused 1\n")
    ∷ ("members 12 " prints "board refused 17\n")
    ∷ ("members 1" prints "board 1\n")
    -- an empty line is a step, and so is any other of another form; the empty piece behind the last line feed is none
    ∷ ("members 1\n\ndeliver\nwrite 1  5\nwrite 1 00\nwrite +1 5\nwrite 1 5 \nwrite 1\t5\ncrash 1\r\n"
    prints "board 1\n1 17 - -\n2 17 - -\n3 17 - -\n4 17 - -\n5 17 - -\n6 17 - -\n7 17 - -\n8 17 - -\n")
    -- the phase is `-` for 4 and 17 alone; 0 is a number
    ∷ ("members 2\ndeliver 0\ndeliver 3\nread 1 3\nread 1 0\ndeliver 1\nwrite 1 0\nwrite 1 0\ncrash 1\ncrash 1"
    prints "board 2\n1 4 - -\n2 4 - -\n3 5 0 -\n4 5 0 -\n5 10 0 -\n6 0 1 -\n7 8 1 -\n8 0 1 -\n9 11 1 -\n")
    -- an accepted read of a slot that was never written prints 0
    ∷ ("members 2\nread 1 2\ndeliver 1\ndeliver 1\ndeliver 1\ndeliver 1"
    prints "board 2\n1 0 1 -\n2 0 2 -\n3 0 3 -\n4 0 4 -\n5 0 0 0\n")
    -- a member reads its own slot (document 02, (a)), here the only one
    ∷ ("members 1\nwrite 1 9\ndeliver 1\ndeliver 1\ndeliver 1\ndeliver 1\nread 1 1\ndeliver 1\ndeliver 1\ndeliver 1\ndeliver 1"
    prints "board 1\n1 0 1 -\n2 0 2 -\n3 0 3 -\n4 0 4 -\n5 0 0 -\n6 0 1 -\n7 0 2 -\n8 0 3 -\n9 0 4 -\n10 0 0 9\n")
    ∷ []

-- Bills (document 02, (k)): a script as bytes, and what the bill program prints of it.

pub record Billed : Type 0 where
  pub script : List ℕ
  pub output : String

infix 70 ◌owes◌
abbrev pub ◌owes◌ : List ℕ → String → Billed
script owes output = record { script = script; output = output }

abbrev pub Owes : Billed → Type 0
Owes b = bill_output concur b.script ≡ text b.output

-- a text so many times
unfoldable pub times : ℕ → String → List ℕ
times zero s = []
times (suc k) s = text s ++ times k s

abbrev pub behind100 : String → List ℕ
behind100 steps = text "members 1\n" ++ (times 100 "write 1 7\ndeliver 1\ndeliver 1\ndeliver 1\ndeliver 1\n" ++ text steps)

unfoldable pub bills : List Billed
bills =
    -- refused as the board program refuses it
    (text "" owes "board refused 17\n")
    ∷ (text "members 2 \nwrite 1 7\n" owes "board refused 17\n")
    ∷ (text "members 13\nwrite 1 7\n" owes "board refused 1\n")
    -- a line for each member, also for 0 cents, and the total
    ∷ (text "members 1" owes "1 0\n0\n")
    ∷ (text "members 3\nwrite 1 7\nbid 1\n\ndeliver 1\ndeliver 1\ndeliver 1\n" owes "1 0\n2 0\n3 0\n0\n")
    -- 100 writes are free, and what is behind them is not: a write costs 35 tenths once the host has accepted it, an own read 4
    ∷ (behind100 "write 1 8\ndeliver 1\ndeliver 1\ndeliver 1" owes "1 4\n4\n")
    ∷ (behind100 "read 1 1\ndeliver 1\ndeliver 1\ndeliver 1\ncrash 1\n" owes "1 1\n1\n")
    ∷ []

-- A question about an operation: a script, the number of arguments, the first two, and what is printed.
pub record Question : Type 0 where
  pub script : List ℕ
  pub count : ℕ
  pub first : String
  pub second : String
  pub output : String

-- a program that is asked prints that
abbrev pub Answers : (ℕ → List ℕ → List ℕ → List ℕ → List ℕ) → Question → Type 0
Answers output q = output q.count (text q.first) (text q.second) q.script ≡ text q.output

-- two arguments
abbrev pub asks : String → String → String → String → Question
asks script first second output = record { script = text script; count = 2; first = first; second = second; output = output }

-- some arguments for a script in which member 2 overtakes member 1's write at step 4
abbrev pub asked : ℕ → String → String → String → Question
asked count first second output = record {
  script = text "members 2\nwrite 1 7\ndeliver 1\nread 2 1\ndeliver 2\ndeliver 1\ndeliver 1\n";
  count = count;
  first = first;
  second = second;
  output = output;
}

-- Who overtook it.
unfoldable pub questions : List Question
questions =
    asked 2 "1" "1" "2 4\n"
    -- arguments that are not two numbers: too few, too many, no digits, a leading zero, a sign, 2^32
    ∷ asked 0 "" "" "17\n"
    ∷ asked 1 "1" "" "17\n"
    ∷ asked 3 "1" "1" "17\n"
    ∷ asked 2 "" "1" "17\n"
    ∷ asked 2 "1" "x" "17\n"
    ∷ asked 2 "01" "1" "17\n"
    ∷ asked 2 "1" "+1" "17\n"
    ∷ asked 2 "1" "4294967296" "17\n"
    -- no such member, no such ordinal, and an operation that never reached its verdict
    ∷ asked 2 "0" "1" "31\n"
    ∷ asked 2 "3" "1" "31\n"
    ∷ asked 2 "1" "0" "31\n"
    ∷ asked 2 "1" "2" "31\n"
    ∷ asked 2 "1" "4294967295" "31\n"
    ∷ asked 2 "2" "1" "31\n"
    ∷ asks "members 2\nwrite 1 7\ndeliver 1\nread 2 1\ndeliver 2\ndeliver 1\n" "1" "1" "31\n"
    -- an accepted one, though a submit came before its own, and one behind its verdict
    ∷ asks "members 2\nread 2 1\ndeliver 2\nwrite 1 7\ndeliver 1\ndeliver 1\ndeliver 1\nread 2 1\ndeliver 2" "1" "1" "31\n"
    ∷ asks "members 2\nwrite 1 7\ndeliver 1\ndeliver 1\ndeliver 1\nread 2 1\ndeliver 2\ndeliver 1" "1" "1" "31\n"
    -- the first of several, not the last, and not the one of the lowest number
    ∷ asks "members 3\nread 1 3\nread 2 3\nwrite 3 5\ndeliver 1\ndeliver 3\ndeliver 2\ndeliver 1\ndeliver 1" "1" "1" "3 5\n"
    -- neither on another slot nor before its own submit
    ∷ asks "members 3\nwrite 1 7\ndeliver 1\nread 2 3\ndeliver 2\nread 3 1\ndeliver 3\ndeliver 1\ndeliver 1" "1" "1" "3 6\n"
    ∷ asks "members 3\nwrite 1 7\nread 3 1\ndeliver 3\ndeliver 1\nread 2 1\ndeliver 2\ndeliver 1\ndeliver 1" "1" "1" "2 6\n"
    -- a crashed member's submit, and an abort that is never told
    ∷ asks "members 2\nwrite 1 7\ndeliver 1\nread 2 1\ncrash 2\ndeliver 2\ndeliver 1\ncrash 1\ndeliver 1" "1" "1" "2 5\n"
    -- refused begins have no ordinal, and refused steps have a number: the first and third lines here are refused
    ∷ asks "members 2\nread 1 3\nwrite 1 7\nwrite 1 8\ndeliver 1\nread 2 1\ndeliver 2\ndeliver 1\ndeliver 1" "1" "1" "2 6\n"
    -- ordinals go over all slots and both types
    ∷ asks "members 2\nread 1 2\ndeliver 1\ndeliver 1\ndeliver 1\ndeliver 1\nread 1 1\ndeliver 1\nwrite 2 5\nread 2 1\ndeliver 2\ndeliver 2"
    "1" "2" "31\n"
    ∷ asks "members 2\nread 1 2\ndeliver 1\ndeliver 1\ndeliver 1\ndeliver 1\nread 1 1\ndeliver 1\nread 2 1\ndeliver 2\ndeliver 1\ndeliver 1"
    "1" "2" "2 9\n"
    -- a line of another form anywhere, also behind the verdict, comes before a bad n, and that before the operation
    ∷ asks "" "1" "1" "17\n"
    ∷ asks "member 2\n" "1" "1" "17\n"
    ∷ asks "members 2" "1" "1" "31\n"
    ∷ asks "members 2\n\n" "1" "1" "17\n"
    ∷ asks "members 2\nwrite 1 7\ndeliver 1\nread 2 1\ndeliver 2\ndeliver 1\ndeliver 1\nmembers 2\n" "1" "1" "17\n"
    ∷ asks "members 13\nwrite 1 7\n" "1" "1" "1\n"
    ∷ asks "members 0\n" "1" "1" "1\n"
    ∷ asks "members 13\nbid 1\n" "1" "1" "17\n"
    ∷ []

-- The step that cost it.

-- a first line, and k empty ones
unfoldable pub line_feeds : ℕ → List ℕ
line_feeds zero = []
line_feeds (suc k) = line_feed ∷ line_feeds k

abbrev pub blank : ℕ → String → ℕ → String → Question
blank count first k output =
    record { script = text first ++ line_feeds k; count = count; first = "1"; second = "1"; output = output }

unfoldable pub cause_questions : List Question
cause_questions =
    -- one overtaker: its begin, though the deliver of its submit would do as well
    asked 2 "1" "1" "3\n"
    ∷ asks "members 2\nread 2 1\ndeliver 2\nwrite 1 7\ndeliver 1\ndeliver 2\ndeliver 2" "2" "1" "3\n"
    -- without its first begin its second one counts, which was refused: so it is the deliver of its submit
    ∷ asks "members 2\nwrite 1 7\ndeliver 1\nread 2 1\nread 2 1\ndeliver 2\ndeliver 1\ndeliver 1" "1" "1" "5\n"
    -- a deliver of an earlier operation of the overtaker, long before: its next begin is then refused; without that operation's begin
    -- the delivers are refused, and the next begin counts as before
    ∷ asks "members 2\nread 2 2\ndeliver 2\ndeliver 2\ndeliver 2\ndeliver 2\nread 1 1\ndeliver 1\nread 2 1\ndeliver 2\ndeliver 1\ndeliver 1"
    "1" "1" "2\n"
    -- two different overtakers, and one that overtakes twice: none by itself
    ∷ asks "members 3\nwrite 1 7\ndeliver 1\nread 2 1\ndeliver 2\nread 3 1\ndeliver 3\ndeliver 1\ndeliver 1" "1" "1" "none\n"
    ∷ asks "members 2\nread 1 1\ndeliver 1\nread 2 1\ndeliver 2\ndeliver 2\ndeliver 2\ndeliver 2\nread 2 1\ndeliver 2\ndeliver 1\ndeliver 1"
    "1" "1" "none\n"
    -- own steps do not count: without step 2 the submit would come after the other
    ∷ asks "members 2\nwrite 1 7\ndeliver 1\nread 2 1\ndeliver 2\ndeliver 1\ndeliver 1\ndeliver 1" "1" "1" "3\n"
    -- a crash of the overtaker, or of a bystander, does nothing
    ∷ asks "members 3\ncrash 3\nwrite 1 7\ndeliver 1\nread 2 1\ncrash 2\ndeliver 2\ndeliver 1\ndeliver 1" "1" "1" "4\n"
    -- the second operation, after an accepted one; and a step of two digits, after two that are refused
    ∷ asks "members 2\nread 1 2\ndeliver 1\ndeliver 1\ndeliver 1\ndeliver 1\nread 1 1\ndeliver 1\nread 2 1\ndeliver 2\ndeliver 1\ndeliver 1"
    "1" "2" "8\n"
    ∷ record {
      script = text "members 2\nread 1 2\ndeliver 1\ndeliver 1\ndeliver 1\ndeliver 1\ncrash 3\ncrash 3\n"
          ++ text "read 1 1\ndeliver 1\nread 2 1\ndeliver 2\ndeliver 1\ndeliver 1";
      count = 2;
      first = "1";
      second = "2";
      output = "10\n";
    }
    -- 31: accepted, unfinished, not there
    ∷ asks "members 2\nwrite 1 7\ndeliver 1\ndeliver 1\ndeliver 1\nread 2 1\ndeliver 2" "1" "1" "31\n"
    ∷ asks "members 2\nwrite 1 7\ndeliver 1\nread 2 1\ndeliver 2\ndeliver 1" "1" "1" "31\n"
    ∷ asks "members 2\nwrite 1 7\ndeliver 1\ncrash 1\nread 2 1\ndeliver 2\ndeliver 1\ndeliver 1" "1" "1" "31\n"
    ∷ asked 2 "1" "2" "31\n"
    ∷ asked 2 "2" "1" "31\n"
    ∷ asked 2 "3" "1" "31\n"
    -- 35: one line more than 256 behind the first, whatever they and the first are; the arguments come before
    ∷ blank 2 "members 1\n" 256 "17\n"
    ∷ blank 2 "members 1\n" 257 "35\n"
    ∷ blank 2 "members 13\n" 257 "35\n"
    ∷ blank 2 "" 257 "17\n"
    ∷ blank 2 "" 258 "35\n"
    ∷ blank 1 "members 1\n" 257 "17\n"
    -- 17 and 1 as for the overtaker
    ∷ asks "" "1" "1" "17\n"
    ∷ asked 3 "1" "1" "17\n"
    ∷ asked 2 "1" "01" "17\n"
    ∷ asks "members 2\nwrite 1 7\ndeliver 1\nread 2 1\ndeliver 2\ndeliver 1\ndeliver 1\nmembers 2\n" "1" "1" "17\n"
    ∷ asks "members 13\nbid 1\n" "1" "1" "17\n"
    ∷ asks "members 13\nwrite 1 7\n" "1" "1" "1\n"
    ∷ []
