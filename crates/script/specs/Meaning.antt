-- How the code holds what it read, and what it is handed to print.
use Rattle.std.specs.Prelude.{ℕ, ◌+◌, ◌≡◌, List, length, Option, Some, None}
use Rattle.lists.specs.Parts.{replaced}
use Rattle.std.proofs.Math.Option.{Option as Given, none, some}
use Rattle.model.specs.Script.{Line, writes, reads, delivers, crashes, malformed}
use Rattle.script.specs.declared.Line.{Line as LineRead}
use Rattle.script.specs.declared.Line.TheVariants.{Write, Read, Deliver, Crash}

-- The definitions have one Option, and the code has another.

abbrev pub held_number : Given ℕ → Option ℕ
held_number none = None
held_number (some x) = Some x

-- a malformed line is none
abbrev pub held_line : Line → Option LineRead
held_line (writes m v) = Some (Write m v)
held_line (reads m r) = Some (Read m r)
held_line (delivers m) = Some (Deliver m)
held_line (crashes m) = Some (Crash m)
held_line malformed = None

-- two numbers, both of which could be read
abbrev pub held_pair : Given ℕ → Given ℕ → Option (ℕ × ℕ)
held_pair none y = None
held_pair (some x) none = None
held_pair (some x) (some y) = Some (x, y)

-- the member that a line names
abbrev pub line_member : LineRead → ℕ
line_member (Write m v) = m
line_member (Read m r) = m
line_member (Deliver m) = m
line_member (Crash m) = m

-- no line of a good form is longer (`write M V`), and no line that is printed (four numbers, and a byte behind each)

abbrev pub longest_line : ℕ
longest_line = 27

abbrev pub longest_printed : ℕ
longest_printed = 44

-- what the code is handed to print: a number, or none
abbrev pub given : Option ℕ → Given ℕ
given None = none
given (Some x) = some x

-- the text was printed from a place on, and the next place is just behind it
pub record Printed (before after : List ℕ) (place : ℕ) (text : List ℕ) (next : ℕ) : Type 0 where
  pub behind : next ≡ place + length text
  pub bytes : after ≡ replaced before place text
