-- The worked cases of document 01, "Boards to prove" and "Plausible and false", as rows of one table. Own reads are in OwnReadCases.antt,
-- replies in ReplyCases.antt, auction boards in AuctionCases.antt.
use Rattle.std.specs.Prelude.{ℕ, List, [], ◌∷◌, ◌++◌}
use Rattle.lists.specs.Functions.{put}
use Rattle.model.specs.Rows.{zero_row, zero_matrix}
use Rattle.model.specs.Records.{read, write, zero_value}
use Rattle.model.specs.Board.{opened, with_member}
use Rattle.model.specs.Runs.{Call, begin, deliver, crash}
use Rattle.runs.specs.Case.{writes, reads, delivers, whole_write, whole_read, pair, triple, prints, output, newest, records, messages}
use Rattle.runs.specs.Case.{phases, halts, decided, running, submits, sizes, opens, ◌is◌, Claim, Case}
use Rattle.runs.specs.OwnReadCases.{own_reads, writes_alone}
use Rattle.runs.specs.ReplyCases.{idle_with, reply_cases}

-- The board program's example, all ten lines after `board 2`; and what stands in slot 1 after its steps 5 and 9.

abbrev pub example : Case
example = record {
  n = 2;
  start = opened 2;
  calls = writes 1 77 ∷ delivers 1 4 ++ (reads 2 1 ∷ delivers 2 4);
  claims =
      output is (pair 0 1 ∷ pair 0 2 ∷ pair 0 3 ∷ pair 0 4 ∷ pair 0 0
      ∷ pair 0 1 ∷ pair 0 2 ∷ pair 0 3 ∷ pair 0 4 ∷ triple 0 0 77 ∷ [])
      ∷ decided is ((2 ∷ 1 ∷ 1 ∷ read ∷ 0 ∷ 6 ∷ 7 ∷ 9 ∷ 1 ∷ 10 ∷ 77 ∷ []) ∷ (1 ∷ 1 ∷ 1 ∷ write ∷ 77 ∷ 1 ∷ 2 ∷ 4 ∷ 1 ∷ 5 ∷ []) ∷ [])
      ∷ submits is (triple 7 2 1 ∷ triple 2 1 1 ∷ [])
      ∷ [];
}

abbrev pub p2 : Case
p2 = record {
  n = 2;
  start = opened 2;
  calls = whole_write 1 77;
  claims = newest 1 is (pair 1 0 ∷ pair 0 0 ∷ []) ∷ [];
}

abbrev pub p3 : Case
p3 = record {
  n = 2;
  start = opened 2;
  calls = whole_write 1 77 ++ (reads 2 1 ∷ delivers 2 3);
  claims =
      newest 1 is (pair 1 1 ∷ pair 0 0 ∷ [])
      ∷ messages 2 is ((2 ∷ 1 ∷ read ∷ 1 ∷ 0 ∷ []) ∷ pair 1 1 ∷ pair 0 0 ∷ (1 ∷ 1 ∷ write ∷ 1 ∷ 77 ∷ []) ∷ pair 1 0 ∷ pair 0 0 ∷ [])
      ∷ [];
}

-- "n = 1 opens with 79 words; 0 and 13 give 1": of 79 words that are all 7 every one is changed; and n comes before the length
abbrev pub opening : ℕ → ℕ → ℕ → ℕ → Case
opening n words number changed = record {
  n = n;
  start = opened n;
  calls = [];
  claims = opens words is (pair number changed ∷ []) ∷ [];
}

abbrev pub p1 : List Case
p1 =
    opening 1 79 0 79 ∷ opening 0 79 1 0 ∷ opening 13 79 1 0 ∷ opening 1 78 2 0 ∷ opening 1 80 2 0 ∷ opening 13 78 1 0
    ∷ opening 2 191 0 191 ∷ []

-- "begin read 1 of slot 1": "P4 now answers 0" (document 02, (a))
abbrev pub p4 : Case
p4 = record { n = 2; start = opened 2; calls = reads 1 1 ∷ []; claims = output is (pair 0 1 ∷ []) ∷ [] }

-- Refused begins.

abbrev pub p5 : Case
p5 = record {
  n = 2;
  start = opened 2;
  calls = writes 1 77 ∷ writes 1 78 ∷ [];
  claims = output is (pair 0 1 ∷ pair 8 1 ∷ []) ∷ [];
}

-- every other number of begin, deliver and crash; the grounds of begin in their order
abbrev pub refusals : Case
refusals = record {
  n = 2;
  start = opened 2;
  calls =
      begin 3 3 3 zero_value ∷ begin 0 1 read zero_value ∷ begin 1 3 3 zero_value ∷ begin 1 0 read zero_value ∷ begin 1 1 3 zero_value
      ∷ begin 1 2 write zero_value
      ∷ deliver 3 ∷ deliver 1
      ∷ crash 3 ∷ crash 1 ∷ crash 1 ∷ begin 1 2 write zero_value ∷ reads 1 2 ∷ reads 1 1 ∷ [];
  claims =
      output is ((4 ∷ []) ∷ (4 ∷ []) ∷ pair 5 0 ∷ pair 5 0 ∷ pair 6 0 ∷ pair 7 0
      ∷ (4 ∷ []) ∷ pair 10 0
      ∷ (4 ∷ []) ∷ pair 0 0 ∷ pair 11 0 ∷ pair 7 0 ∷ pair 8 0 ∷ pair 8 0 ∷ [])
      ∷ [];
}

-- Two operations on one slot at once.

-- members 1 and 2 submit reads of slot 3, 1 then 2, and each takes its first message: steps 1 to 6
abbrev pub contended : List Call
contended = reads 1 3 ∷ reads 2 3 ∷ deliver 1 ∷ deliver 2 ∷ deliver 1 ∷ deliver 2 ∷ []

abbrev pub contended_claims : List Claim
contended_claims = phases is (triple 5 4 0 ∷ []) ∷ newest 3 is (triple 0 0 0 ∷ triple 0 0 0 ∷ triple 0 1 0 ∷ []) ∷ []

abbrev pub p6 : Case
p6 = record {
  n = 3;
  start = opened 3;
  calls = contended ++ (deliver 1 ∷ deliver 2 ∷ []);
  claims = contended_claims ++ (
      decided is ((2 ∷ 1 ∷ 3 ∷ read ∷ 0 ∷ 2 ∷ 4 ∷ 8 ∷ 1 ∷ 0 ∷ []) ∷ (1 ∷ 1 ∷ 3 ∷ read ∷ 0 ∷ 1 ∷ 3 ∷ 7 ∷ 0 ∷ 0 ∷ []) ∷ [])
      ∷ submits is (triple 4 2 3 ∷ triple 3 1 3 ∷ [])
      ∷ running 3 is ((0 ∷ 0 ∷ 0 ∷ 0 ∷ 0 ∷ 0 ∷ 0 ∷ []) ∷ [])
      ∷ []
      );
}

-- the four operations of P7, the newest first: 1's read, 2's write, 2's read, 1's aborted read
abbrev pub operations : List (List ℕ)
operations =
    (1 ∷ 2 ∷ 2 ∷ read ∷ 0 ∷ 16 ∷ 17 ∷ 19 ∷ 1 ∷ 20 ∷ 5 ∷ [])
    ∷ (2 ∷ 2 ∷ 2 ∷ write ∷ 5 ∷ 11 ∷ 12 ∷ 14 ∷ 1 ∷ 15 ∷ [])
    ∷ (2 ∷ 1 ∷ 3 ∷ read ∷ 0 ∷ 2 ∷ 4 ∷ 8 ∷ 1 ∷ 10 ∷ 0 ∷ [])
    ∷ (1 ∷ 1 ∷ 3 ∷ read ∷ 0 ∷ 1 ∷ 3 ∷ 7 ∷ 0 ∷ 9 ∷ [])
    ∷ []

-- both complete, 2 writes slot 2, 1 reads slot 2
abbrev pub p7 : Case
p7 = record {
  n = 3;
  start = opened 3;
  calls = p6.calls ++ (deliver 1 ∷ deliver 2 ∷ []) ++ whole_write 2 5 ++ whole_read 1 2;
  claims =
      newest 2 is (triple 0 0 0 ∷ triple 1 1 0 ∷ triple 0 1 0 ∷ [])
      ∷ halts is (triple 0 0 0 ∷ [])
      ∷ phases is (triple 0 0 0 ∷ [])
      ∷ decided is operations
      ∷ submits is (triple 17 1 2 ∷ triple 12 2 2 ∷ triple 4 2 3 ∷ triple 3 1 3 ∷ [])
      ∷ [];
}

-- then 1 reads slot 3
abbrev pub p8 : Case
p8 = record {
  n = 3;
  start = opened 3;
  calls = p7.calls ++ whole_read 1 3;
  claims =
      newest 3 is (triple 0 0 0 ∷ triple 1 1 0 ∷ triple 2 1 0 ∷ [])
      ∷ halts is (triple 0 0 0 ∷ [])
      ∷ phases is (triple 0 0 0 ∷ [])
      ∷ decided is ((1 ∷ 3 ∷ 3 ∷ read ∷ 0 ∷ 21 ∷ 22 ∷ 24 ∷ 1 ∷ 25 ∷ 0 ∷ []) ∷ operations)
      ∷ [];
}

-- False: "Clearing the newest submit when it is overtaken, so that nobody wins." As P6, with 2's commit before 1's.
abbrev pub newer_wins : Case
newer_wins = record {
  n = 3;
  start = opened 3;
  calls = contended ++ (deliver 2 ∷ deliver 1 ∷ []);
  claims = contended_claims;
}

-- Member 1 has begun 4,294,967,294 writes, each of them aborted. One more begins and is accepted; then the count is spent.
abbrev pub p9 : Case
p9 = record {
  n = 2;
  start = with_member (opened 2) 1 (idle_with (put zero_row 1 4294967294) zero_matrix);
  calls = whole_write 1 77 ++ (writes 1 78 ∷ []);
  claims =
      output is (prints (pair 0 0) ++ (pair 9 0 ∷ []))
      ∷ newest 1 is (pair 4294967295 0 ∷ pair 0 0 ∷ [])
      ∷ [];
}

-- Crashes.

-- a crash in phase 3: the commit is delivered and accepted, its outcome never; the value written is there for others
abbrev pub p10 : Case
p10 = record {
  n = 2;
  start = opened 2;
  calls = writes 1 77 ∷ delivers 1 2 ++ (crash 1 ∷ deliver 1 ∷ deliver 1 ∷ whole_read 2 1);
  claims =
      output
      is (pair 0 1 ∷ pair 0 2 ∷ pair 0 3 ∷ pair 0 3 ∷ pair 0 4 ∷ pair 10 4 ∷ prints (triple 0 0 77))
      ∷ newest 1 is (pair 1 1 ∷ pair 0 0 ∷ [])
      ∷ [];
}

-- a crash in phase 4: the operation was accepted, and never ends
abbrev pub crashed_accepted : Case
crashed_accepted = record {
  n = 2;
  start = opened 2;
  calls = writes 1 77 ∷ delivers 1 3 ++ (crash 1 ∷ deliver 1 ∷ whole_read 2 1);
  claims =
      output is (pair 0 1 ∷ pair 0 2 ∷ pair 0 3 ∷ pair 0 4 ∷ pair 0 4 ∷ pair 10 4 ∷ prints (triple 0 0 77))
      ∷ decided is ((2 ∷ 1 ∷ 1 ∷ read ∷ 0 ∷ 7 ∷ 8 ∷ 10 ∷ 1 ∷ 11 ∷ 77 ∷ []) ∷ (1 ∷ 1 ∷ 1 ∷ write ∷ 77 ∷ 1 ∷ 2 ∷ 4 ∷ 1 ∷ 0 ∷ []) ∷ [])
      ∷ submits is (triple 8 2 1 ∷ triple 2 1 1 ∷ [])
      ∷ [];
}

-- a crash in phase 5, of the one that P6 aborts: it takes no outcome, and the other ends as before
abbrev pub crashed_aborted : Case
crashed_aborted = record {
  n = 3;
  start = opened 3;
  calls = contended ++ (deliver 1 ∷ crash 1 ∷ deliver 1 ∷ deliver 2 ∷ deliver 2 ∷ []);
  claims =
      output is (pair 0 1 ∷ pair 0 1 ∷ pair 0 2 ∷ pair 0 2 ∷ pair 0 3 ∷ pair 0 3
      ∷ pair 0 5 ∷ pair 0 5 ∷ pair 10 5 ∷ pair 0 4 ∷ triple 0 0 0 ∷ [])
      ∷ decided is ((2 ∷ 1 ∷ 3 ∷ read ∷ 0 ∷ 2 ∷ 4 ∷ 10 ∷ 1 ∷ 11 ∷ 0 ∷ []) ∷ (1 ∷ 1 ∷ 3 ∷ read ∷ 0 ∷ 1 ∷ 3 ∷ 7 ∷ 0 ∷ 0 ∷ []) ∷ [])
      ∷ [];
}

-- False: "Letting a crashed member's submit, once taken, abort operations whose submits the host takes after it."
abbrev pub crashed_submit : Case
crashed_submit = record {
  n = 3;
  start = opened 3;
  calls = reads 1 3 ∷ deliver 1 ∷ crash 1 ∷ whole_read 2 3 ++ whole_write 3 9 ++ (deliver 1 ∷ []);
  claims =
      output
      is (pair 0 1 ∷ pair 0 2 ∷ pair 0 2 ∷ prints (triple 0 0 0) ++ prints (pair 0 0) ++ (pair 10 2 ∷ []))
      ∷ newest 3 is (triple 0 0 0 ∷ triple 0 0 0 ∷ triple 0 1 1 ∷ [])
      ∷ running 1 is ((1 ∷ 1 ∷ 3 ∷ read ∷ 0 ∷ 1 ∷ 2 ∷ []) ∷ [])
      ∷ decided is ((3 ∷ 1 ∷ 3 ∷ write ∷ 9 ∷ 9 ∷ 10 ∷ 12 ∷ 1 ∷ 13 ∷ []) ∷ (2 ∷ 1 ∷ 3 ∷ read ∷ 0 ∷ 4 ∷ 5 ∷ 7 ∷ 1 ∷ 8 ∷ 0 ∷ []) ∷ [])
      ∷ submits is (triple 10 3 3 ∷ triple 5 2 3 ∷ triple 2 1 3 ∷ [])
      ∷ [];
}

-- It does abort one whose submit was taken before it, and no more than that one.
abbrev pub crashed_overtakes : Case
crashed_overtakes = record {
  n = 3;
  start = opened 3;
  calls = reads 1 3 ∷ crash 1 ∷ reads 2 3 ∷ deliver 2 ∷ deliver 1 ∷ delivers 2 3 ++ whole_read 2 3;
  claims =
      output
      is (pair 0 1 ∷ pair 0 1 ∷ pair 0 1 ∷ pair 0 2 ∷ pair 0 2 ∷ pair 0 3 ∷ pair 0 5 ∷ pair 0 0 ∷ prints (triple 0 0 0))
      ∷ newest 3 is (triple 0 0 0 ∷ triple 0 0 0 ∷ triple 0 2 0 ∷ [])
      ∷ [];
}

-- What the host keeps.

-- False: "Storing another member's read as the slot's stored record: check 24 then halts."
abbrev pub reads_not_stored : Case
reads_not_stored = record {
  n = 3;
  start = opened 3;
  calls = whole_write 1 77 ++ whole_read 2 1 ++ whole_read 3 1 ++ whole_read 2 1;
  claims =
      output is (prints (pair 0 0) ++ prints (triple 0 0 77) ++ prints (triple 0 0 77) ++ prints (triple 0 0 77))
      ∷ records 1 is ((2 ∷ 1 ∷ read ∷ 2 ∷ 0 ∷ []) ∷ (1 ∷ 1 ∷ write ∷ 1 ∷ 77 ∷ []) ∷ [])
      ∷ newest 1 is (triple 1 2 1 ∷ triple 0 0 0 ∷ triple 0 0 0 ∷ [])
      ∷ [];
}

-- Nor is a read of another's slot stored in the reader's own, as line 5.12 of document 000 has it: check 25 then halts. The record of a
-- read bears the member's own last value, and the read returns the slot's.
abbrev pub not_in_the_readers_slot : Case
not_in_the_readers_slot = record {
  n = 2;
  start = opened 2;
  calls = whole_write 2 5 ++ whole_read 2 1 ++ whole_read 1 2;
  claims =
      output is (prints (pair 0 0) ++ prints (triple 0 0 0) ++ prints (triple 0 0 5))
      ∷ records 1 is ((2 ∷ 1 ∷ read ∷ 1 ∷ 5 ∷ []) ∷ (1 ∷ 1 ∷ write ∷ 0 ∷ 0 ∷ []) ∷ [])
      ∷ records 2 is ((1 ∷ 2 ∷ read ∷ 1 ∷ 0 ∷ []) ∷ (2 ∷ 2 ∷ write ∷ 1 ∷ 5 ∷ []) ∷ [])
      ∷ [];
}

-- "whole commit and reply are 60 and 115 bytes for n = 2, 620 and 1,235 for n = 12"
abbrev pub sized : ℕ → ℕ → ℕ → Case
sized n committed replied = record {
  n = n;
  start = opened n;
  calls = whole_write 1 77;
  claims = sizes 1 is (pair committed replied ∷ []) ∷ [];
}

abbrev pub p12 : List Case
p12 = sized 2 60 115 ∷ sized 12 620 1235 ∷ []

-- The cases that start from an opened board, which are true of the table's words too.
abbrev pub plain : List Case
plain = example ∷ p2 ∷ p3 ∷ p4 ∷ p5 ∷ p6 ∷ p7 ∷ p8 ∷ p10 ∷ []

abbrev pub crashes : List Case
crashes = crashed_accepted ∷ crashed_aborted ∷ []

abbrev pub falses : List Case
falses = newer_wins ∷ crashed_submit ∷ crashed_overtakes ∷ reads_not_stored ∷ not_in_the_readers_slot ∷ []

-- those of at most four members, which hold on a board of either kind
abbrev pub of_either_kind : List Case
of_either_kind = plain ++ crashes ++ falses ++ own_reads

abbrev pub from_opening : List Case
from_opening = of_either_kind ++ p12

-- The table.
abbrev pub cases : List Case
cases = p1 ++ from_opening ++ (p9 ∷ refusals ∷ writes_alone ∷ []) ++ reply_cases
