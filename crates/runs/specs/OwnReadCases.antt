-- Own reads (document 02, (a)): what they return, what they leave the host, whom they abort; and what the rule before would have done.
use Rattle.std.specs.Prelude.{ℕ, List, [], ◌∷◌, ◌++◌}
use Rattle.model.specs.Kinds.{concur}
use Rattle.model.specs.Records.{read, write}
use Rattle.model.specs.Board.{opened}
use Rattle.model.specs.Runs.{Call, deliver, crash}
use Rattle.runs.specs.Case.{writes, reads, delivers, whole_write, whole_read, pair, triple, prints, output, newest, records, halts}
use Rattle.runs.specs.Case.{decided, ◌is◌, Case, left}

-- of a slot that was never written: zeros
abbrev pub own_unwritten : Case
own_unwritten = record {
  n = 2;
  start = opened 2;
  calls = whole_read 1 1;
  claims =
      output is prints (triple 0 0 0)
      ∷ records 1 is ((1 ∷ 1 ∷ read ∷ 1 ∷ 0 ∷ []) ∷ (1 ∷ 1 ∷ read ∷ 1 ∷ 0 ∷ []) ∷ [])
      ∷ newest 1 is (pair 1 0 ∷ pair 0 0 ∷ [])
      ∷ decided is ((1 ∷ 1 ∷ 1 ∷ read ∷ 0 ∷ 1 ∷ 2 ∷ 4 ∷ 1 ∷ 5 ∷ 0 ∷ []) ∷ [])
      ∷ [];
}

-- own write, own read, another's read: nobody halts, and both read what was written
abbrev pub read_back : Case
read_back = record {
  n = 2;
  start = opened 2;
  calls = whole_write 1 77 ++ whole_read 1 1 ++ whole_read 2 1;
  claims =
      output is (prints (pair 0 0) ++ prints (triple 0 0 77) ++ prints (triple 0 0 77))
      ∷ halts is (pair 0 0 ∷ [])
      ∷ records 1 is ((2 ∷ 1 ∷ read ∷ 1 ∷ 0 ∷ []) ∷ (1 ∷ 1 ∷ read ∷ 2 ∷ 77 ∷ []) ∷ [])
      ∷ newest 1 is (pair 2 1 ∷ pair 0 0 ∷ [])
      ∷ decided is ((2 ∷ 1 ∷ 1 ∷ read ∷ 0 ∷ 11 ∷ 12 ∷ 14 ∷ 1 ∷ 15 ∷ 77 ∷ [])
      ∷ (1 ∷ 2 ∷ 1 ∷ read ∷ 0 ∷ 6 ∷ 7 ∷ 9 ∷ 1 ∷ 10 ∷ 77 ∷ [])
      ∷ (1 ∷ 1 ∷ 1 ∷ write ∷ 77 ∷ 1 ∷ 2 ∷ 4 ∷ 1 ∷ 5 ∷ [])
      ∷ [])
      ∷ [];
}

-- members a and b read slot 1, the submit of a taken first: a is aborted and b accepted, whichever of them is the owner
abbrev pub reads_of_slot1 : ℕ → ℕ → List Call
reads_of_slot1 a b =
    reads a 1 ∷ reads b 1 ∷ deliver a ∷ deliver b ∷ deliver a ∷ deliver b ∷ deliver a ∷ deliver b ∷ deliver a ∷ deliver b ∷ []

abbrev pub second_wins : List (List ℕ)
second_wins =
    pair 0 1 ∷ pair 0 1 ∷ pair 0 2 ∷ pair 0 2 ∷ pair 0 3 ∷ pair 0 3 ∷ pair 0 5 ∷ pair 0 4 ∷ pair 0 0 ∷ triple 0 0 0 ∷ []

-- an own read that another's read overtakes
abbrev pub own_overtaken : Case
own_overtaken = record {
  n = 2;
  start = opened 2;
  calls = reads_of_slot1 1 2;
  claims =
      output is second_wins
      ∷ records 1 is ((2 ∷ 1 ∷ read ∷ 1 ∷ 0 ∷ []) ∷ (1 ∷ 1 ∷ write ∷ 0 ∷ 0 ∷ []) ∷ [])
      ∷ decided is ((2 ∷ 1 ∷ 1 ∷ read ∷ 0 ∷ 2 ∷ 4 ∷ 8 ∷ 1 ∷ 10 ∷ 0 ∷ []) ∷ (1 ∷ 1 ∷ 1 ∷ read ∷ 0 ∷ 1 ∷ 3 ∷ 7 ∷ 0 ∷ 9 ∷ []) ∷ [])
      ∷ [];
}

-- and one that overtakes another's
abbrev pub own_overtakes : Case
own_overtakes = record {
  n = 2;
  start = opened 2;
  calls = reads_of_slot1 2 1;
  claims =
      output is second_wins
      ∷ records 1 is ((1 ∷ 1 ∷ read ∷ 1 ∷ 0 ∷ []) ∷ (1 ∷ 1 ∷ read ∷ 1 ∷ 0 ∷ []) ∷ [])
      ∷ decided is ((1 ∷ 1 ∷ 1 ∷ read ∷ 0 ∷ 2 ∷ 4 ∷ 8 ∷ 1 ∷ 10 ∷ 0 ∷ []) ∷ (2 ∷ 1 ∷ 1 ∷ read ∷ 0 ∷ 1 ∷ 3 ∷ 7 ∷ 0 ∷ 9 ∷ []) ∷ [])
      ∷ [];
}

-- one that was accepted, of a member that crashed before: it is stored
abbrev pub own_crashed : Case
own_crashed = record {
  n = 2;
  start = opened 2;
  calls = whole_write 1 77 ++ (reads 1 1 ∷ delivers 1 2 ++ (crash 1 ∷ deliver 1 ∷ deliver 1 ∷ whole_read 2 1));
  claims =
      output is (prints (pair 0 0)
      ++ (pair 0 1 ∷ pair 0 2 ∷ pair 0 3 ∷ pair 0 3 ∷ pair 0 4 ∷ pair 10 4 ∷ prints (triple 0 0 77)))
      ∷ records 1 is ((2 ∷ 1 ∷ read ∷ 1 ∷ 0 ∷ []) ∷ (1 ∷ 1 ∷ read ∷ 2 ∷ 77 ∷ []) ∷ [])
      ∷ decided is ((2 ∷ 1 ∷ 1 ∷ read ∷ 0 ∷ 12 ∷ 13 ∷ 15 ∷ 1 ∷ 16 ∷ 77 ∷ [])
      ∷ (1 ∷ 2 ∷ 1 ∷ read ∷ 0 ∷ 6 ∷ 7 ∷ 10 ∷ 1 ∷ 0 ∷ [])
      ∷ (1 ∷ 1 ∷ 1 ∷ write ∷ 77 ∷ 1 ∷ 2 ∷ 4 ∷ 1 ∷ 5 ∷ [])
      ∷ [])
      ∷ [];
}

-- "Such a read carries the last accepted own sheet": 77, and not the 88 of a write that member 2's read has aborted
abbrev pub own_after_abort : Case
own_after_abort = record {
  n = 2;
  start = opened 2;
  calls = whole_write 1 77 ++ (writes 1 88 ∷ deliver 1 ∷ reads 2 1 ∷ deliver 2 ∷ delivers 1 3 ++ delivers 2 3 ++ whole_read 1 1);
  claims =
      output is (prints (pair 0 0)
      ++ (pair 0 1 ∷ pair 0 2 ∷ pair 0 1 ∷ pair 0 2 ∷ pair 0 3 ∷ pair 0 5 ∷ pair 0 0 ∷ pair 0 3 ∷ pair 0 4 ∷ triple 0 0 77 ∷ [])
      ++ prints (triple 0 0 77))
      ∷ records 1 is ((1 ∷ 1 ∷ read ∷ 3 ∷ 77 ∷ []) ∷ (1 ∷ 1 ∷ read ∷ 3 ∷ 77 ∷ []) ∷ [])
      ∷ newest 1 is (pair 3 1 ∷ pair 0 0 ∷ [])
      ∷ [];
}

abbrev pub own_reads : List Case
own_reads = own_unwritten ∷ read_back ∷ own_overtaken ∷ own_overtakes ∷ own_crashed ∷ own_after_abort ∷ []

-- What the rule before, "for a write also the stored one", would do with them: member 2 has read its own slot, and the opening record is
-- the stored one still. "Otherwise check 25 would halt the next caller": whoever comes next, the other or the owner.
abbrev pub writes_alone : Case
writes_alone =
    let read = left concur 2 (opened 2) (whole_read 2 2) in
    record {
      n = 2;
      start = record { members = read.members; host = read.host; stored = (opened 2).stored };
      calls = reads 1 2 ∷ delivers 1 2 ++ (reads 2 2 ∷ delivers 2 2);
      claims = output is (pair 0 1 ∷ pair 0 2 ∷ pair 0 6 ∷ pair 0 1 ∷ pair 0 2 ∷ pair 0 6 ∷ []) ∷ halts is (pair 25 25 ∷ []) ∷ [];
    }
