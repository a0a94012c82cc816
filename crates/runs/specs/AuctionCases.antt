-- Worked cases of auction boards, document 02, (b): the limit, from boards on which a count is nearly spent, and tables of words that an
-- auction's opening or begin refuses. The cases of document 01 that have at most four members hold on an auction board as they stand.
use Rattle.std.specs.Prelude.{ℕ, ◌-◌, List, [], ◌∷◌, ◌++◌, length, set, take}
use Rattle.lists.specs.Functions.{put}
use Rattle.model.specs.Rows.{zero_row, zero_matrix}
use Rattle.model.specs.Records.{write}
use Rattle.model.specs.Kinds.{concur, auction}
use Rattle.model.specs.Board.{Board, opened, with_member}
use Rattle.model.specs.Runs.{Call, deliver, crash}
use Rattle.model.specs.Table.{member_words, table_words}
use Rattle.model.specs.Halves.{member_begin_number}
use Rattle.model.specs.TableCalls.{table_answer}
use Rattle.runs.specs.Case.{writes, reads, whole_write, whole_read, pair, triple, prints, output, newest, ◌is◌, Case}
use Rattle.runs.specs.Cases.{opening, refusals, of_either_kind}
use Rattle.runs.specs.ReplyCases.{idle_with}

-- a board on which member 1 has begun so many operations on its own slot, each of them aborted
abbrev pub counted : ℕ → ℕ → Board
counted n count = with_member (opened n) 1 (idle_with (put zero_row 1 count) zero_matrix)

-- "9 where the own count is 9,999 or more": the 9,999th begins and is accepted, and then the count is spent, for a read too; on another
-- slot, and for another member on this slot, it is not
abbrev pub last_begun : Case
last_begun = record {
  n = 4;
  start = counted 4 9998;
  calls = whole_write 1 77 ++ (writes 1 78 ∷ reads 1 1 ∷ []) ++ whole_read 2 1 ++ (reads 1 2 ∷ []);
  claims =
      output is (prints (pair 0 0) ++ (pair 9 0 ∷ pair 9 0 ∷ []) ++ prints (triple 0 0 77) ++ (pair 0 1 ∷ []))
      ∷ newest 1 is ((9999 ∷ 1 ∷ 0 ∷ 0 ∷ []) ∷ (0 ∷ 0 ∷ 0 ∷ 0 ∷ []) ∷ (0 ∷ 0 ∷ 0 ∷ 0 ∷ []) ∷ (0 ∷ 0 ∷ 0 ∷ 0 ∷ []) ∷ [])
      ∷ [];
}

-- a spent count: 9; 8 comes before it
abbrev pub spent : ℕ → Case
spent count = record {
  n = 2;
  start = counted 2 count;
  calls = writes 1 77 ∷ reads 1 1 ∷ reads 1 2 ∷ writes 1 78 ∷ crash 1 ∷ writes 1 79 ∷ [];
  claims = output is (pair 9 0 ∷ pair 9 0 ∷ pair 0 1 ∷ pair 8 1 ∷ pair 0 1 ∷ pair 8 1 ∷ []) ∷ [];
}

-- "1 above 4 members": four open, five do not, and n comes before the length
abbrev pub auction_openings : List Case
auction_openings =
    opening 4 637 0 637 ∷ opening 1 79 0 79 ∷ opening 5 1031 1 0 ∷ opening 0 79 1 0 ∷ opening 12 9781 1 0 ∷ opening 5 637 1 0
    ∷ opening 4 636 2 0 ∷ []

abbrev pub auction_limits : List Case
auction_limits = last_begun ∷ spent 9999 ∷ spent 10000 ∷ spent 4294967295 ∷ []

abbrev pub auction_cases : List Case
auction_cases = auction_openings ++ auction_limits ++ (refusals ∷ []) ++ of_either_kind

-- Calls on a table of words, and the member half's begin of a write to slot 1 on a block of words: what an auction gateway is answered, and
-- what document 01's is.
abbrev pub on_table : List ℕ → Call → List ℕ
on_table l call = pair (table_answer auction l call) (table_answer concur l call)

abbrev pub on_block : ℕ → ℕ → List ℕ → List ℕ
on_block n i l = pair (member_begin_number auction n i l 1 write) (member_begin_number concur n i l 1 write)

pub record Answers : Type 0 where
  pub found : List ℕ
  pub due : List ℕ

infix 70 ◌are◌
abbrev pub ◌are◌ : List ℕ → List ℕ → Answers
found are due = record { found = found; due = due }

abbrev pub five : List ℕ
five = table_words 5 (opened 5)

abbrev pub block : ℕ → ℕ → List ℕ
block n count = member_words n ((counted n count).members 1)

-- all but the last word
abbrev pub short : List ℕ → List ℕ
short l = take (length l - 1) l

abbrev pub lent_cases : List Answers
lent_cases =
    -- five members: 1, before there is no such member; after the table's own numbers, of a phase 7, a word too few, n 13, no word at all
    on_table five (writes 1 77) are pair 1 0
    ∷ on_table five (writes 6 77) are pair 1 4
    ∷ on_table (set five 1 7) (writes 1 77) are pair 3 3
    ∷ on_table (short five) (writes 1 77) are pair 2 2
    ∷ on_table (set five 0 13) (writes 1 77) are pair 3 3
    ∷ on_table [] (writes 1 77) are pair 3 3
    -- deliver and crash serve both
    ∷ on_table five (deliver 1) are pair 10 10
    ∷ on_table five (crash 1) are pair 0 0
    -- own counts
    ∷ on_table (table_words 4 (counted 4 9998)) (writes 1 77) are pair 0 0
    ∷ on_table (table_words 4 (counted 4 9999)) (writes 1 77) are pair 9 0
    ∷ on_table (table_words 4 (counted 4 10000)) (writes 1 77) are pair 9 0
    ∷ on_table (table_words 4 (counted 4 4294967295)) (writes 1 77) are pair 9 9
    -- the half: 1 of 13 members before all else, of five behind 2 and 3 and before 4
    ∷ on_block 13 1 (block 5 0) are pair 1 1
    ∷ on_block 5 1 (short (block 5 0)) are pair 2 2
    ∷ on_block 5 1 (set (block 5 0) 0 7) are pair 3 3
    ∷ on_block 5 1 (block 5 0) are pair 1 0
    ∷ on_block 5 6 (block 5 0) are pair 1 4
    ∷ on_block 4 1 (block 4 9998) are pair 0 0
    ∷ on_block 4 1 (block 4 9999) are pair 9 0
    ∷ on_block 4 1 (block 4 10000) are pair 9 0
    ∷ []
