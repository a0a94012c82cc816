-- Replies that a member takes: the halts of document 01, each alone and in their order, and the pairs of counts that the checks look at
-- (document 02, (i)).
use Rattle.std.specs.Prelude.{ℕ, List, [], ◌∷◌, ◌++◌}
use Rattle.lists.specs.Functions.{put}
use Rattle.model.specs.Rows.{Row, Matrix, zero_row, zero_matrix}
use Rattle.model.specs.Records.{Rec, read, write, zero_value, zero_record}
use Rattle.model.specs.Member.{Member, idle, begun, answered}
use Rattle.model.specs.Board.{opened, with_member}
use Rattle.model.specs.Runs.{deliver, crash}
use Rattle.runs.specs.Case.{reads, pair, output, messages, halts, failing, taking, looking, ◌is◌, Case}

-- An idle member, given its own counts and what it knows.
abbrev pub idle_with : Row → Matrix → Member
idle_with own known = record {
  phase = 0;
  crashed = 0;
  halt = 0;
  slot = 0;
  operation = 0;
  own = own;
  accepted = zero_row;
  last = zero_value;
  pending = zero_value;
  known = known;
  first = zero_record;
  second = zero_record;
}

-- The halts. Each state is one of member 1 of 2 that reads slot 2 for the first time and has been answered.

-- the matrix of two rows
abbrev pub rows : Row → Row → Matrix
rows a b = put (put zero_matrix 1 a) 2 b

abbrev pub row : ℕ → ℕ → Row
row a b = put (put zero_row 1 a) 2 b

-- a record of a slot, by a member, with a matrix
abbrev pub sent : ℕ → ℕ → Matrix → Rec
sent r i m = record { member = i; slot = r; operation = write; count = 0; value = zero_value; matrix = m }

abbrev pub by : ℕ → Matrix → Rec
by = sent 2

-- the state: what it knows, and the newest and the stored record sent
abbrev pub reading : Matrix → Rec → Rec → Member
reading known = answered (begun (idle_with zero_row known) 2 read zero_value)

-- a record of a board of 2 with every part zero
abbrev pub zero_lines : List (List ℕ)
zero_lines = (0 ∷ 0 ∷ 0 ∷ 0 ∷ 0 ∷ []) ∷ pair 0 0 ∷ pair 0 0 ∷ []

-- the case: the checks that fail are this one and those after it, the member halts with this one after so many pairs, "both message
-- records zeroed", and nothing moves it again. Of 10 pairs 22 and 23 have one each, 25 has 5, 26 has 2, and 27 one.
abbrev pub halting : ℕ → List ℕ → ℕ → Member → Case
halting number others pairs m = record {
  n = 2;
  start = with_member (opened 2) 1 m;
  calls = deliver 1 ∷ deliver 1 ∷ reads 1 2 ∷ crash 1 ∷ [];
  claims =
      failing 1 3 is ((number ∷ others) ∷ [])
      ∷ looking 1 3 is (pair number pairs ∷ [])
      ∷ output is (pair 0 6 ∷ pair 10 6 ∷ pair 8 6 ∷ pair 11 6 ∷ [])
      ∷ halts is (pair number 0 ∷ [])
      ∷ messages 1 is (zero_lines ++ zero_lines)
      ∷ [];
}

-- 21: nothing else fails, and the board itself passes 3
abbrev pub seals : Case
seals = record {
  n = 2;
  start = with_member (opened 2) 1 (reading zero_matrix (by 2 zero_matrix) (by 2 zero_matrix));
  calls = deliver 1 ∷ [];
  claims =
      failing 1 0 is ((21 ∷ []) ∷ [])
      ∷ taking 1 0 is (pair 6 21 ∷ [])
      ∷ taking 1 1 is (pair 6 21 ∷ [])
      ∷ taking 1 2 is (pair 6 21 ∷ [])
      ∷ taking 1 3 is (pair 3 0 ∷ [])
      ∷ looking 1 0 is (pair 21 0 ∷ [])
      ∷ looking 1 3 is (pair 0 10 ∷ [])
      ∷ output is (pair 0 3 ∷ [])
      ∷ [];
}

-- known row 2 (0,2), newest (0,1)
abbrev pub p11 : Case
p11 = halting 22 [] 1 (reading (rows zero_row (row 0 2)) (by 2 (rows zero_row (row 0 1))) (by 2 (rows zero_row (row 0 1))))

-- Each other check alone; 25 has two grounds. 26 also rules out the false "Dropping check 26 and taking each entry at the larger".
abbrev pub alone : List Case
alone =
    halting 23 [] 2 (reading zero_matrix (by 2 (rows zero_row (row 1 0))) (by 2 zero_matrix))
    ∷ halting 24 [] 2 (reading zero_matrix (by 2 zero_matrix) (by 1 zero_matrix))
    ∷ halting 25 [] 4 (reading zero_matrix (by 2 zero_matrix) (by 2 (rows (row 0 1) zero_row)))
    ∷ halting 25 [] 7 (reading zero_matrix (by 2 (rows zero_row (row 0 1))) (by 2 zero_matrix))
    ∷ halting 26 [] 9 (reading (rows (row 1 0) zero_row) (by 2 (rows (row 0 1) zero_row)) (by 2 zero_matrix))
    ∷ halting 27 [] 10 (reading zero_matrix (by 2 (rows (row 1 0) zero_row)) (by 2 zero_matrix))
    ∷ []

-- Their order: a state that fails all, mended at one check after the other. With seals 2 the first is 21.
abbrev pub fails_all : Member
fails_all = reading (rows (row 0 1) (row 0 2)) (by 2 (rows (row 1 0) (row 1 1))) (by 1 zero_matrix)

abbrev pub unsealed : Case
unsealed = record {
  n = 2;
  start = with_member (opened 2) 1 fails_all;
  calls = [];
  claims =
      failing 1 2 is ((21 ∷ 22 ∷ 23 ∷ 24 ∷ 25 ∷ 26 ∷ 27 ∷ []) ∷ [])
      ∷ taking 1 2 is (pair 6 21 ∷ [])
      ∷ looking 1 2 is (pair 21 0 ∷ [])
      ∷ [];
}

abbrev pub mended : List Case
mended =
    halting 22 (23 ∷ 24 ∷ 25 ∷ 26 ∷ 27 ∷ []) 1 fails_all
    ∷ halting 23 (24 ∷ 25 ∷ 26 ∷ 27 ∷ []) 2 (reading (rows (row 0 1) (row 0 1)) (by 2 (rows (row 1 0) (row 1 1))) (by 1 zero_matrix))
    ∷ halting 24 (25 ∷ 26 ∷ 27 ∷ []) 2 (reading (rows (row 0 1) (row 0 1)) (by 2 (rows (row 1 0) (row 0 1))) (by 1 zero_matrix))
    ∷ halting 25 (26 ∷ 27 ∷ []) 7 (reading (rows (row 0 1) (row 0 1)) (by 2 (rows (row 1 0) (row 0 1))) (by 2 zero_matrix))
    ∷ halting 26 (27 ∷ []) 9 (reading (rows (row 0 1) (row 0 1)) (by 2 (rows (row 1 0) (row 0 1))) (by 2 (rows zero_row (row 0 1))))
    ∷ halting 27 [] 10 (reading (rows zero_row (row 0 1)) (by 2 (rows (row 1 0) (row 0 1))) (by 2 (rows zero_row (row 0 1))))
    ∷ []

-- Pairs by the place that fails (document 02, (i)). Each state is one of member 2 of 3 that reads slot 1: 22 has a pair at 1 and at 3, 26
-- and 27 look at rows 2 and 3. Of 21 pairs 22 has 2, 23 one, 25 has 10, 26 has 6, and 27 has 2.

abbrev pub row3 : ℕ → ℕ → ℕ → Row
row3 a b c = put (row a b) 3 c

-- a matrix of which one row is not zero
abbrev pub only : ℕ → Row → Matrix
only j a = put zero_matrix j a

abbrev pub looks : ℕ → ℕ → Matrix → Matrix → Rec → Case
looks number pairs known newest stored = record {
  n = 3;
  start = with_member (opened 3) 2 (answered (begun (idle_with zero_row known) 1 read zero_value) (sent 1 1 newest) stored);
  calls = [];
  claims = looking 2 3 is (pair number pairs ∷ []) ∷ looking 2 1 is (pair 21 0 ∷ []) ∷ [];
}

abbrev pub places : List Case
places =
    looks 0 21 zero_matrix zero_matrix (sent 1 1 zero_matrix)
    -- 22 at 1; at 3, past the member's own entry; at both
    ∷ looks 22 1 (only 1 (row3 1 0 0)) zero_matrix (sent 1 1 zero_matrix)
    ∷ looks 22 2 (only 1 (row3 0 5 1)) zero_matrix (sent 1 1 zero_matrix)
    ∷ looks 22 1 (only 1 (row3 1 0 1)) zero_matrix (sent 1 1 zero_matrix)
    -- 23, and 24, which compares no counts
    ∷ looks 23 3 zero_matrix (only 1 (row3 0 1 0)) (sent 1 1 zero_matrix)
    ∷ looks 24 3 zero_matrix zero_matrix (sent 1 3 zero_matrix)
    -- 25 in each row, at its first entry or its last; then at 1 in row 1 alone
    ∷ looks 25 6 zero_matrix zero_matrix (sent 1 1 (only 1 (row3 0 0 1)))
    ∷ looks 25 9 zero_matrix zero_matrix (sent 1 1 (only 2 (row3 1 0 0)))
    ∷ looks 25 12 zero_matrix zero_matrix (sent 1 1 (only 3 (row3 1 0 1)))
    ∷ looks 25 13 zero_matrix (only 1 (row3 1 0 0)) (sent 1 1 zero_matrix)
    -- 26 in row 2, and in row 3
    ∷ looks 26 16 (only 2 (row3 1 0 0)) (only 2 (row3 0 0 1)) (sent 1 1 zero_matrix)
    ∷ looks 26 19 (only 3 (row3 1 0 0)) (only 3 (row3 0 0 1)) (sent 1 1 zero_matrix)
    -- 27 in row 2, and in row 3: all pairs, and yet a halt
    ∷ looks 27 20 zero_matrix (only 2 (row3 0 1 0)) (sent 1 1 zero_matrix)
    ∷ looks 27 21 zero_matrix (only 3 (row3 0 1 0)) (sent 1 1 zero_matrix)
    ∷ []

-- the ceiling: a first write that is answered, on boards of 1 and of 12
abbrev pub ceiling : ℕ → ℕ → Case
ceiling n pairs = record {
  n = n;
  start = with_member (opened n) 1 (answered (begun idle 1 write zero_value) (sent 1 1 zero_matrix) (sent 1 1 zero_matrix));
  calls = [];
  claims = looking 1 3 is (pair 0 pairs ∷ []) ∷ [];
}

-- All of them.
abbrev pub reply_cases : List Case
reply_cases = (p11 ∷ seals ∷ unsealed ∷ []) ++ alone ++ mended ++ places ++ (ceiling 1 3 ∷ ceiling 12 300 ∷ [])
