-- The board's calls on a table of words, and runs of them: what the contracts of open, begin, deliver and crash cite, and what demand 3
-- speaks of in the end. The board of a table is the one that its words decode to; word 0 is n.
use Rattle.std.specs.Prelude.{ℕ, ◌+◌, cond, not, List, [], ◌∷◌, eqb, length}
use Rattle.std.proofs.Math.Option.{Option, none}
use Rattle.lists.specs.Functions.{inside, within}
use Rattle.lists.specs.Parts.{words}
use Rattle.model.specs.Records.{Value}
use Rattle.model.specs.Kinds.{Kind}
use Rattle.model.specs.Numbers.{or_else, kind_number}
use Rattle.model.specs.Board.{Board, opened}
use Rattle.model.specs.Runs.{Call, begin, deliver, crash, Seen, answer_of, done, done_returns}
use Rattle.model.specs.Table.{table_size, block_at, phase_at, board_by, table_words, table_number}
use Rattle.model.specs.Halves.{unless_refused}

-- "Opening makes checks 1 and 2 only, since it reads none of the old words."
unfoldable pub open_number : Kind → ℕ → List ℕ → ℕ
open_number kind n l =
    cond (not (inside kind.most n)) 1
    (cond (not (eqb (length l) (table_size n))) 2
    0)

unfoldable pub open_words : Kind → ℕ → List ℕ → List ℕ
open_words kind n l = unless_refused (open_number kind n l) l (table_words n (opened n))

-- the board that a table holds
unfoldable pub board_in : List ℕ → Board
board_in l = board_by (words l 0) l

-- what refuses a begin whatever its arguments: the table's own numbers, 3, 2 and 3, then the kind's 1
unfoldable pub begin_number : Kind → List ℕ → ℕ
begin_number kind l = or_else (table_number l) (kind_number kind (words l 0))

-- and what refuses any call so: document 02, (b), "All other steps serve both."
unfoldable pub call_number : Kind → List ℕ → Call → ℕ
call_number kind l (begin i r t v) = begin_number kind l
call_number kind l (deliver i) = table_number l
call_number kind l (crash i) = table_number l

-- begin, deliver and crash: these numbers, then those from 4 on
unfoldable pub table_answer : Kind → List ℕ → Call → ℕ
table_answer kind l call = or_else (call_number kind l call) (answer_of kind (words l 0) (board_in l) call)

unfoldable pub table_after : Kind → List ℕ → Call → List ℕ
table_after kind l call =
    let n = words l 0 in
    unless_refused (table_answer kind l call) l (table_words n (done n (board_in l) call))

-- the board that the table then holds: the model's step, or the one before where the call is refused
unfoldable pub table_board : Kind → List ℕ → Call → Board
table_board kind l call = cond (eqb (table_answer kind l call) 0) (done (words l 0) (board_in l) call) (board_in l)

unfoldable pub table_returns : Kind → List ℕ → Call → Option Value
table_returns kind l call = cond (eqb (table_answer kind l call) 0) (done_returns (board_in l) call) none

-- every member's phase, read off the words
unfoldable pub phase_words : List ℕ → ℕ → ℕ
phase_words l = let n = words l 0 in within n 0 (λ k. words l (block_at n k + phase_at))

unfoldable pub table_seen : Kind → List ℕ → Call → Seen
table_seen kind l call = record {
  answer = table_answer kind l call;
  phases = phase_words (table_after kind l call);
  returned = table_returns kind l call;
}

-- each call on the table that the one before left
unfoldable pub table_run : Kind → List ℕ → List Call → List Seen
table_run kind l [] = []
table_run kind l (call ∷ calls) = table_seen kind l call ∷ table_run kind (table_after kind l call) calls

-- the board that the table holds on which each call is made
unfoldable pub table_boards : Kind → List ℕ → List Call → List Board
table_boards kind l [] = []
table_boards kind l (call ∷ calls) = board_in l ∷ table_boards kind (table_after kind l call) calls
