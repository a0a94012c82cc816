-- What the public calls leave and answer, refused and done.
use Prim.Native.Nat.{ℕ}
use mathlib.Core.Path.{◌≡◌, ap, ◌∙◌}
use mathlib.Core.Bool.{cond, false}
use mathlib.Core.List.{List}
use mathlib.Core.Option.{Option, none}
use lib.Dec.{eqb}
use Rattle.lists.specs.Parts.{words}
use Rattle.lists.proofs.Functions.{on}
use Rattle.model.specs.Kinds.{Kind}
use Rattle.model.specs.Records.{Value}
use Rattle.model.specs.Board.{Board}
use Rattle.model.specs.Runs.{Call, begin, deliver, crash, answer_of, done_returns, after}
use Rattle.model.specs.Table.{board_of, table_number}
use Rattle.model.specs.TableCalls.{board_in, begin_number, call_number, table_answer, table_after, table_board, table_returns}
use Rattle.laws.proofs.Tables.{table_back}
use Rattle.tables.specs.Needs.{Sound}
use Rattle.tables.proofs.Lent.{left_words}
use Rattle.table_calls.specs.Needs.{Answered}
use Rattle.board.specs.Calls.{OnTable}

-- Any table, refused by a number that no argument has a part in.
module _ (kind : Kind) (l : List ℕ) (call : Call) {k : ℕ} (e : k ≡ call_number kind l call) (ne : eqb k 0 ≡ false) where
  pub own_number : k ≡ table_answer kind l call
  unfolding table_answer
  own_number = rw (← e, ne)

  pub own_table : l ≡ table_after kind l call
  unfolding table_after
  own_table = rw (← own_number, ne)

  pub own_board : board_in l ≡ table_board kind l call
  unfolding table_board
  own_board = rw (← own_number, ne)

  pub own_returns : none ≡ table_returns kind l call
  unfolding table_returns
  own_returns = rw (← own_number, ne)

  pub own_call : OnTable kind l call k l
  own_call = (own_number, (own_table, own_board))

-- Such a number is the table's own, but for a begin's 1.
module _ {k : ℕ} (kind : Kind) (l : List ℕ) where
  pub of_begin : (i r t : ℕ) (v : Value) → k ≡ begin_number kind l → k ≡ call_number kind l (begin i r t v)
  unfolding call_number
  of_begin i r t v e = e

  pub of_deliver : (i : ℕ) → k ≡ table_number l → k ≡ call_number kind l (deliver i)
  unfolding call_number
  of_deliver i e = e

  pub of_crash : (i : ℕ) → k ≡ table_number l → k ≡ call_number kind l (crash i)
  unfolding call_number
  of_crash i e = e

-- A table that passed its check, after a call.
module _ (kind : Kind) (l exit : List ℕ) (call : Call) {n : ℕ} (t : Sound n l) (e : 0 ≡ call_number kind l call) where
  abbrev b : Board
  b = board_of n (words l)

  same_answer : answer_of kind n b call ≡ table_answer kind l call
  unfolding table_answer board_in
  same_answer = rw (← e, t.table.size)

  pub call_returns : {r : Option Value} → r ≡ cond (eqb (answer_of kind n b call) 0) (done_returns b call) none
      → r ≡ table_returns kind l call
  unfolding table_returns board_in
  call_returns h = rw (← same_answer, t.table.size) h

  module _ {number : ℕ} (h : Answered kind n l call number exit) where
    pub call-number : number ≡ table_answer kind l call
    call-number = h.number ∙ same_answer

    pub call-table : exit ≡ table_after kind l call
    unfolding table_after board_in after
    call-table =
        left_words h.left
        ∙ rw (← same_answer, t.table.size) (on (eqb (answer_of kind n b call) 0)
        (λ p. rw p)
        (λ p. rw p (table_back n l t.table.long t.table.size)))

    pub call-board : board_in exit ≡ table_board kind l call
    unfolding table_board board_in after
    call-board = ap (λ k. board_of k (words exit)) h.left.table.size ∙ h.left.board ∙ rw (← same_answer, t.table.size)

    pub call-done : OnTable kind l call number exit
    call-done = (call-number, (call-table, call-board))
