-- Demand 3 on tables of words: every run from what opening leaves, each call by the definitions that the board's contracts cite.
-- The table of a sound board that it can hold decodes to that board, so a call on the one is a call on the other.
use Prim.Native.Nat.{ℕ, ◌+◌}
use native.Mathlib.Omega.{arith}
use mathlib.Core.Path.{◌≡◌, refl, sym, ap, ◌∙◌, fun_ext}
use mathlib.Core.Bool.{true, cond}
use mathlib.Core.List.{List, [], ◌∷◌}
use mathlib.Core.Option.{none}
use lib.Dec.{eqb}
use lib.ListN.{length}
use borrow.Author.Tests.{eq-eqb, le-leb}
use Rattle.lists.specs.Functions.{inside, from}
use Rattle.lists.specs.Parts.{words}
use Rattle.lists.proofs.Functions.{on, inside_low, inside_high, within_at, within_off, inside_in}
use Rattle.lists.proofs.Refusals.{no_failure}
use Rattle.model.specs.Kinds.{most_members, is_size, Kind, concur, auction}
use Rattle.model.specs.Numbers.{kind_number}
use Rattle.model.specs.Member.{idle}
use Rattle.model.specs.Board.{Board, opened}
use Rattle.model.specs.Runs.{Call, begin, deliver, crash, answer_of, done_returns, after, seen_at, run, boards}
use Rattle.lists.specs.Every.{Every}
use Rattle.model.specs.Demand3.{Demand3}
use Rattle.model.specs.Table.{table_size, block_at, phase_at, member_of, table_words, table_number}
use Rattle.model.specs.TableCalls.{open_number, open_words, board_in, begin_number, call_number, table_answer, table_after, table_returns}
use Rattle.model.specs.TableCalls.{phase_words, table_seen, table_run, table_boards}
use Rattle.model.proofs.Demand3.{demand3}
use Rattle.model.proofs.Steps.{stepped}
use Rattle.laws.proofs.Tables.{length-table, table_zero, member_at}
use Rattle.laws.proofs.Sound.{SoundBoard, board_sound}
use Rattle.runs.proofs.Sound.{taken_sound, opened_sound}
use Rattle.runs.proofs.Held.{HeldBoard, CallHeld, board_read, taken_held, opened_held}

module _ (n : ℕ) where
  -- the table of a sound board that it can hold: no number of its own refuses it, and it decodes to that board
  table-number : is_size n ≡ true → (b : Board) → SoundBoard n b → HeldBoard n b → table_number (table_words n b) ≡ 0
  unfolding table_number
  table-number size b s h = rw (
    table_zero n b,
    size,
    eq-eqb (length (table_words n b)) (table_size n) (length-table n b),
    board_read n b h,
    board_sound n b s,
  )

  pub board_in_lem : (b : Board) → HeldBoard n b → board_in (table_words n b) ≡ b
  unfolding board_in
  board_in_lem b h = rw (table_zero n b) (board_read n b h)

  same-phases : (b : Board) → HeldBoard n b → phase_words (table_words n b) ≡ (λ k. (b.members k).phase)
  unfolding phase_words member_of from idle
  same-phases b h = rw (table_zero n b) (fun_ext λ k. on (inside n k)
      (λ p.
      within_at n 0 (λ k. words (table_words n b) (block_at n k + phase_at)) k (inside_low n k p) (inside_high n k p)
      ∙ sym (ap (λ m. m.phase) (member_at n (words (table_words n b)) k (inside_low n k p) (inside_high n k p)))
      ∙ ap (λ b. (b.members k).phase) (board_read n b h))
      (λ p.
      within_off n 0 (λ k. words (table_words n b) (block_at n k + phase_at)) k p
      ∙ sym (ap (λ m. m.phase) (h.members_off k p))))

-- a board of a kind has one of the sizes that there are
kind_size : (kind : Kind) (n : ℕ) → inside kind.most n ≡ true → is_size n ≡ true
kind_size kind n p =
    let most = kind.sized in
    let high = inside_high kind.most n p in
    inside_in most_members n (inside_low kind.most n p) (omega arith)

module _ (kind : Kind) (n : ℕ) (size : inside kind.most n ≡ true) where
  -- nothing refuses a call whatever its arguments
  none-refuses : (b : Board) → SoundBoard n b → HeldBoard n b → (call : Call) → call_number kind (table_words n b) call ≡ 0
  unfolding call_number begin_number kind_number
  none-refuses b s h (begin i r t v) = rw (
    table-number n (kind_size kind n size) b s h,
    table_zero n b,
    le-leb n kind.most (inside_high kind.most n size),
  )
  none-refuses b s h (deliver i) = table-number n (kind_size kind n size) b s h
  none-refuses b s h (crash i) = table-number n (kind_size kind n size) b s h

  -- a call's answer, what it leaves and what it returns are the board's
  same_answer : (b : Board) → SoundBoard n b → HeldBoard n b → (call : Call)
      → table_answer kind (table_words n b) call ≡ answer_of kind n b call
  unfolding table_answer
  same_answer b s h call = rw (none-refuses b s h call, board_in_lem n b h, table_zero n b)

  pub same_after : (b : Board) → SoundBoard n b → HeldBoard n b → (call : Call)
      → table_after kind (table_words n b) call ≡ table_words n (after kind n b call)
  unfolding table_after after
  same_after b s h call = rw (same_answer b s h call, board_in_lem n b h, table_zero n b)
      (on (eqb (answer_of kind n b call) 0) (λ p. rw p) (λ p. rw p))

  same-returns : (b : Board) → SoundBoard n b → HeldBoard n b → (call : Call)
      → table_returns kind (table_words n b) call ≡ cond (eqb (answer_of kind n b call) 0) (done_returns b call) none
  unfolding table_returns
  same-returns b s h call = rw (same_answer b s h call, board_in_lem n b h)

  -- the board after a call is again one that a table can hold
  pub after_sound : (b : Board) → SoundBoard n b → (call : Call) → SoundBoard n (after kind n b call)
  after_sound b s call = stepped kind n b (SoundBoard n) call s (λ next t. taken_sound t s)

  pub after_held : (b : Board) → SoundBoard n b → HeldBoard n b → (call : Call) → CallHeld call → HeldBoard n (after kind n b call)
  after_held b s h call v = stepped kind n b (HeldBoard n) call h (λ next t. taken_held t s h v)

  same_seen : (b : Board) → SoundBoard n b → HeldBoard n b → (call : Call) → CallHeld call
      → table_seen kind (table_words n b) call ≡ seen_at kind n b call
  unfolding table_seen seen_at
  same_seen b s h call v = λ t. record {
    answer = same_answer b s h call t;
    phases = (ap phase_words (same_after b s h call) ∙ same-phases n (after kind n b call) (after_held b s h call v)) t;
    returned = same-returns b s h call t;
  }

  pub same_run : (b : Board) → SoundBoard n b → HeldBoard n b → (calls : List Call) → Every CallHeld calls
      → table_run kind (table_words n b) calls ≡ run kind n b calls
  unfolding table_run run
  same_run b s h [] v = refl
  same_run b s h (call ∷ calls) v = λ t. same_seen b s h call v.0 t ∷
      (ap (λ l. table_run kind l calls) (same_after b s h call)
      ∙ same_run (after kind n b call) (after_sound b s call) (after_held b s h call v.0) calls v.1) t

  pub same_boards : (b : Board) → SoundBoard n b → HeldBoard n b → (calls : List Call) → Every CallHeld calls
      → table_boards kind (table_words n b) calls ≡ boards kind n b calls
  unfolding table_boards boards
  same_boards b s h [] v = refl
  same_boards b s h (call ∷ calls) v = λ t. board_in_lem n b h t ∷
      (ap (λ l. table_boards kind l calls) (same_after b s h call)
      ∙ same_boards (after kind n b call) (after_sound b s call) (after_held b s h call v.0) calls v.1) t

-- the size of a board that opening took
pub open_size : (kind : Kind) (n : ℕ) (l : List ℕ) → open_number kind n l ≡ 0 → inside kind.most n ≡ true
unfolding open_number
open_size kind n l o = (no_failure (inside kind.most n) (omega arith) o).0

-- Demand 3 of every table that opening took, for every kind, every n and every list of calls whose values have 8 words. The kind's limit
-- and its most members are left open.
pub demand3_on_tables : (kind : Kind) (n : ℕ) (l : List ℕ) → open_number kind n l ≡ 0 → (calls : List Call) → Every CallHeld calls
    → Demand3 kind n calls (table_boards kind (open_words kind n l) calls) (table_run kind (open_words kind n l) calls)
unfolding open_words
demand3_on_tables kind n l o calls v =
    let size = open_size kind n l o in
    rw (
      o,
      same_boards kind n size (opened n) (opened_sound n) (opened_held n) calls v,
      same_run kind n size (opened n) (opened_sound n) (opened_held n) calls v,
    ) (demand3 kind n calls)

-- Its two instances: document 01's board, and the auction board of document 02, (b). A begin of the run is then the kind's own begin,
-- and deliver and crash are the common ones (model's KindClaims.antt).

pub demand3_on_concur : (n : ℕ) (l : List ℕ) → open_number concur n l ≡ 0 → (calls : List Call) → Every CallHeld calls
    → Demand3 concur n calls (table_boards concur (open_words concur n l) calls) (table_run concur (open_words concur n l) calls)
demand3_on_concur = demand3_on_tables concur

pub demand3_on_auction : (n : ℕ) (l : List ℕ) → open_number auction n l ≡ 0 → (calls : List Call) → Every CallHeld calls
    → Demand3 auction n calls (table_boards auction (open_words auction n l) calls) (table_run auction (open_words auction n l) calls)
demand3_on_auction = demand3_on_tables auction
