-- Every case of the table holds: the test of each is computed, and a test that passes means equal lines.
use Prim.Native.Nat.{ℕ, zero, suc, ◌<◌}
use mathlib.Core.Path.{◌≡◌, refl}
use mathlib.Core.Bool.{Bool, true, ◌&&◌, false≢true}
use mathlib.Core.List.{List, [], ◌∷◌}
use native.Mathlib.Omega.{arith}
use lib.Dec.{eqb}
use lib.ListN.{length, get_or}
use borrow.Author.Tests.{eqb-true}
use Rattle.lists.specs.Functions.{put, from, within, inside, each, looked}
use Rattle.lists.specs.Parts.{tabulate}
use Rattle.lists.specs.Pieces.{laid}
use Rattle.lists.proofs.Functions.{first, second}
use Rattle.model.specs.Rows.{zero_row, zero_matrix, below, matrix_below, comparable, larger}
use Rattle.model.specs.Records.{zero_value, zero_record, opening}
use Rattle.model.specs.Kinds.{Kind, concur, auction, is_operation, barred, becomes_stored}
use Rattle.model.specs.Numbers.{fields_number, begin_answer, deliver_answer, crash_answer}
use Rattle.model.specs.Member.{idle, begun, answered, check21, check22, check23, check24, check25, check26, check27, halt_number, joined}
use Rattle.model.specs.Member.{own_record, passed, failed, replied, judged, completed, took_over, dropped, outcome, returned_by, crashed_of}
use Rattle.model.specs.Pairs.{pairs22, pairs23, row_pairs25, pairs25, pairs26, pairs27, if_made, halt_pairs}
use Rattle.model.specs.Host.{submitted, wins, entry_after, stored_after}
use Rattle.model.specs.Board.{opening_entry, opened, with_member, board_begun, submit_taken, reply_taken, sent_record, commit_taken}
use Rattle.model.specs.Board.{outcome_taken, board_delivered, board_returned, board_crashed}
use Rattle.model.specs.Runs.{answer_of, done, done_returns, after, seen_at, run}
use Rattle.lists.specs.Every.{Every}
use Rattle.model.specs.History.{nothing_yet, no_op, begun_op, submitted_op, submit_of, decided_op, ended_op, ended, watch_deliver}
use Rattle.model.specs.History.{watch_call}
use Rattle.model.specs.History.{watch_step, watch_from, watched}
use Rattle.model.specs.RecordWords.{record_size, matrix_word, record_words}
use Rattle.model.specs.Table.{accepted_at, last_at, pending_at, known_at, first_at, second_at, block_size, newest_at, entry_size, host_size}
use Rattle.model.specs.Table.{host_at, table_size, member_words, entry_words, host_words, table_words}
use Rattle.model.specs.TableCalls.{open_number, open_words}
use Rattle.model.specs.Messages.{kind_of, number_bytes, byte_in, headed, record_byte, record_length, record_bytes, field_bytes}
use Rattle.model.specs.Messages.{framed, encode}
use Rattle.model.specs.Script.{caller}
use Rattle.runs.specs.Case.{left, changed, opens_of, answer_to, last_word, line, printed, rows_of, record_line, record_lines, begun_line}
use Rattle.runs.specs.Case.{decided_line, submit_line, unless, failing_of, taking_of, looking_of, found, every, alike, Case, Holds, holds}
use Rattle.runs.specs.Cases.{cases, example}
use Rattle.runs.specs.AuctionCases.{auction_cases}

pub all_pass : (every (holds concur) cases && every (holds auction) auction_cases) ≡ true
unfolding put from within inside each looked tabulate zero_row zero_matrix below matrix_below comparable larger zero_value
    zero_record opening
    is_operation barred becomes_stored fields_number begin_answer deliver_answer crash_answer idle begun answered check21 check22
    check23 check24
    check25 check26 check27 halt_number pairs22 pairs23 row_pairs25 pairs25 pairs26 pairs27 if_made halt_pairs joined own_record
    passed failed
    replied judged completed took_over dropped outcome returned_by
    crashed_of submitted wins entry_after stored_after opening_entry opened with_member board_begun submit_taken reply_taken sent_record
    commit_taken outcome_taken board_delivered board_returned board_crashed answer_of done done_returns after seen_at run left caller
    last_word line printed rows_of record_line record_lines begun_line decided_line submit_line nothing_yet no_op begun_op
    submitted_op submit_of
    decided_op ended_op ended watch_deliver watch_call watch_step watch_from watched unless failing_of taking_of looking_of changed opens_of
    answer_to open_number
    open_words table_words member_words entry_words host_words laid table_size host_at host_size block_size entry_size newest_at second_at
    first_at known_at pending_at last_at accepted_at record_size matrix_word record_words kind_of number_bytes byte_in headed record_byte
    record_length record_bytes field_bytes framed encode found every alike holds
all_pass = refl

module _ {A : Type 0} where
  alike_same : (same : A → A → Bool) → ((x y : A) → same x y ≡ true → x ≡ y) → (xs ys : List A) → alike same xs ys ≡ true → xs ≡ ys
  unfolding alike
  alike_same same h [] [] e = refl
  alike_same same h [] (y ∷ ys) e = absurd (false≢true e)
  alike_same same h (x ∷ xs) [] e = absurd (false≢true e)
  alike_same same h (x ∷ xs) (y ∷ ys) e =
      rw (h x y (first (same x y) (alike same xs ys) e), alike_same same h xs ys (second (same x y) (alike same xs ys) e))

  -- what is tested of every element, from what the test means
  every_of : (test : A → Bool) (P : A → Type 0) → ((x : A) → test x ≡ true → P x) → (xs : List A) → every test xs ≡ true → Every P xs
  unfolding every
  every_of test P h [] e = tt
  every_of test P h (x ∷ xs) e =
      (h x (first (test x) (every test xs) e), every_of test P h xs (second (test x) (every test xs) e))

  every-at : (P : A → Type 0) (xs : List A) → Every P xs → (d : A) (k : ℕ) → k < length xs → P (get_or xs k d)
  every-at P [] h d k p = absurd (omega arith)
  every-at P (x ∷ xs) h d zero p = h.0
  every-at P (x ∷ xs) h d (suc k) p = every-at P xs h.1 d k (omega arith)

-- a case that passes its test holds
passes : (kind : Kind) (c : Case) → holds kind c ≡ true → Holds kind c
unfolding holds
passes kind c = every_of (λ q. alike (alike eqb) (found kind c q.question) q.lines) (λ q. found kind c q.question ≡ q.lines)
    (λ q. alike_same (alike eqb) (alike_same eqb eqb-true) (found kind c q.question) q.lines) c.claims

-- Every case of the table holds, and so each row of it; and every case of auction boards.
pub every_case : Every (Holds concur) cases
every_case = every_of (holds concur) (Holds concur) (passes concur) cases
    (first (every (holds concur) cases) (every (holds auction) auction_cases) all_pass)

pub case_at : (k : ℕ) → k < length cases → Holds concur (get_or cases k example)
case_at = every-at (Holds concur) cases every_case example

pub every_auction_case : Every (Holds auction) auction_cases
every_auction_case = every_of (holds auction) (Holds auction) (passes auction) auction_cases
    (second (every (holds concur) cases) (every (holds auction) auction_cases) all_pass)
