-- Every example holds, of each program: both sides are computed. Assumes nothing.
use mathlib.Core.Path.{refl}
use Rattle.lists.specs.Every.{Every}
use Rattle.lists.proofs.Functions.{◌and◌}
use Rattle.model.specs.Rows.{zero_row, zero_matrix, below, matrix_below, comparable, larger, with_count}
use Rattle.model.specs.Records.{zero_value, opening, zero_record, record_within}
use Rattle.model.specs.Kinds.{is_operation, barred, becomes_stored}
use Rattle.model.specs.Numbers.{fields_number, kind_number, begin_answer, deliver_answer, crash_answer}
use Rattle.model.specs.Member.{idle, begun, answered, check21, check22, check23, check24, check25, check26, check27, halt_number, joined}
use Rattle.model.specs.Member.{own_record, passed, failed, replied, judged, completed, took_over, dropped, outcome, returned_by, crashed_of}
use Rattle.model.specs.Host.{submitted, wins, entry_after, stored_after}
use Rattle.model.specs.Board.{no_entry, opening_entry, opened, with_member, board_begun, submit_taken, reply_taken, sent_record}
use Rattle.model.specs.Board.{commit_taken}
use Rattle.model.specs.Board.{outcome_taken, board_delivered, board_returned, board_crashed}
use Rattle.model.specs.Runs.{answer_of, done, done_returns, after, seen_at, run}
use Rattle.model.specs.RecordWords.{record_size, row_of, matrix_of, value_of, record_of, matrix_word, record_words}
use Rattle.model.specs.Table.{accepted_at, last_at, pending_at, known_at, first_at, second_at, block_size, newest_at, entry_size, host_size}
use Rattle.model.specs.Table.{block_at, host_at, entry_at, table_size, member_of, entry_of, stored_of, members_of, host_of}
use Rattle.model.specs.Table.{stored_records_of}
use Rattle.model.specs.Table.{board_of, member_words, entry_words, host_words, table_words, sound_record, sound_operation, sound_member}
use Rattle.model.specs.Table.{sound_entry, sound_host, sound_board, table_number, block_number, entries_number}
use Rattle.model.specs.Halves.{fit_record, member_number, member_begin_number, member_begin_words, not_waiting, reply_number, reply_words}
use Rattle.model.specs.Halves.{outcome_number, outcome_words, outcome_returns, member_crash_number, member_crash_words}
use Rattle.model.specs.Halves.{host_number, submit_words}
use Rattle.model.specs.Halves.{submit_newest, submit_stored, commit_number, commit_outcome, commit_words}
use Rattle.model.specs.TableCalls.{open_number, open_words, board_in, begin_number, call_number, table_answer, table_after, table_returns}
use Rattle.model.specs.TableCalls.{phase_words, table_seen, table_run}
use Rattle.lists.specs.Functions.{put, pasted, from, inside, within, numbered, each}
use Rattle.lists.specs.Parts.{tabulate}
use Rattle.lists.specs.Pieces.{place, pieces, laid}
use Rattle.model.specs.Script.{is_digit, starts_with, before, beyond, digits_within, digits, digits_read, limited, leading_zero, number_of}
use Rattle.model.specs.Script.{one_number, two_numbers, line_of, text_of, first_of, call_of, caller, stepped, step_line}
use Rattle.model.specs.Script.{steps_from, with_byte}
use Rattle.model.specs.Script.{lines_of}
use Rattle.model.specs.Script.{board_run, lines_run, script_run, or_dash, printed_line, last_word, printed_step, printed_steps, board_line}
use Rattle.model.specs.Script.{refused_line, printed_run, script_output}
use Rattle.model.specs.Script.{with_call, calls_of}
use Rattle.model.specs.History.{no_op, begun_op, submitted_op, submit_of, decided_op, ended_op, ended, watch_deliver, watch_call}
use Rattle.model.specs.History.{watch_step}
use Rattle.model.specs.History.{watch_from, nothing_yet, watched}
use Rattle.model.specs.Overtaker.{is_aborted, aborted_op, earlier, first_overtaking, overtaking, overtaker_in, named, is_call, well_formed}
use Rattle.model.specs.Overtaker.{lines_overtaker, members_overtaker, script_overtaker, overtaker, both_numbers, asked_by}
use Rattle.model.specs.Overtaker.{for_asked, overtaker_for}
use Rattle.model.specs.Overtaker.{printed_overtaker, overtaker_output}
use Rattle.model.specs.Cause.{without, is_accepted, has_accepted, accepted_without, first_cause, cause_in, unless_refused, lines_cause}
use Rattle.model.specs.Cause.{script_cause, cause, cause_for, printed_cause, cause_output}
use Rattle.model.specs.Script.{step_call, made_by, with_seen, seen_of}
use Rattle.model.specs.History.{accepted_of}
use Rattle.model.specs.Bill.{of_member, price, prices, tenths, rounded_up, bill, total, accepted_in_order, bill_line, printed_bill}
use Rattle.model.specs.Bill.{bill_of_run}
use Rattle.model.specs.Bill.{bill_output}
use Rattle.script_cases.specs.Examples.{Holds, examples, Answers, questions, line_feeds, cause_questions, Owes, times, bills}

pub every_example : Every Holds examples × Every (Answers overtaker_output) questions × Every (Answers cause_output) cause_questions
    × Every Owes bills
unfolding examples questions line_feeds cause_questions zero_row zero_matrix below matrix_below comparable larger with_count
    zero_value opening
    zero_record record_within
    is_operation barred becomes_stored fields_number kind_number begin_answer deliver_answer crash_answer idle begun answered check21
    check22 check23 check24 check25 check26 check27 halt_number joined own_record passed failed replied judged completed took_over dropped
    outcome returned_by crashed_of submitted
    wins entry_after stored_after no_entry opening_entry opened with_member board_begun submit_taken reply_taken sent_record commit_taken
    outcome_taken board_delivered board_returned board_crashed answer_of done done_returns after seen_at run record_size row_of matrix_of
    value_of record_of matrix_word record_words accepted_at last_at pending_at known_at first_at second_at block_size newest_at entry_size
    host_size block_at host_at entry_at table_size member_of entry_of stored_of members_of host_of stored_records_of board_of member_words
    entry_words host_words table_words sound_record sound_operation sound_member sound_entry sound_host sound_board table_number
    block_number entries_number fit_record member_number member_begin_number member_begin_words not_waiting reply_number reply_words
    outcome_number outcome_words outcome_returns member_crash_number member_crash_words host_number submit_words submit_newest submit_stored
    commit_number commit_outcome commit_words open_number open_words board_in begin_number call_number table_answer table_after
    table_returns
    phase_words table_seen table_run put pasted from inside within numbered each tabulate place pieces laid is_digit starts_with
    before beyond
    digits_within
    digits digits_read limited leading_zero number_of one_number two_numbers line_of text_of first_of call_of caller stepped
    step_line steps_from
    with_byte lines_of board_run lines_run script_run or_dash printed_line last_word printed_step printed_steps board_line
    refused_line printed_run
    script_output no_op begun_op submitted_op submit_of decided_op ended_op ended watch_deliver watch_call watch_step watch_from
    nothing_yet watched
    with_call calls_of is_aborted aborted_op earlier first_overtaking overtaking overtaker_in named is_call well_formed lines_overtaker
    members_overtaker script_overtaker overtaker both_numbers asked_by for_asked overtaker_for printed_overtaker overtaker_output
    without is_accepted has_accepted accepted_without first_cause cause_in unless_refused lines_cause script_cause cause cause_for
    printed_cause
    cause_output step_call made_by with_seen seen_of accepted_of of_member price prices tenths rounded_up bill total
    accepted_in_order bill_line
    printed_bill bill_of_run bill_output times bills
every_example = (
  refl and refl and refl and refl and refl and refl and refl and refl and refl and refl and refl and refl and refl and refl and tt,
  refl and refl and refl and refl and refl and refl and refl and refl and refl and refl and refl and refl and refl and refl and
      refl and refl and refl and refl and refl and refl and refl and refl and refl and refl and refl and refl and refl and refl and
      refl and refl and refl and refl and refl and tt,
  refl and refl and refl and refl and refl and refl and refl and refl and refl and refl and refl and refl and refl and
      refl and refl and refl and refl and refl and refl and refl and refl and refl and refl and refl and refl and refl and refl and
      refl and tt,
  refl and refl and refl and refl and refl and refl and refl and tt,
)
