-- What both kinds of begin answer on tables and blocks of words: every row of the table is computed.
use mathlib.Core.Path.{◌≡◌, refl}
use mathlib.Core.List.{map}
use Rattle.lists.specs.Functions.{put, from, within, inside, each, numbered}
use Rattle.lists.specs.Parts.{tabulate}
use Rattle.lists.specs.Pieces.{place, pieces, laid}
use Rattle.model.specs.Rows.{zero_row, zero_matrix}
use Rattle.model.specs.Records.{zero_value, zero_record, opening}
use Rattle.model.specs.Kinds.{is_operation, barred}
use Rattle.model.specs.Numbers.{fields_number, kind_number, begin_answer, deliver_answer, crash_answer}
use Rattle.model.specs.Member.{idle}
use Rattle.model.specs.Board.{no_entry, opening_entry, opened, with_member}
use Rattle.model.specs.Runs.{answer_of}
use Rattle.model.specs.RecordWords.{record_size, row_of, matrix_of, value_of, record_of, matrix_word, record_words}
use Rattle.model.specs.Table.{accepted_at, last_at, pending_at, known_at, first_at, second_at, block_size, newest_at, entry_size}
use Rattle.model.specs.Table.{host_size, block_at}
use Rattle.model.specs.Table.{host_at, entry_at, table_size, member_of, entry_of, stored_of, members_of, host_of}
use Rattle.model.specs.Table.{stored_records_of, board_of}
use Rattle.model.specs.Table.{member_words, entry_words, host_words, table_words, sound_record, sound_operation, sound_member, sound_entry}
use Rattle.model.specs.Table.{sound_host, sound_board, table_number, block_number}
use Rattle.model.specs.Halves.{lent_number, member_begin_number}
use Rattle.model.specs.TableCalls.{board_in, begin_number, call_number, table_answer}
use Rattle.runs.specs.AuctionCases.{lent_cases}

pub lent_cases_lem : map (λ c. c.found) lent_cases ≡ map (λ c. c.due) lent_cases
unfolding put from within inside each numbered tabulate place pieces laid zero_row zero_matrix zero_value zero_record opening is_operation
    barred fields_number kind_number begin_answer deliver_answer crash_answer idle no_entry opening_entry opened with_member
    answer_of record_size
    row_of matrix_of value_of record_of matrix_word record_words accepted_at last_at pending_at known_at first_at second_at
    block_size newest_at
    entry_size host_size block_at host_at entry_at table_size member_of entry_of stored_of members_of host_of stored_records_of
    board_of member_words
    entry_words host_words table_words sound_record sound_operation sound_member sound_entry sound_host sound_board table_number
    block_number
    lent_number member_begin_number board_in begin_number call_number table_answer
lent_cases_lem = refl
