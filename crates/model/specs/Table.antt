-- How a board lies in the table's words, and the table's check. Document 01, "Records and the table": "The table is 32-bit words: n;
-- then n member blocks; then n host entries."
use Rattle.std.specs.Prelude.{ℕ, ◌+◌, ◌*◌, Bool, cond, not, ◌&&◌, ◌||◌, List, [], ◌∷◌, ◌++◌, eqb, leb, length}
use Rattle.lists.specs.Functions.{from, inside, each}
use Rattle.lists.specs.Parts.{words, tabulate, listed}
use Rattle.lists.specs.Pieces.{place, pieces, laid}
use Rattle.model.specs.Records.{Rec, zero_record}
use Rattle.model.specs.RecordWords.{record_size, row_of, matrix_of, value_of, record_of, matrix_word, record_words}
use Rattle.model.specs.Kinds.{is_size, barred}
use Rattle.model.specs.Member.{Member, idle}
use Rattle.model.specs.Host.{Entry}
use Rattle.model.specs.Board.{Board, no_entry}

-- Where the parts begin, and how many words there are. Each part begins where the one before it ends, so that a new one moves what
-- follows.

abbrev pub value_size : ℕ
value_size = 8

-- "Member block, 45 + 2n + 3n² words: phase, crash mark, halt number, slot, type, own counts (n), accepted counts (n), last accepted own
-- sheet, pending sheet, known matrix, first and second message record."
abbrev pub phase_at : ℕ
phase_at = 0

abbrev pub crashed_at : ℕ
crashed_at = 1

abbrev pub halt_at : ℕ
halt_at = 2

abbrev pub slot_at : ℕ
slot_at = 3

abbrev pub operation_at : ℕ
operation_at = 4

abbrev pub own_at : ℕ
own_at = 5

unfoldable pub accepted_at : ℕ → ℕ
accepted_at n = own_at + n

unfoldable pub last_at : ℕ → ℕ
last_at n = accepted_at n + n

unfoldable pub pending_at : ℕ → ℕ
pending_at n = last_at n + value_size

unfoldable pub known_at : ℕ → ℕ
known_at n = pending_at n + value_size

unfoldable pub first_at : ℕ → ℕ
first_at n = known_at n + n * n

unfoldable pub second_at : ℕ → ℕ
second_at n = first_at n + record_size n

unfoldable pub block_size : ℕ → ℕ
block_size n = second_at n + record_size n

-- "Host entry, 26 + 2n² words: member and count of the newest submit (0, 0 for none), stored record, newest record."
abbrev pub submit_member_at : ℕ
submit_member_at = 0

abbrev pub submit_count_at : ℕ
submit_count_at = 1

abbrev pub stored_at : ℕ
stored_at = 2

unfoldable pub newest_at : ℕ → ℕ
newest_at n = stored_at + record_size n

unfoldable pub entry_size : ℕ → ℕ
entry_size n = newest_at n + record_size n

-- the n host entries, which the host half is lent as one part
unfoldable pub host_size : ℕ → ℕ
host_size n = n * entry_size n

-- the table: n, the blocks, the entries; block i and entry r are numbered from 1
abbrev pub blocks_at : ℕ
blocks_at = 1

unfoldable pub block_at : ℕ → ℕ → ℕ
block_at n i = blocks_at + place (block_size n) i

unfoldable pub host_at : ℕ → ℕ
host_at n = blocks_at + n * block_size n

unfoldable pub entry_at : ℕ → ℕ → ℕ
entry_at n r = host_at n + place (entry_size n) r

unfoldable pub table_size : ℕ → ℕ
table_size n = host_at n + host_size n

-- Decoders: functions of the words w from the place on where the thing begins.

unfoldable pub member_of : ℕ → (ℕ → ℕ) → Member
member_of n w = record {
  phase = w phase_at;
  crashed = w crashed_at;
  halt = w halt_at;
  slot = w slot_at;
  operation = w operation_at;
  own = row_of n (from w own_at);
  accepted = row_of n (from w (accepted_at n));
  last = value_of (from w (last_at n));
  pending = value_of (from w (pending_at n));
  known = matrix_of n (from w (known_at n));
  first = record_of n (from w (first_at n));
  second = record_of n (from w (second_at n));
}

-- an entry, and the stored record in it
unfoldable pub entry_of : ℕ → (ℕ → ℕ) → Entry
entry_of n w = record { submit_member = w submit_member_at; submit_count = w submit_count_at; newest = record_of n (from w (newest_at n)) }

unfoldable pub stored_of : ℕ → (ℕ → ℕ) → Rec
stored_of n w = record_of n (from w stored_at)

-- the n blocks, and the n entries with their stored records
unfoldable pub members_of : ℕ → (ℕ → ℕ) → ℕ → Member
members_of n w = pieces n idle (block_size n) (member_of n) w

unfoldable pub host_of : ℕ → (ℕ → ℕ) → ℕ → Entry
host_of n w = pieces n no_entry (entry_size n) (entry_of n) w

unfoldable pub stored_records_of : ℕ → (ℕ → ℕ) → ℕ → Rec
stored_records_of n w = pieces n zero_record (entry_size n) (stored_of n) w

-- the table
unfoldable pub board_of : ℕ → (ℕ → ℕ) → Board
board_of n w = record {
  members = members_of n (from w blocks_at);
  host = host_of n (from w (host_at n));
  stored = stored_records_of n (from w (host_at n));
}

-- The same of the words that a call is lent: a member's block, one entry and its stored record, the n entries, a board of n members.

abbrev pub member_in : ℕ → List ℕ → Member
member_in n l = member_of n (words l)

abbrev pub entry_in : ℕ → List ℕ → Entry
entry_in n l = entry_of n (words l)

abbrev pub entry_stored_in : ℕ → List ℕ → Rec
entry_stored_in n l = stored_of n (words l)

abbrev pub host_in : ℕ → List ℕ → ℕ → Entry
host_in n l = host_of n (words l)

abbrev pub stored_in : ℕ → List ℕ → ℕ → Rec
stored_in n l = stored_records_of n (words l)

abbrev pub board_by : ℕ → List ℕ → Board
board_by n l = board_of n (words l)

-- Encoders.

unfoldable pub member_words : ℕ → Member → List ℕ
member_words n m =
    (m.phase ∷ m.crashed ∷ m.halt ∷ m.slot ∷ m.operation ∷ [])
    ++ listed n m.own
    ++ listed n m.accepted
    ++ listed value_size m.last
    ++ listed value_size m.pending
    ++ tabulate (n * n) (matrix_word n m.known)
    ++ record_words n m.first
    ++ record_words n m.second

unfoldable pub entry_words : ℕ → Entry → Rec → List ℕ
entry_words n e stored = (e.submit_member ∷ e.submit_count ∷ []) ++ record_words n stored ++ record_words n e.newest

unfoldable pub host_words : ℕ → (ℕ → Entry) → (ℕ → Rec) → List ℕ
host_words n host stored = laid n (λ r. entry_words n (host r) (stored r))

unfoldable pub table_words : ℕ → Board → List ℕ
table_words n b = (n ∷ []) ++ laid n (λ i. member_words n (b.members i)) ++ host_words n b.host b.stored

-- The check, numbers 2 and 3 of "Numbers by the place of the check". "3 a phase above 6, crash mark above 1, halt number not 0 or 21 to
-- 27, slot or member above n, type above 2, .. or phase 1 to 5 with slot or type 0 or a slot and type that 7 refuses". Nothing else is a
-- fault: see docs/DECISIONS.md.

unfoldable pub sound_record : ℕ → Rec → Bool
sound_record n r = leb r.member n && leb r.slot n && leb r.operation 2

-- the operation of a member in phase 1 to 5
unfoldable pub sound_operation : ℕ → Member → Bool
sound_operation i m =
    not (inside 5 m.phase) || leb 1 m.slot && leb 1 m.operation && not (barred i m.slot m.operation)

-- the block of member i
unfoldable pub sound_member : ℕ → ℕ → Member → Bool
sound_member n i m =
    leb m.phase 6
    && leb m.crashed 1
    && (eqb m.halt 0 || leb 21 m.halt && leb m.halt 27)
    && leb m.slot n
    && leb m.operation 2
    && sound_operation i m
    && sound_record n m.first
    && sound_record n m.second

unfoldable pub sound_entry : ℕ → Entry → Rec → Bool
sound_entry n e stored = leb e.submit_member n && sound_record n stored && sound_record n e.newest

unfoldable pub sound_host : ℕ → (ℕ → Entry) → (ℕ → Rec) → Bool
sound_host n host stored = each n (λ r. sound_entry n (host r) (stored r))

unfoldable pub sound_board : ℕ → Board → Bool
sound_board n b = each n (λ i. sound_member n i (b.members i)) && sound_host n b.host b.stored

-- the table's number: "board's n not 1 to 12 (before 2)"; its n is word 0, and an empty table's is 0
unfoldable pub table_number : List ℕ → ℕ
table_number l =
    let n = words l 0 in
    cond (not (is_size n)) 3
    (cond (not (eqb (length l) (table_size n))) 2
    (cond (not (sound_board n (board_by n l))) 3
    0))

-- the halves': of a part of some length that holds member i's block, and of one that holds the n host entries
unfoldable pub block_number : ℕ → ℕ → ℕ → Member → ℕ
block_number n i long m =
    cond (not (eqb long (block_size n))) 2
    (cond (not (sound_member n i m)) 3
    0)

unfoldable pub entries_number : ℕ → ℕ → (ℕ → Entry) → (ℕ → Rec) → ℕ
entries_number n long host stored =
    cond (not (eqb long (host_size n))) 2
    (cond (not (sound_host n host stored)) 3
    0)
