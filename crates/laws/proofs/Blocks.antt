-- A member's block and a host entry in words: sizes, decoding and encoding.
use Prim.Native.Nat.{ℕ, ◌+◌, ◌*◌, ◌<◌}
use native.Mathlib.Omega.{arith}
use mathlib.Core.Path.{◌≡◌, refl, sym, ap, ◌∙◌}
use mathlib.Core.List.{List, [], ◌∷◌, ◌++◌}
use lib.ListN.{length, take, drop, length-append}
use Rattle.lists.specs.Functions.{from, numbered}
use Rattle.lists.specs.Parts.{words, tabulate}
use Rattle.lists.proofs.Functions.{numbered_blank}
use Rattle.lists.proofs.Parts.{length-tabulate, tabulate-at}
use Rattle.lists.proofs.Pieces.{part_at, middle_at, second_at_lem, tabulate-join, tabulate-of}
use Rattle.model.specs.Rows.{zero_row, zero_matrix}
use Rattle.model.specs.Records.{Rec, opening, zero_record, zero_value}
use Rattle.model.specs.RecordWords.{record_size, row_of, matrix_of, value_of, record_of, record_words}
use Rattle.model.specs.Member.{Member, idle}
use Rattle.model.specs.Host.{Entry}
use Rattle.laws.proofs.Records.{row_of_same, value_of_same, matrix_of-same, record_of-same, row_listed, value_listed, matrix_listed}
use Rattle.laws.proofs.Records.{record_words_of, length-record_words, record_of-words, within_opening}
use Rattle.model.specs.Table.{own_at, stored_at, accepted_at, last_at, pending_at, known_at, first_at, second_at, block_size}
use Rattle.model.specs.Table.{newest_at, entry_size}
use Rattle.model.specs.Table.{member_of, entry_of, stored_of, member_words, entry_words}

-- The member's block.

pub block_sum : (n : ℕ) → block_size n ≡ 45 + 2 * n + 3 * (n * n)
unfolding block_size second_at first_at known_at pending_at last_at accepted_at record_size
block_sum n = omega arith

-- equal where it looks
pub member_same : (n : ℕ) (v w : ℕ → ℕ) → ((i : ℕ) → i < block_size n → v i ≡ w i) → member_of n v ≡ member_of n w
unfolding member_of block_size second_at first_at known_at pending_at last_at accepted_at record_size from
member_same n v w h = λ t. record {
  phase = h 0 (omega arith) t;
  crashed = h 1 (omega arith) t;
  halt = h 2 (omega arith) t;
  slot = h 3 (omega arith) t;
  operation = h 4 (omega arith) t;
  own = row_of_same n (from v own_at) (from w own_at) (λ i p. h (own_at + i) (omega arith)) t;
  accepted = row_of_same n (from v (accepted_at n)) (from w (accepted_at n)) (λ i p. h (accepted_at n + i) (omega arith)) t;
  last = value_of_same (from v (last_at n)) (from w (last_at n)) (λ i p. h (last_at n + i) (omega arith)) t;
  pending = value_of_same (from v (pending_at n)) (from w (pending_at n)) (λ i p. h (pending_at n + i) (omega arith)) t;
  known = matrix_of-same n (from v (known_at n)) (from w (known_at n)) (λ i p. h (known_at n + i) (omega arith)) t;
  first = record_of-same n (from v (first_at n)) (from w (first_at n)) (λ i p. h (first_at n + i) (omega arith)) t;
  second = record_of-same n (from v (second_at n)) (from w (second_at n)) (λ i p. h (second_at n + i) (omega arith)) t;
}

pub length-member : (n : ℕ) (m : Member) → length (member_words n m) ≡ block_size n
unfolding member_words block_size second_at first_at known_at pending_at last_at accepted_at
length-member n m = simp (length-append, length-tabulate, length-record_words) (omega arith)

five : (w : ℕ → ℕ) → (w 0 ∷ w 1 ∷ w 2 ∷ w 3 ∷ w 4 ∷ []) ≡ tabulate 5 w
unfolding tabulate
five w = refl

-- decoding loses nothing
pub member_words_lem : (n : ℕ) (w : ℕ → ℕ) → member_words n (member_of n w) ≡ tabulate (block_size n) w
unfolding member_words member_of block_size second_at first_at known_at pending_at last_at accepted_at
member_words_lem n w = simp (row_listed, value_listed, matrix_listed, record_words_of, ← tabulate-join, ← five)

pub member_back : (n : ℕ) (l : List ℕ) → length l ≡ block_size n → member_words n (member_of n (words l)) ≡ l
member_back n l h = member_words_lem n (words l) ∙ tabulate-of (block_size n) l h

-- the block as it is lent
pub member_part : (n : ℕ) (l : List ℕ) (a : ℕ) → member_of n (words (take (block_size n) (drop a l))) ≡ member_of n (from (words l) a)
member_part n l a = member_same n (words (take (block_size n) (drop a l))) (from (words l) a) (part_at l a (block_size n))

-- The entry.

pub entry_sum : (n : ℕ) → entry_size n ≡ 26 + 2 * (n * n)
unfolding entry_size newest_at record_size
entry_sum n = omega arith

pub entry_same : (n : ℕ) (v w : ℕ → ℕ) → ((i : ℕ) → i < entry_size n → v i ≡ w i) → entry_of n v ≡ entry_of n w
unfolding entry_of entry_size newest_at from
entry_same n v w h = λ t. record {
  submit_member = h 0 (omega arith) t;
  submit_count = h 1 (omega arith) t;
  newest = record_of-same n (from v (newest_at n)) (from w (newest_at n)) (λ i p. h (newest_at n + i) (omega arith)) t;
}

pub stored_same_lem : (n : ℕ) (v w : ℕ → ℕ) → ((i : ℕ) → i < entry_size n → v i ≡ w i) → stored_of n v ≡ stored_of n w
unfolding stored_of entry_size newest_at from
stored_same_lem n v w h = record_of-same n (from v stored_at) (from w stored_at) (λ i p. h (stored_at + i) (omega arith))

pub length-entry : (n : ℕ) (e : Entry) (stored : Rec) → length (entry_words n e stored) ≡ entry_size n
unfolding entry_words entry_size newest_at
length-entry n e stored = simp (length-append, length-record_words) (omega arith)

two : (w : ℕ → ℕ) → (w 0 ∷ w 1 ∷ []) ≡ tabulate 2 w
unfolding tabulate
two w = refl

pub entry_words_lem : (n : ℕ) (w : ℕ → ℕ) → entry_words n (entry_of n w) (stored_of n w) ≡ tabulate (entry_size n) w
unfolding entry_words entry_of stored_of entry_size newest_at
entry_words_lem n w = simp (record_words_of, ← tabulate-join, ← two)

pub entry_back : (n : ℕ) (l : List ℕ) → length l ≡ entry_size n → entry_words n (entry_of n (words l)) (stored_of n (words l)) ≡ l
entry_back n l h = entry_words_lem n (words l) ∙ tabulate-of (entry_size n) l h

pub entry_part : (n : ℕ) (l : List ℕ) (a : ℕ) → entry_of n (words (take (entry_size n) (drop a l))) ≡ entry_of n (from (words l) a)
entry_part n l a = entry_same n (words (take (entry_size n) (drop a l))) (from (words l) a) (part_at l a (entry_size n))

pub stored_part : (n : ℕ) (l : List ℕ) (a : ℕ) → stored_of n (words (take (entry_size n) (drop a l))) ≡ stored_of n (from (words l) a)
stored_part n l a = stored_same_lem n (words (take (entry_size n) (drop a l))) (from (words l) a) (part_at l a (entry_size n))

-- an entry written and read back, where its records are such as a board of n has
pub entry_read : (n : ℕ) (e : Entry) (stored : Rec) → record_of n (words (record_words n e.newest)) ≡ e.newest
    → entry_of n (words (entry_words n e stored)) ≡ e
unfolding entry_of entry_words newest_at
entry_read n e stored h = λ t. record { submit_member = e.submit_member; submit_count = e.submit_count; newest = read t }
  where
    front : List ℕ
    front = e.submit_member ∷ e.submit_count ∷ []

    read : record_of n (from (words (front ++ record_words n stored ++ record_words n e.newest)) (newest_at n)) ≡ e.newest
    read =
        record_of-same n (from (words (front ++ record_words n stored ++ record_words n e.newest)) (newest_at n))
        (words (record_words n e.newest))
        (λ i p. second_at_lem (front ++ record_words n stored) (record_words n e.newest) (newest_at n) i
        (simp (length-append, length-record_words) (omega arith)))
        ∙ h

pub stored_read : (n : ℕ) (e : Entry) (stored : Rec) → record_of n (words (record_words n stored)) ≡ stored
    → stored_of n (words (entry_words n e stored)) ≡ stored
unfolding stored_of entry_words
stored_read n e stored h =
    record_of-same n (from (words (entry_words n e stored)) stored_at) (words (record_words n stored))
    (λ i p. middle_at (e.submit_member ∷ e.submit_count ∷ []) (record_words n stored) (record_words n e.newest) stored_at i refl
    (rw length-record_words p))
    ∙ h

-- Zero words are an idle member; an opening record's words are three, and zeros.

row_zero : (n : ℕ) → row_of n (λ i. 0) ≡ zero_row
unfolding row_of zero_row
row_zero n = numbered_blank n 0

pub value_zero : value_of (λ i. 0) ≡ zero_value
unfolding value_of zero_value
value_zero = numbered_blank 8 0

matrix_zero : (n : ℕ) → matrix_of n (λ i. 0) ≡ zero_matrix
unfolding matrix_of zero_matrix from
matrix_zero n = ap (λ r. numbered n zero_row (λ j. r)) (row_zero n) ∙ numbered_blank n zero_row

pub record_zero : (n : ℕ) → record_of n (λ i. 0) ≡ zero_record
unfolding record_of zero_record from
record_zero n = λ t. record { member = 0; slot = 0; operation = 0; count = 0; value = value_zero t; matrix = matrix_zero n t }

pub member_zero : (n : ℕ) → member_of n (λ i. 0) ≡ idle
unfolding member_of idle zero_row from
member_zero n = λ t. record {
  phase = 0;
  crashed = 0;
  halt = 0;
  slot = 0;
  operation = 0;
  own = row_zero n t;
  accepted = row_zero n t;
  last = value_zero t;
  pending = value_zero t;
  known = matrix_zero n t;
  first = record_zero n t;
  second = record_zero n t;
}

pub idle_read : (n : ℕ) → member_of n (words (member_words n idle)) ≡ idle
idle_read n =
    ap (λ m. member_of n (words (member_words n m))) (sym (member_zero n))
    ∙ ap (λ l. member_of n (words l)) (member_words_lem n (λ i. 0))
    ∙ member_same n (words (tabulate (block_size n) (λ i. 0))) (λ i. 0) (tabulate-at (block_size n) (λ i. 0))
    ∙ member_zero n

pub opening_read : (n k : ℕ) → record_of n (words (record_words n (opening k))) ≡ opening k
opening_read n k = record_of-words n (opening k) ∙ within_opening n k
