-- The table in words: sizes, decoding and encoding, and the parts of it that are lent and put back.
use Prim.Native.Nat.{ℕ, ◌+◌, ◌*◌, ◌≤◌, ◌<◌}
use native.Mathlib.Nat.{mul-add}
use native.Mathlib.Omega.{arith}
use mathlib.Core.Path.{◌≡◌, refl, sym, ap, ◌∙◌}
use mathlib.Core.Bool.{Bool, true, ◌&&◌}
use mathlib.Core.List.{List, [], ◌∷◌, ◌++◌}
use lib.Dec.{eqb, leb}
use lib.ListN.{length, take, drop, length-append}
use borrow.Author.Tests.{leb-true, eqb-true, eqb-false}
use Rattle.lists.specs.Functions.{put, pasted, from, within, each}
use Rattle.lists.specs.Parts.{words, tabulate, replaced}
use Rattle.lists.specs.Pieces.{place, laid}
use Rattle.lists.proofs.Functions.{on, first, second, each_at, within_at, within_same, within_blank, from_from, from_pasted_at}
use Rattle.lists.proofs.Functions.{from_pasted_below, from_pasted_above}
use Rattle.lists.proofs.Parts.{words_replaced}
use Rattle.lists.proofs.Pieces.{part_at, pasted_from, middle_at, second_at_lem, tabulate-join, tabulate-of, place_room, length-laid}
use Rattle.lists.proofs.Pieces.{laid_tabulate, pieces_at, pieces-same, pieces-put, pieces-laid}
use Rattle.model.specs.Records.{Rec, opening, zero_record}
use Rattle.model.specs.Member.{Member, idle}
use Rattle.model.specs.Host.{Entry}
use Rattle.model.specs.Board.{Board, no_entry, opening_entry, opened, with_member}
use Rattle.model.specs.Table.{blocks_at, block_size, entry_size, host_size, block_at, host_at, entry_at, table_size, member_of}
use Rattle.model.specs.Table.{entry_of, stored_of}
use Rattle.model.specs.Table.{members_of, host_of, stored_records_of, board_of, member_words, entry_words, host_words, table_words}
use Rattle.laws.proofs.Blocks.{block_sum, entry_sum, member_part, member_same, entry_same, stored_same_lem, length-member}
use Rattle.laws.proofs.Blocks.{length-entry, member_words_lem, entry_words_lem, entry_read, stored_read, idle_read, opening_read}

-- Sizes.

pub table_sum : (n : ℕ) → table_size n ≡ 1 + n * (71 + 2 * n + 5 * (n * n))
unfolding table_size host_at host_size
table_sum n =
    let e : block_size n + entry_size n ≡ 71 + 2 * n + 5 * (n * n) = omega (arith, block_sum n, entry_sum n) in
    rw (← e, mul-add n (block_size n) (entry_size n)) (omega arith)

pub table_least : table_size 1 ≡ 79
table_least = table_sum 1

pub table_most : table_size 12 ≡ 9781
table_most = table_sum 12

-- block i within the blocks, entry r within the entries
pub block_room : (n i : ℕ) → 1 ≤ i → i ≤ n → block_at n i + block_size n ≤ host_at n
unfolding block_at host_at
block_room n i p q = omega (arith, place_room (block_size n) n i p q)

pub entry_first : (n : ℕ) → entry_at n 1 ≡ host_at n
unfolding entry_at place
entry_first n = omega arith

pub entry_room : (n r : ℕ) → 1 ≤ r → r ≤ n → entry_at n r + entry_size n ≤ table_size n
unfolding entry_at table_size host_size
entry_room n r p q = omega (arith, place_room (entry_size n) n r p q)

pub host_room : (n : ℕ) → host_at n + host_size n ≡ table_size n
unfolding table_size
host_room n = refl

-- A test of each n up to 12, computed, holds of n.
pub up_to_twelve : (test : ℕ → Bool) → (test 0 && each 12 test) ≡ true → (n : ℕ) → n ≤ 12 → test n ≡ true
up_to_twelve test h n p = on (eqb n 0)
    (λ e. rw (eqb-true n 0 e) (first (test 0) (each 12 test) h))
    (λ e. let d : n ≡ 0 → ⊥ = eqb-false n 0 e in
    each_at 12 test (second (test 0) (each 12 test) h) n (omega arith) p)

pub at_most : (size : ℕ → ℕ) (most : ℕ) → (leb (size 0) most && each 12 (λ n. leb (size n) most)) ≡ true → (n : ℕ) → n ≤ 12 → size n ≤ most
at_most size most h n p = leb-true (size n) most (up_to_twelve (λ n. leb (size n) most) h n p)

pub block_small : (n : ℕ) → n ≤ 12 → block_size n ≤ 501
unfolding each
block_small n p = rw block_sum (at_most (λ n. 45 + 2 * n + 3 * (n * n)) 501 refl n p)

pub entry_small : (n : ℕ) → n ≤ 12 → entry_size n ≤ 314
unfolding each
entry_small n p = rw entry_sum (at_most (λ n. 26 + 2 * (n * n)) 314 refl n p)

pub table_small : (n : ℕ) → n ≤ 12 → table_size n ≤ 9781
unfolding each
table_small n p = rw table_sum (at_most (λ n. 1 + n * (71 + 2 * n + 5 * (n * n))) 9781 refl n p)

-- Each block and entry by its own place in the table.

pub member_at : (n : ℕ) (w : ℕ → ℕ) (i : ℕ) → 1 ≤ i → i ≤ n → (board_of n w).members i ≡ member_of n (from w (block_at n i))
unfolding board_of members_of block_at
member_at n w i p q =
    pieces_at n idle (block_size n) (member_of n) (from w blocks_at) i p q
    ∙ ap (member_of n) (from_from w blocks_at (place (block_size n) i))

pub entry_at_lem : (n : ℕ) (w : ℕ → ℕ) (r : ℕ) → 1 ≤ r → r ≤ n → (board_of n w).host r ≡ entry_of n (from w (entry_at n r))
unfolding board_of host_of entry_at
entry_at_lem n w r p q =
    pieces_at n no_entry (entry_size n) (entry_of n) (from w (host_at n)) r p q
    ∙ ap (entry_of n) (from_from w (host_at n) (place (entry_size n) r))

pub stored_at_lem : (n : ℕ) (w : ℕ → ℕ) (r : ℕ) → 1 ≤ r → r ≤ n → (board_of n w).stored r ≡ stored_of n (from w (entry_at n r))
unfolding board_of stored_records_of entry_at
stored_at_lem n w r p q =
    pieces_at n zero_record (entry_size n) (stored_of n) (from w (host_at n)) r p q
    ∙ ap (stored_of n) (from_from w (host_at n) (place (entry_size n) r))

-- Equal where the decoders look.

pub members_same : (n : ℕ) (v w : ℕ → ℕ) → ((i : ℕ) → i < n * block_size n → v i ≡ w i) → members_of n v ≡ members_of n w
unfolding members_of
members_same n v w h = pieces-same n idle (block_size n) (member_of n) (member_same n) v w h

pub host_same : (n : ℕ) (v w : ℕ → ℕ) → ((i : ℕ) → i < host_size n → v i ≡ w i) → host_of n v ≡ host_of n w
unfolding host_of host_size
host_same n v w h = pieces-same n no_entry (entry_size n) (entry_of n) (entry_same n) v w h

pub stored_records_same : (n : ℕ) (v w : ℕ → ℕ) → ((i : ℕ) → i < host_size n → v i ≡ w i) → stored_records_of n v ≡ stored_records_of n w
unfolding stored_records_of host_size
stored_records_same n v w h = pieces-same n zero_record (entry_size n) (stored_of n) (stored_same_lem n) v w h

-- by members, host and stored records
board_by_lem : {a b : Board} → a.members ≡ b.members → a.host ≡ b.host → a.stored ≡ b.stored → a ≡ b
board_by_lem p q r = λ t. record { members = p t; host = q t; stored = r t }

pub board_same : (n : ℕ) (v w : ℕ → ℕ) → ((i : ℕ) → i < table_size n → v i ≡ w i) → board_of n v ≡ board_of n w
unfolding board_of table_size host_at from
board_same n v w h = board_by_lem
    (members_same n (from v blocks_at) (from w blocks_at) (λ i p. h (blocks_at + i) (omega arith)))
    (host_same n (from v (host_at n)) (from w (host_at n)) (λ i p. h (host_at n + i) (omega arith)))
    (stored_records_same n (from v (host_at n)) (from w (host_at n)) (λ i p. h (host_at n + i) (omega arith)))

-- Decoding loses nothing.

pub host_words_lem : (n : ℕ) (w : ℕ → ℕ) → host_words n (host_of n w) (stored_records_of n w) ≡ tabulate (host_size n) w
unfolding host_words host_of stored_records_of host_size
host_words_lem n w = laid_tabulate (entry_size n) (λ r. entry_words n (host_of n w r) (stored_records_of n w r)) n w (λ r p q.
    rw (pieces_at n no_entry (entry_size n) (entry_of n) w r p q, pieces_at n zero_record (entry_size n) (stored_of n) w r p q)
    (entry_words_lem n (from w (place (entry_size n) r))))

pub members_words : (n : ℕ) (w : ℕ → ℕ) → laid n (λ i. member_words n (members_of n w i)) ≡ tabulate (n * block_size n) w
unfolding members_of
members_words n w = laid_tabulate (block_size n) (λ i. member_words n (members_of n w i)) n w (λ i p q.
    rw (pieces_at n idle (block_size n) (member_of n) w i p q)
    (member_words_lem n (from w (place (block_size n) i))))

one : (w : ℕ → ℕ) → (w 0 ∷ []) ≡ tabulate 1 w
unfolding tabulate
one w = refl

pub table_words_lem : (n : ℕ) (w : ℕ → ℕ) → w 0 ≡ n → table_words n (board_of n w) ≡ tabulate (table_size n) w
unfolding table_words board_of table_size host_at
table_words_lem n w h =
    rw (members_words n (from w blocks_at), host_words_lem n (from w (host_at n)))
    (ap (λ k. k ∷ (tabulate (n * block_size n) (from w blocks_at) ++ tabulate (host_size n) (from w (host_at n)))) (sym h)
    ∙ simp (← tabulate-join, ← one))

pub host_back : (n : ℕ) (l : List ℕ) → length l ≡ host_size n → host_words n (host_of n (words l)) (stored_records_of n (words l)) ≡ l
host_back n l h = host_words_lem n (words l) ∙ tabulate-of (host_size n) l h

pub table_back : (n : ℕ) (l : List ℕ) → length l ≡ table_size n → words l 0 ≡ n → table_words n (board_of n (words l)) ≡ l
table_back n l h e = table_words_lem n (words l) e ∙ tabulate-of (table_size n) l h

-- Lengths.

pub length-members : (n : ℕ) (members : ℕ → Member) → length (laid n (λ i. member_words n (members i))) ≡ n * block_size n
length-members n members = length-laid (block_size n) (λ i. member_words n (members i)) n (λ i p q. length-member n (members i))

pub length-host : (n : ℕ) (host : ℕ → Entry) (stored : ℕ → Rec) → length (host_words n host stored) ≡ host_size n
unfolding host_words host_size
length-host n host stored = length-laid (entry_size n) (λ r. entry_words n (host r) (stored r)) n
    (λ r p q. length-entry n (host r) (stored r))

pub length-table : (n : ℕ) (b : Board) → length (table_words n b) ≡ table_size n
unfolding table_words table_size host_at
length-table n b = simp (length-append, length-members, length-host) (omega arith)

pub table_zero : (n : ℕ) (b : Board) → words (table_words n b) 0 ≡ n
unfolding table_words
table_zero n b = refl

-- A table written and read back, each member and entry through its own words.
pub table_read : (n : ℕ) (b : Board) → board_of n (words (table_words n b)) ≡ record {
  members = within n idle (λ i. member_of n (words (member_words n (b.members i))));
  host = within n no_entry (λ r. entry_of n (words (entry_words n (b.host r) (b.stored r))));
  stored = within n zero_record (λ r. stored_of n (words (entry_words n (b.host r) (b.stored r))));
}
unfolding board_of table_words host_at members_of host_of stored_records_of host_words
table_read n b = board_by_lem
    (members_same n (from (words (table_words n b)) blocks_at) (words blocks)
    (λ i p. middle_at (n ∷ []) blocks entries blocks_at i refl (rw (length-members n b.members) p))
    ∙ pieces-laid n idle (block_size n) (member_of n) (member_same n) (λ i. member_words n (b.members i))
    (λ i p q. length-member n (b.members i)))
    (host_same n (from (words (table_words n b)) (host_at n)) (words entries) after
    ∙ pieces-laid n no_entry (entry_size n) (entry_of n) (entry_same n) (λ r. entry_words n (b.host r) (b.stored r))
    (λ r p q. length-entry n (b.host r) (b.stored r)))
    (stored_records_same n (from (words (table_words n b)) (host_at n)) (words entries) after
    ∙ pieces-laid n zero_record (entry_size n) (stored_of n) (stored_same_lem n) (λ r. entry_words n (b.host r) (b.stored r))
    (λ r p q. length-entry n (b.host r) (b.stored r)))
  where
    blocks : List ℕ
    blocks = laid n (λ i. member_words n (b.members i))

    entries : List ℕ
    entries = host_words n b.host b.stored

    after : (i : ℕ) → i < host_size n → from (words (table_words n b)) (host_at n) i ≡ words entries i
    after i p = second_at_lem ((n ∷ []) ++ blocks) entries (host_at n) i (simp (length-append, length-members) (omega arith))

pub opened_read : (n : ℕ) → board_of n (words (table_words n (opened n))) ≡ opened n
unfolding opened opening_entry
opened_read n = table_read n (opened n) ∙ board_by_lem
    (ap (λ m. within n idle (λ i. m)) (idle_read n) ∙ within_blank n idle)
    (within_same n no_entry (λ r. entry_of n (words (entry r))) opening_entry (λ r p q.
    rw (within_at n no_entry opening_entry r p q) (entry_read n (opening_entry r) ((opened n).stored r) (opening_read n r))))
    (within_same n zero_record (λ r. stored_of n (words (entry r))) opening (λ r p q.
    rw (within_at n zero_record opening r p q) (stored_read n ((opened n).host r) (opening r) (opening_read n r))))
  where
    entry : ℕ → List ℕ
    entry r = entry_words n ((opened n).host r) ((opened n).stored r)

-- The parts that are lent: a block, and the n entries.

pub board_member_part : (n i : ℕ) (l : List ℕ) → 1 ≤ i → i ≤ n
    → member_of n (words (take (block_size n) (drop (block_at n i) l))) ≡ (board_of n (words l)).members i
board_member_part n i l p q = member_part n l (block_at n i) ∙ sym (member_at n (words l) i p q)

pub host_part : (n : ℕ) (l : List ℕ) (a : ℕ) → host_of n (words (take (host_size n) (drop a l))) ≡ host_of n (from (words l) a)
host_part n l a = host_same n (words (take (host_size n) (drop a l))) (from (words l) a) (part_at l a (host_size n))

pub stored_records_part : (n : ℕ) (l : List ℕ) (a : ℕ) → stored_records_of n (words (take (host_size n) (drop a l)))
    ≡ stored_records_of n (from (words l) a)
stored_records_part n l a = stored_records_same n (words (take (host_size n) (drop a l))) (from (words l) a) (part_at l a (host_size n))

pub board_host_part : (n : ℕ) (l : List ℕ) → host_of n (words (take (host_size n) (drop (host_at n) l))) ≡ (board_of n (words l)).host
unfolding board_of
board_host_part n l = host_part n l (host_at n)

pub board_stored_part : (n : ℕ) (l : List ℕ) → stored_records_of n (words (take (host_size n) (drop (host_at n) l)))
    ≡ (board_of n (words l)).stored
unfolding board_of
board_stored_part n l = stored_records_part n l (host_at n)

-- Put back: the words g in the block of member i, in the n entries, and in entry r of the n entries.

pub board_block : (n i : ℕ) (g w : ℕ → ℕ) → 1 ≤ i → i ≤ n
    → board_of n (pasted (block_at n i) (block_size n) g w) ≡ with_member (board_of n w) i (member_of n g)
unfolding board_of with_member members_of block_at
board_block n i g w p q = board_by_lem
    (ap (members_of n) (pasted_from blocks_at (place (block_size n) i) (block_size n) g w)
    ∙ pieces-put n idle (block_size n) (member_of n) (member_same n) (from w blocks_at) i g p q)
    (ap (host_of n) kept)
    (ap (stored_records_of n) kept)
  where
    kept : from (pasted (block_at n i) (block_size n) g w) (host_at n) ≡ from w (host_at n)
    kept = from_pasted_above (block_at n i) (block_size n) g w (host_at n) (block_room n i p q)

pub board_host : (n : ℕ) (g w : ℕ → ℕ)
    → board_of n (pasted (host_at n) (host_size n) g w) ≡ record
    { members = (board_of n w).members; host = host_of n g; stored = stored_records_of n g }
unfolding board_of host_at
board_host n g w = board_by_lem
    (members_same n (from (pasted (host_at n) (host_size n) g w) blocks_at) (from w blocks_at)
    (λ i p. from_pasted_below (host_at n) (host_size n) g w blocks_at i (omega arith)))
    (host_same n (from (pasted (host_at n) (host_size n) g w) (host_at n)) g (from_pasted_at (host_at n) (host_size n) g w))
    (stored_records_same n (from (pasted (host_at n) (host_size n) g w) (host_at n)) g (from_pasted_at (host_at n) (host_size n) g w))

module _ (n r : ℕ) (g w : ℕ → ℕ) (low : 1 ≤ r) (high : r ≤ n) where
  pub host_entry : host_of n (pasted (place (entry_size n) r) (entry_size n) g w) ≡ put (host_of n w) r (entry_of n g)
  unfolding host_of
  host_entry = pieces-put n no_entry (entry_size n) (entry_of n) (entry_same n) w r g low high

  pub host_stored : stored_records_of n (pasted (place (entry_size n) r) (entry_size n) g w) ≡ put (stored_records_of n w) r (stored_of n g)
  unfolding stored_records_of
  host_stored = pieces-put n zero_record (entry_size n) (stored_of n) (stored_same_lem n) w r g low high

-- the same of lists, as the language leaves them after the part came back as p
pub board_member_put : (n i : ℕ) (l p : List ℕ) → 1 ≤ i → i ≤ n → length l ≡ table_size n → length p ≡ block_size n
    → board_of n (words (replaced l (block_at n i) p)) ≡ with_member (board_of n (words l)) i (member_of n (words p))
board_member_put n i l p a b h e =
    ap (board_of n) (words_replaced l (block_at n i) p (omega (arith, block_room n i a b, host_room n)))
    ∙ ap (λ k. board_of n (pasted (block_at n i) k (words p) (words l))) e
    ∙ board_block n i (words p) (words l) a b

pub board_host_put : (n : ℕ) (l p : List ℕ) → length l ≡ table_size n → length p ≡ host_size n
    → board_of n (words (replaced l (host_at n) p))
    ≡ record { members = (board_of n (words l)).members; host = host_of n (words p); stored = stored_records_of n (words p) }
board_host_put n l p h e =
    ap (board_of n) (words_replaced l (host_at n) p (omega (arith, host_room n)))
    ∙ ap (λ k. board_of n (pasted (host_at n) k (words p) (words l))) e
    ∙ board_host n (words p) (words l)

module _ (n r : ℕ) (l p : List ℕ) (low : 1 ≤ r) (high : r ≤ n) (whole : length l ≡ host_size n) (same : length p ≡ entry_size n) where
  entry-run : words (replaced l (place (entry_size n) r) p) ≡ pasted (place (entry_size n) r) (entry_size n) (words p) (words l)
  unfolding host_size
  entry-run =
      words_replaced l (place (entry_size n) r) p (omega (arith, place_room (entry_size n) n r low high))
      ∙ ap (λ k. pasted (place (entry_size n) r) k (words p) (words l)) same

  pub host_entry_put : host_of n (words (replaced l (place (entry_size n) r) p)) ≡ put (host_of n (words l)) r (entry_of n (words p))
  host_entry_put = ap (host_of n) entry-run ∙ host_entry n r (words p) (words l) low high

  pub host_stored_put : stored_records_of n (words (replaced l (place (entry_size n) r) p))
      ≡ put (stored_records_of n (words l)) r (stored_of n (words p))
  host_stored_put = ap (stored_records_of n) entry-run ∙ host_stored n r (words p) (words l) low high
