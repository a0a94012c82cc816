-- A table whose words before the host entries are n and zeros: its members are idle.
use Prim.Native.Nat.{ℕ, ◌+◌, ◌-◌, ◌≤◌, ◌<◌}
use native.Mathlib.Omega.{arith}
use mathlib.Core.Path.{◌≡◌, ap, ◌∙◌}
use mathlib.Core.Bool.{true, false}
use mathlib.Core.List.{List}
use lib.ListN.{length, set, replicate, length-set, length-replicate}
use borrow.Author.Tests.{eq-eqb, ne_eqb}
use Rattle.lists.specs.Functions.{put, from, pasted, within, inside}
use Rattle.lists.specs.Parts.{words, replaced}
use Rattle.lists.specs.Pieces.{pieces}
use Rattle.lists.proofs.Functions.{put_at, put_off, pasted_in, within_blank}
use Rattle.lists.proofs.Parts.{words_set, words_replaced, words_zeros}
use Rattle.model.specs.Member.{idle}
use Rattle.model.specs.Board.{opened}
use Rattle.model.specs.Table.{blocks_at, host_at, table_size, members_of, host_of, stored_records_of, board_of}
use Rattle.model.specs.Kinds.{Kind}
use Rattle.model.specs.TableCalls.{open_number, open_words}
use Rattle.laws.proofs.Blocks.{member_zero}
use Rattle.laws.proofs.Tables.{members_same, host_room}
use Rattle.tables.specs.Needs.{Table, Left}
use Rattle.tables.proofs.Places.{table_positive}
use Rattle.tables.proofs.Lent.{part, back, HostLent, host-table, host-changed, left_words}

zero_members : (n : ℕ) → members_of n (λ i. 0) ≡ (λ i. idle)
unfolding members_of pieces from
zero_members n = ap (λ m. within n idle (λ k. m)) (member_zero n) ∙ within_blank n idle

pub idle_members : (n : ℕ) (w : ℕ → ℕ) → ((i : ℕ) → 1 ≤ i → i < host_at n → w i ≡ 0) → (board_of n w).members ≡ (λ i. idle)
unfolding board_of host_at from
idle_members n w h = members_same n (from w blocks_at) (λ i. 0) (λ i p. h (blocks_at + i) (omega arith) (omega arith)) ∙ zero_members n

-- words of the table changed to m, and n written
module _ (n : ℕ) (l : List ℕ) (low : 1 ≤ n) (high : n ≤ 12) (long : length l ≡ table_size n) (m : List ℕ) (kept : length m ≡ length l) where
  abbrev sized : List ℕ
  sized = set m 0 n

  pub some : 0 < length m
  some = omega (arith, table_positive n)

  changed : words sized ≡ put (words m) 0 n
  changed = words_set m 0 n some

  pub sized_table : Table n sized
  sized_table = record {
    least = low;
    most = high;
    long = length-set m 0 n ∙ kept ∙ long;
    size = ap (λ w. w 0) changed ∙ put_at (words m) 0 n;
  }

  -- where those before the host's were cleared, the members are idle
  module _ {host : ℕ} (begins : host ≡ host_at n) (clear : m ≡ replaced l 0 (replicate host 0)) where
    cleared : words m ≡ pasted 0 (length (replicate {A = ℕ} host 0)) (words (replicate host 0)) (words l)
    cleared =
        let room : 0 + length (replicate {A = ℕ} host 0) ≤ length l = simp length-replicate (omega (arith, host_room n)) in
        ap words clear ∙ words_replaced l 0 (replicate host 0) room

    zeros : (i : ℕ) → 1 ≤ i → i < host_at n → words sized i ≡ 0
    zeros i p q =
        ap (λ w. w i) changed
        ∙ put_off (words m) 0 n i (λ e. omega arith)
        ∙ ap (λ w. w i) cleared
        ∙ pasted_in 0 (length (replicate {A = ℕ} host 0)) (words (replicate host 0)) (words l) i (omega arith)
        (rw length-replicate (omega (arith, begins)))
        ∙ ap (λ w. w (i - 0)) (words_zeros host)

    -- then the host's part opened
    pub open-left : {host_words : ℕ} (t : HostLent n sized host host_words) (p : List ℕ)
        (same : length p ≡ length (part sized host host_words))
        → host_of n (words p) ≡ (opened n).host → stored_records_of n (words p) ≡ (opened n).stored
        → Left n (opened n) (back sized host host_words p)
    unfolding opened
    open-left t p same e f = record {
      table = host-table t p same;
      board = host-changed t p same ∙ (λ s. record { members = idle_members n (words sized) zeros s; host = e s; stored = f s });
    }

-- What opening answers and leaves, of a board of a kind.
module _ (kind : Kind) (n : ℕ) (l : List ℕ) where
  pub size_refused : inside kind.most n ≡ false → (1 ≡ open_number kind n l) × (l ≡ open_words kind n l)
  unfolding open_words open_number
  size_refused p = (rw p, rw p)

  pub length-refused : inside kind.most n ≡ true → (length l ≡ table_size n → ⊥) → (2 ≡ open_number kind n l) × (l ≡ open_words kind n l)
  unfolding open_words open_number
  length-refused p q = (rw (p, ne_eqb (length l) (table_size n) q), rw (p, ne_eqb (length l) (table_size n) q))

  pub opens : inside kind.most n ≡ true → length l ≡ table_size n → {exit : List ℕ} → Left n (opened n) exit
      → (0 ≡ open_number kind n l) × (exit ≡ open_words kind n l)
  unfolding open_words open_number
  opens p q h = (rw (p, eq-eqb (length l) (table_size n) q), rw (p, eq-eqb (length l) (table_size n) q) (left_words h))
