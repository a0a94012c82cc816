-- The parts of the table that the halves are lent: a member's block, and the n host entries; and the table after they come back.
use Prim.Native.Nat.{ℕ, ◌+◌, ◌-◌, ◌≤◌, ◌<◌}
use native.Mathlib.Omega.{arith}
use mathlib.Core.Path.{◌≡◌, sym, ap, ◌∙◌}
use mathlib.Core.List.{List, ◌++◌}
use lib.ListN.{length, take, drop, length-append, length-take, length-drop}
use Rattle.lists.specs.Functions.{Within}
use Rattle.lists.specs.Parts.{words, replaced}
use Rattle.lists.proofs.Functions.{pasted_below}
use Rattle.lists.proofs.Parts.{words_replaced}
use Rattle.lists.proofs.Pieces.{put_back}
use Rattle.model.specs.Member.{Member}
use Rattle.model.specs.Board.{Board, with_member}
use Rattle.model.specs.Table.{block_size, block_at, host_at, host_size, table_size, member_of, host_of, stored_records_of}
use Rattle.model.specs.Table.{board_of, table_words}
use Rattle.model.specs.Table.{sound_host}
use Rattle.laws.proofs.Tables.{board_member_part, board_member_put, board_host_part, board_stored_part, board_host_put, table_back}
use Rattle.member_block.specs.Needs.{Block, Running}
use Rattle.host.specs.Needs.{Entries, Slot}
use Rattle.tables.specs.Needs.{Table, Left, BlockPlace, HostPlace}

-- A part of any table, put back: the table is whole, and its n stays.

-- the `size` words from `at` on, as they are lent, and the table when they come back as p
abbrev pub part : List ℕ → ℕ → ℕ → List ℕ
part l at size = take (at + size - at) (drop at l)

abbrev pub back : List ℕ → ℕ → ℕ → List ℕ → List ℕ
back l at size p = take at l ++ (p ++ drop (at + size - at) (drop at l))

module _ {n : ℕ} {l : List ℕ} (at size : ℕ) (t : Table n l) (later : 1 ≤ at) (room : at + size ≤ table_size n) where
  all : at + size - at ≡ size
  all = omega arith

  pub part_long : length (part l at size) ≡ size
  part_long = rw all (simp (length-take, length-drop) (omega (arith, t.long)))

  module _ (p : List ℕ) (same : length p ≡ length (part l at size)) where
    pub shape : back l at size p ≡ replaced l at p
    shape = put_back l at (at + size - at) p (same ∙ part_long ∙ sym all)

    long : length (back l at size p) ≡ length l
    long = simp (length-append, length-take, length-drop) (omega (arith, t.long, same ∙ part_long))

    pub table_kept : Table n (back l at size p)
    table_kept = record {
      least = t.least;
      most = t.most;
      long = long ∙ t.long;
      size =
          ap (λ l. words l 0) shape
          ∙ ap (λ w. w 0) (words_replaced l at p (omega (arith, t.long, same ∙ part_long)))
          ∙ pasted_below at (length p) (words p) (words l) 0 (omega arith)
          ∙ t.size;
    }

-- A member's block.

pub record BlockLent (n i : ℕ) (l : List ℕ) (at size : ℕ) : Type 0 where
  pub table : Table n l
  pub member : Within n i
  pub place : BlockPlace n i at
  pub sized : size ≡ block_size n

pub block_lent : {n i at size : ℕ} {l : List ℕ} → Table n l → Within n i → BlockPlace n i at → size ≡ block_size n → BlockLent n i l at size
block_lent t m p s = record { table = t; member = m; place = p; sized = s }

module _ {n i at size : ℕ} {l : List ℕ} (h : BlockLent n i l at size) where
  block-later : 1 ≤ at
  unfolding block_at
  block-later = omega (arith, h.place.begins)

  block_ends : at + size ≤ table_size n
  block_ends = omega (arith, h.sized, h.place.ends)

  block-long : length (part l at size) ≡ block_size n
  block-long = part_long at size h.table block-later block_ends ∙ h.sized

  pub whole_block : Block n (part l at size)
  whole_block = record { least = h.table.least; most = h.table.most; long = block-long }

  pub member_lent : member_of n (words (part l at size)) ≡ (board_of n (words l)).members i
  member_lent =
      let k : at + size - at ≡ block_size n = omega (arith, h.sized) in
      ap (λ k. member_of n (words (take k (drop at l)))) k
      ∙ ap (λ a. member_of n (words (take (block_size n) (drop a l)))) h.place.begins
      ∙ board_member_part n i l h.member.least h.member.most

  module _ (p : List ℕ) (same : length p ≡ length (part l at size)) where
    pub block-table : Table n (back l at size p)
    block-table = table_kept at size h.table block-later block_ends p same

    pub member_changed : board_of n (words (back l at size p)) ≡ with_member (board_of n (words l)) i (member_of n (words p))
    member_changed =
        ap (λ l. board_of n (words l)) (shape at size h.table block-later block_ends p same)
        ∙ ap (λ a. board_of n (words (replaced l a p))) h.place.begins
        ∙ board_member_put n i l p h.member.least h.member.most h.table.long (same ∙ block-long)

    -- the block changed to m
    pub block-left : {b : Board} → with_member (board_of n (words l)) i (member_of n (words p)) ≡ b → Left n b (back l at size p)
    block-left e = record { table = block-table; board = member_changed ∙ e }

-- The n host entries.

pub record HostLent (n : ℕ) (l : List ℕ) (at size : ℕ) : Type 0 where
  pub table : Table n l
  pub place : HostPlace n at
  pub sized : size ≡ host_size n

pub host_lent : {n at size : ℕ} {l : List ℕ} → Table n l → HostPlace n at → size ≡ host_size n → HostLent n l at size
host_lent t p s = record { table = t; place = p; sized = s }

module _ {n at size : ℕ} {l : List ℕ} (h : HostLent n l at size) where
  host-later : 1 ≤ at
  unfolding host_at
  host-later = omega (arith, h.place.begins)

  host-ends : at + size ≤ table_size n
  host-ends = omega (arith, h.sized, h.place.ends)

  entries-long : length (part l at size) ≡ host_size n
  entries-long = part_long at size h.table host-later host-ends ∙ h.sized

  pub whole_entries : Entries n (part l at size)
  whole_entries = record { most = h.table.most; long = entries-long }

  same-part : {A : Type 0} (f : List ℕ → A) → f (part l at size) ≡ f (take (host_size n) (drop (host_at n) l))
  same-part f =
      let k : at + size - at ≡ host_size n = omega (arith, h.sized) in
      ap (λ k. f (take k (drop at l))) k
      ∙ ap (λ a. f (take (host_size n) (drop a l))) h.place.begins

  pub entries_lent : host_of n (words (part l at size)) ≡ (board_of n (words l)).host
  entries_lent = same-part (λ p. host_of n (words p)) ∙ board_host_part n l

  pub stored_lent : stored_records_of n (words (part l at size)) ≡ (board_of n (words l)).stored
  stored_lent = same-part (λ p. stored_records_of n (words p)) ∙ board_stored_part n l

  module _ (p : List ℕ) (same : length p ≡ length (part l at size)) where
    pub host-table : Table n (back l at size p)
    host-table = table_kept at size h.table host-later host-ends p same

    pub host-changed : board_of n (words (back l at size p))
        ≡ record { members = (board_of n (words l)).members; host = host_of n (words p); stored = stored_records_of n (words p) }
    host-changed =
        ap (λ l. board_of n (words l)) (shape at size h.table host-later host-ends p same)
        ∙ ap (λ a. board_of n (words (replaced l a p))) h.place.begins
        ∙ board_host_put n l p h.table.long (same ∙ entries-long)

-- The table by what it stands for.
pub left_words : {n : ℕ} {b : Board} {l : List ℕ} → Left n b l → l ≡ table_words n b
left_words {n} {b} {l} h = sym (table_back n l h.table.long h.table.size) ∙ ap (table_words n) h.board

-- A member's step on the block that it was lent is its step on the board.
module _ {n i at size : ℕ} {l : List ℕ} (h : BlockLent n i l at size) where
  pub running_block : Within n ((board_of n (words l)).members i).slot → Running n (part l at size)
  running_block s = record { block = whole_block h; slot = rw (member_lent h) s }

  pub step_left : (p : List ℕ) → length p ≡ length (part l at size) → (f : Member → Member)
      → member_of n (words p) ≡ f (member_of n (words (part l at size)))
      → Left n (with_member (board_of n (words l)) i (f ((board_of n (words l)).members i))) (back l at size p)
  step_left p same f e = block-left h p same (ap (with_member (board_of n (words l)) i) (e ∙ ap f (member_lent h)))

-- A slot of the host entries that are lent.
pub slot_lent : {n r at size : ℕ} {l : List ℕ} → HostLent n l at size → Within n r → Slot n r (part l at size)
slot_lent h r = record { most = h.table.most; long = (whole_entries h).long; slot_least = r.least; slot_most = r.most }

pub sound_lent : {n at size : ℕ} {l : List ℕ} (h : HostLent n l at size)
    → sound_host n (host_of n (words (part l at size))) (stored_records_of n (words (part l at size)))
    ≡ sound_host n (board_of n (words l)).host (board_of n (words l)).stored
sound_lent h = rw (entries_lent h, stored_lent h)

-- the member after k
pub next : {n k : ℕ} → k < n → Within n (k + 1)
next p = record { least = omega arith; most = omega arith }
