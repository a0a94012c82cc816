-- One entry of the n host entries, lent and put back.
use Prim.Native.Nat.{ℕ, ◌+◌, ◌-◌, ◌≤◌}
use native.Mathlib.Omega.{arith}
use mathlib.Core.Path.{◌≡◌, sym, ap, ◌∙◌}
use mathlib.Core.Bool.{Bool}
use mathlib.Core.List.{List, ◌++◌}
use lib.ListN.{length, take, drop, length-take, length-drop}
use Rattle.lists.specs.Functions.{put}
use Rattle.lists.specs.Parts.{words, replaced}
use Rattle.lists.specs.Pieces.{place}
use Rattle.lists.proofs.Parts.{length-replaced}
use Rattle.lists.proofs.Pieces.{put_back, place_room, pieces_at}
use Rattle.model.specs.Records.{zero_record}
use Rattle.model.specs.Board.{no_entry}
use Rattle.model.specs.Table.{entry_size, host_size, entry_of, stored_of, host_of, stored_records_of, sound_entry}
use Rattle.laws.proofs.Blocks.{entry_part, stored_part}
use Rattle.laws.proofs.Tables.{host_entry_put, host_stored_put}
use Rattle.host.specs.Needs.{Slot, OneEntry, EntryPlace}

-- slot r's entry is the `size` words from `at` on: the numbers that the code computed
pub record Lent (n r : ℕ) (l : List ℕ) (at size : ℕ) : Type 0 where
  pub slot : Slot n r l
  pub begins : at ≡ place (entry_size n) r
  pub sized : size ≡ entry_size n

pub lent : {n r at size : ℕ} {l : List ℕ} → Slot n r l → EntryPlace n r at → size ≡ entry_size n → Lent n r l at size
lent slot at sized = record { slot = slot; begins = at.begins; sized = sized }

module _ {n r at size : ℕ} {l : List ℕ} (h : Lent n r l at size) where
  low : 1 ≤ r
  low = h.slot.slot_least

  high : r ≤ n
  high = h.slot.slot_most

  room : at + size ≤ length l
  unfolding host_size
  room = rw (h.slot.long, h.begins, h.sized) (place_room (entry_size n) n r low high)

  all : at + size - at ≡ entry_size n
  all = omega (arith, h.sized)

  abbrev pub part : List ℕ
  part = take (at + size - at) (drop at l)

  length_part : length part ≡ entry_size n
  length_part = rw all (simp (length-take, length-drop) (omega (arith, room, h.sized)))

  pub lent_entry : OneEntry n part
  lent_entry = record { most = h.slot.most; long = length_part }

  pub entry_lent : entry_of n (words part) ≡ host_of n (words l) r
  unfolding host_of
  entry_lent =
      rw (all, h.begins) (entry_part n l (place (entry_size n) r))
      ∙ sym (pieces_at n no_entry (entry_size n) (entry_of n) (words l) r low high)

  pub stored_lent : stored_of n (words part) ≡ stored_records_of n (words l) r
  unfolding stored_records_of
  stored_lent =
      rw (all, h.begins) (stored_part n l (place (entry_size n) r))
      ∙ sym (pieces_at n zero_record (entry_size n) (stored_of n) (words l) r low high)

  -- and put back as p
  module _ (p : List ℕ) (same : length p ≡ length part) where
    abbrev pub back : List ℕ
    back = take at l ++ (p ++ drop (at + size - at) (drop at l))

    long : length p ≡ entry_size n
    long = same ∙ length_part

    shape : back ≡ replaced l (place (entry_size n) r) p
    shape = put_back l at (at + size - at) p (long ∙ sym all) ∙ ap (λ a. replaced l a p) h.begins

    pub length_back : length back ≡ host_size n
    unfolding host_size
    length_back =
        rw shape (length-replaced l (place (entry_size n) r) p (rw (long, h.slot.long) (place_room (entry_size n) n r low high)))
        ∙ h.slot.long

    pub host-changed : host_of n (words back) ≡ put (host_of n (words l)) r (entry_of n (words p))
    host-changed = rw shape (host_entry_put n r l p low high h.slot.long long)

    pub stored-changed : stored_records_of n (words back) ≡ put (stored_records_of n (words l)) r (stored_of n (words p))
    stored-changed = rw shape (host_stored_put n r l p low high h.slot.long long)

-- the check of each slot, and of an entry that is lent
abbrev pub sound_slot : ℕ → List ℕ → ℕ → Bool
sound_slot n l r = sound_entry n (host_of n (words l) r) (stored_records_of n (words l) r)

pub sound_lent : {n r at size : ℕ} {l : List ℕ} (h : Lent n r l at size)
    → sound_entry n (entry_of n (words (part h))) (stored_of n (words (part h))) ≡ sound_slot n l r
sound_lent h = rw (entry_lent h, stored_lent h)
