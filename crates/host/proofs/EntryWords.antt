-- A host entry's words: sizes, the mark stored, the newest record stored, the newest record copied to the stored one; and a commit's
-- verdict by them.
use Prim.Native.Nat.{ℕ, ◌+◌, ◌≤◌, ◌<◌}
use native.Mathlib.Nat.{mul-le-mul}
use native.Mathlib.Omega.{arith}
use mathlib.Core.Path.{◌≡◌, refl, ap, ◌∙◌, fun_ext}
use mathlib.Core.Bool.{true, false, cond}
use mathlib.Core.List.{List}
use lib.Dec.{eqb}
use lib.ListN.{length, set, take, drop, length-set, length-take, length-drop}
use lib.Seq.{get_or-set_same, get_or-set_other}
use borrow.Author.Tests.{eq-eqb, ne_eqb}
use Rattle.lists.specs.Functions.{from}
use Rattle.lists.specs.Parts.{words, replaced}
use Rattle.lists.proofs.Functions.{fails, both, pasted_below, from_pasted_at}
use Rattle.lists.proofs.Parts.{words_replaced, length-replaced}
use Rattle.lists.proofs.Pieces.{part_at}
use Rattle.model.specs.Records.{Rec, record_within}
use Rattle.model.specs.RecordWords.{record_size, record_of, record_words}
use Rattle.model.specs.Kinds.{becomes_stored}
use Rattle.model.specs.Host.{Entry, submitted, wins, entry_after, stored_after}
use Rattle.model.specs.Table.{stored_at, newest_at, entry_size, host_size, entry_of, stored_of}
use Rattle.laws.proofs.Records.{length-record_words, record_of-same, record_of-replaced, record_of-before, record_of-after}
use Rattle.laws.proofs.Tables.{entry_small}

-- The sizes of an entry's parts, for omega.
pub record Sizes (n : ℕ) : Type 0 where
  pub least : 12 ≤ record_size n
  pub newest : newest_at n ≡ 2 + record_size n
  pub entry : entry_size n ≡ newest_at n + record_size n

pub sizes : (n : ℕ) → Sizes n
unfolding record_size newest_at entry_size
sizes n = record { least = omega arith; newest = refl; entry = refl }

pub host_small : (n : ℕ) → n ≤ 12 → host_size n ≤ 3768
unfolding host_size
host_small n h = mul-le-mul h (entry_small n h)

-- An entry whose mark was stored.

abbrev pub marked : List ℕ → ℕ → ℕ → List ℕ
marked l member count = set (set l 0 member) 1 count

module _ (n : ℕ) (l : List ℕ) (member count : ℕ) (long : length l ≡ entry_size n) where
  marked-first : words (marked l member count) 0 ≡ member
  marked-first =
      get_or-set_other (set l 0 member) 1 0 count 0 (λ e. omega arith)
      ∙ get_or-set_same l 0 member 0 (omega (arith, (sizes n).least, (sizes n).entry))

  marked-second : words (marked l member count) 1 ≡ count
  marked-second = get_or-set_same (set l 0 member) 1 count 0 (simp length-set (omega (arith, (sizes n).least, (sizes n).entry)))

  marked-rest : (a : ℕ) → 2 ≤ a → from (words (marked l member count)) a ≡ from (words l) a
  unfolding from
  marked-rest a h = fun_ext λ i.
      get_or-set_other (set l 0 member) 1 (a + i) count 0 (λ e. omega arith)
      ∙ get_or-set_other l 0 (a + i) member 0 (λ e. omega arith)

  pub entry_marked : entry_of n (words (marked l member count)) ≡ submitted (entry_of n (words l)) member count
  unfolding entry_of submitted
  entry_marked = rw (marked-first, marked-second, marked-rest (newest_at n) (omega (arith, (sizes n).newest)))

  pub stored_marked : stored_of n (words (marked l member count)) ≡ stored_of n (words l)
  unfolding stored_of
  stored_marked = ap (record_of n) (marked-rest stored_at (omega arith))

-- A part replaced, and a word before it.
before_replaced : (l : List ℕ) (a : ℕ) (p : List ℕ) (i : ℕ) → a + length p ≤ length l → i < a → words (replaced l a p) i ≡ words l i
before_replaced l a p i fits h =
    ap (λ w. w i) (words_replaced l a p fits) ∙ pasted_below a (length p) (words p) (words l) i h

-- An entry whose newest record was stored.
module _ (n : ℕ) (l : List ℕ) (r : Rec) (long : length l ≡ entry_size n) where
  abbrev pub renewed : List ℕ
  renewed = replaced l (newest_at n) (record_words n r)

  fits : newest_at n + length (record_words n r) ≤ length l
  fits = rw length-record_words (omega (arith, (sizes n).entry))

  pub length-renewed : length renewed ≡ entry_size n
  length-renewed = length-replaced l (newest_at n) (record_words n r) fits ∙ long

  pub entry_renewed : entry_of n (words renewed) ≡ record
      { submit_member = words l 0; submit_count = words l 1; newest = record_within n r }
  unfolding entry_of
  entry_renewed = rw (
    before_replaced l (newest_at n) (record_words n r) 0 fits (omega (arith, (sizes n).newest)),
    before_replaced l (newest_at n) (record_words n r) 1 fits (omega (arith, (sizes n).newest)),
    record_of-replaced n l (newest_at n) r (omega (arith, (sizes n).entry)),
  )

  pub stored_renewed : stored_of n (words renewed) ≡ stored_of n (words l)
  unfolding stored_of
  stored_renewed = record_of-before n l (newest_at n) (record_words n r) fits stored_at (omega (arith, (sizes n).newest))

-- An entry whose newest record was copied to the stored one.
module _ (n : ℕ) (l : List ℕ) (long : length l ≡ entry_size n) where
  abbrev pub copied : List ℕ
  copied = replaced l 2 (take (record_size n) (drop (newest_at n) l))

  part_long : length (take (record_size n) (drop (newest_at n) l)) ≡ record_size n
  part_long = simp (length-take, length-drop) (omega (arith, (sizes n).entry))

  part-fits : 2 + length (take (record_size n) (drop (newest_at n) l)) ≤ length l
  part-fits = rw part_long (omega (arith, (sizes n).newest, (sizes n).entry))

  pub entry_copied : entry_of n (words copied) ≡ entry_of n (words l)
  unfolding entry_of
  entry_copied =
      let p = take (record_size n) (drop (newest_at n) l) in
      rw (
        before_replaced l 2 p 0 part-fits (omega arith),
        before_replaced l 2 p 1 part-fits (omega arith),
        record_of-after n l 2 p part-fits (newest_at n) (rw part_long (omega (arith, (sizes n).newest))),
      )

  pub stored_copied : stored_of n (words copied) ≡ (entry_of n (words l)).newest
  unfolding stored_of entry_of
  stored_copied =
      record_of-same n (from (words copied) 2) (from (words l) (newest_at n)) (λ i h.
      ap (λ w. from w 2 i) (words_replaced l 2 (take (record_size n) (drop (newest_at n) l)) part-fits)
      ∙ from_pasted_at 2 _ (words (take (record_size n) (drop (newest_at n) l))) (words l) i (rw part_long h)
      ∙ part_at l (newest_at n) (record_size n) i h)

-- An entry that took a commit: the mark blank and the newest record stored; for a write that record copied, too.
module _ (n : ℕ) (l : List ℕ) (r : Rec) (long : length l ≡ entry_size n) where
  abbrev pub accepted : List ℕ
  accepted = replaced (marked l 0 0) (newest_at n) (record_words n r)

  long-marked : length (marked l 0 0) ≡ entry_size n
  long-marked = simp length-set long

  abbrev pub accepted_entry : Entry
  accepted_entry = record { submit_member = 0; submit_count = 0; newest = record_within n r }

  pub entry_accepted : entry_of n (words accepted) ≡ accepted_entry
  entry_accepted = rw (entry_renewed n (marked l 0 0) r long-marked, marked-first n l 0 0 long, marked-second n l 0 0 long)

  pub stored_accepted : stored_of n (words accepted) ≡ stored_of n (words l)
  stored_accepted = stored_renewed n (marked l 0 0) r long-marked ∙ stored_marked n l 0 0 long

  pub long_accepted : length accepted ≡ entry_size n
  long_accepted = length-renewed n (marked l 0 0) r long-marked

  pub entry_accepted_write : entry_of n (words (copied n accepted long_accepted)) ≡ accepted_entry
  entry_accepted_write = entry_copied n accepted long_accepted ∙ entry_accepted

  pub stored_accepted_write : stored_of n (words (copied n accepted long_accepted)) ≡ record_within n r
  stored_accepted_write = stored_copied n accepted long_accepted ∙ ap (λ e. e.newest) entry_accepted

-- The verdict by an entry's words: another member, another count, both the same.
module _ (n : ℕ) (l : List ℕ) (c : Rec) where
  pub other_member : (words l 0 ≡ c.member → ⊥) → wins (entry_of n (words l)) c ≡ false
  unfolding wins entry_of
  other_member h = rw (ne_eqb (words l 0) c.member h)

  pub other_count : (words l 1 ≡ c.count → ⊥) → wins (entry_of n (words l)) c ≡ false
  unfolding wins entry_of
  other_count h = fails (eqb (words l 0) c.member) (ne_eqb (words l 1) c.count h)

  pub same_mark : words l 0 ≡ c.member → words l 1 ≡ c.count → wins (entry_of n (words l)) c ≡ true
  unfolding wins entry_of
  same_mark p q = both (eq-eqb (words l 0) c.member p) (eq-eqb (words l 1) c.count q)

-- What a commit leaves, by its verdict, which unused counts of its record have no part in.
module _ (n : ℕ) (e : Entry) (stored c : Rec) where
  wins-within : wins e (record_within n c) ≡ wins e c
  unfolding wins record_within
  wins-within = refl

  pub entry_lost : wins e c ≡ false → entry_after e (record_within n c) ≡ e
  unfolding entry_after
  entry_lost h = rw (wins-within, h)

  pub stored_lost : wins e c ≡ false → stored_after e stored (record_within n c) ≡ stored
  unfolding stored_after
  stored_lost h = rw (wins-within, h)

  pub entry_won : wins e c ≡ true
      → entry_after e (record_within n c) ≡ record { submit_member = 0; submit_count = 0; newest = record_within n c }
  unfolding entry_after
  entry_won h = rw (wins-within, h)

  stores-within : becomes_stored (record_within n c) ≡ becomes_stored c
  unfolding becomes_stored record_within
  stores-within = refl

  pub stored_won : wins e c ≡ true → stored_after e stored (record_within n c) ≡ cond (becomes_stored c) (record_within n c) stored
  unfolding stored_after
  stored_won h = rw (wins-within, h, stores-within)
