-- What the pass remembers: nothing of no rows, and after a row what its three stores leave. So much of a log holds as its rows so far do.
use Prim.Native.Nat.{ℕ, zero, suc, ◌+◌, ◌*◌, ◌-◌, ◌≤◌}
use mathlib.Core.Path.{◌≡◌, refl, sym, ap, ◌∙◌}
use mathlib.Core.List.{List, ◌∷◌}
use native.Mathlib.Omega.{arith}
use native.Mathlib.Numerals.{add-one}
use lib.Dec.{eqb}
use lib.ListN.{length, set, get_or, replicate, length-set}
use borrow.Author.Tests.{eq-eqb, ne_eqb, eqb-true, eqb-false}
use Rattle.lists.specs.Functions.{put, from, numbered, Within}
use Rattle.lists.specs.Parts.{words}
use Rattle.lists.proofs.Functions.{on, put_all, from_from, numbered_same, numbered_blank}
use Rattle.lists.proofs.Parts.{words_zeros}
use Rattle.lists.proofs.Numbered.{number_stored, number_read}
use Rattle.model.specs.Records.{write, zero_value}
use Rattle.model.specs.RecordWords.{value_of}
use Rattle.model.specs.Kinds.{most_members}
use Rattle.logs.specs.Log.{LogRow, row_before, last_written, row_size, row_of, rows_of, RowHolds, LogHolds}
use Rattle.log_check.specs.Remembered.{barred_until, bar_before, last_accepted, written_word, written_value, written_after, Remembers}

-- A log's first rows.

module _ (n : ℕ) (w : ℕ → ℕ) where
  pub row_more : (k : ℕ) → RowHolds n (row_of (from w (k * row_size))) (rows_of w k) → LogHolds n (rows_of w k) → LogHolds n
      (rows_of w (k + 1))
  unfolding rows_of
  row_more k r h = rw add-one (r, h)

  pub row_in : (k : ℕ) → LogHolds n (rows_of w (k + 1)) → RowHolds n (row_of (from w (k * row_size))) (rows_of w k)
  unfolding rows_of
  row_in k h = (rw add-one at h).0

  pub row_first : (m k : ℕ) → k ≤ m → LogHolds n (rows_of w m) → LogHolds n (rows_of w k)
  unfolding rows_of
  row_first zero k h l = let e : k ≡ 0 = omega arith in rw e l
  row_first (suc m) k h l = on (eqb k (suc m))
      (λ e. let same : k ≡ suc m = eqb-true k (suc m) e in rw same l)
      (λ e. let off : k ≡ suc m → ⊥ = eqb-false k (suc m) e in row_first m k (omega arith) l.1)

-- Nothing of no rows.

no_number : (i : ℕ) → numbered most_members 0 (words (replicate 12 0)) i ≡ 0
no_number i = ap (λ f. numbered most_members 0 f i) (words_zeros 12) ∙ ap (λ f. f i) (numbered_blank most_members 0)

none_written : (w : ℕ → ℕ) → written_value w 0 ≡ zero_value
unfolding written_value value_of written_word zero_value
none_written w = numbered_blank 8 0

pub remembers_none : (w : ℕ → ℕ) → Remembers w 0 0 (replicate 12 0) (replicate 12 0)
unfolding rows_of row_before last_written bar_before last_accepted
remembers_none w = record {
  accepted = refl;
  members = refl;
  barred = λ i h. no_number i;
  slots = refl;
  values = λ r h. ap (written_value w) (no_number r) ∙ none_written w;
  placed = λ r h. omega (arith, no_number r);
}

-- One row more.
module _ (w : ℕ → ℕ) (k : ℕ) where
  abbrev at : ℕ
  at = k * row_size

  abbrev row : LogRow
  row = row_of (from w at)

  abbrev above : List LogRow
  above = rows_of w k

  pub row_member : row.member ≡ w at
  unfolding row_of from
  row_member = ap w (omega arith)

  pub row_value : value_of (from w (at + 3)) ≡ row.value
  unfolding row_of
  row_value = ap value_of (sym (from_from w at 3))

  own_value : written_value w (at + 3) ≡ row.value
  unfolding written_value value_of written_word from
  own_value =
      let off : at + 3 ≡ 0 → ⊥ = λ z. omega arith in
      numbered_same 8 0 (written_word w (at + 3)) (from w (at + 3)) (λ i h. rw (ne_eqb (at + 3) 0 off)) ∙ row_value

  -- by member: the row's own, and every other's as before
  module _ (until : List ℕ) (long : length until ≡ 12) (member : Within most_members (w at)) where
    bars : ((i : ℕ) → Within most_members i → numbered most_members 0 (words until) i ≡ bar_before (row_before i above))
        → (i : ℕ) → Within most_members i
        → numbered most_members 0 (words (set until (w at - 1) (barred_until row.end_at))) i ≡ bar_before (row_before i (row ∷ above))
    unfolding row_before bar_before
    bars before = rw (number_stored until 12 long (w at) member (barred_until row.end_at))
        (put_all (λ i x. Within most_members i → x ≡ bar_before (row_before i (row ∷ above))) (numbered most_members 0 (words until)) (w at)
        (barred_until row.end_at)
        (λ h. rw (eq-eqb row.member (w at) row_member))
        (λ i off h. rw (ne_eqb row.member i (λ e. off (sym e ∙ row_member))) (before i h)))

  -- by slot: where the row's own value begins if it is a write, and else as before
  module _ (written : List ℕ) (long : length written ≡ 12) (slot : Within most_members row.slot) where
    abbrev places : ℕ → ℕ
    places = numbered most_members 0 (words written)

    abbrev next : ℕ
    next = written_after row.operation (at + 3) (places row.slot)

    abbrev after : ℕ → ℕ
    after = numbered most_members 0 (words (set written (row.slot - 1) next))

    stored : after ≡ put places row.slot next
    stored = number_stored written 12 long row.slot slot next

    writes : ((r : ℕ) → Within most_members r → written_value w (places r) ≡ last_written r above)
        → (r : ℕ) → Within most_members r → written_value w (after r) ≡ last_written r (row ∷ above)
    unfolding last_written written_after
    writes before = rw stored
        (put_all (λ r x. Within most_members r → written_value w x ≡ last_written r (row ∷ above)) places row.slot next
        (λ h. rw (eq-eqb row.slot row.slot refl) (on (eqb row.operation write)
        (λ e. rw e own_value)
        (λ e. rw e (before row.slot h))))
        (λ r off h. rw (ne_eqb row.slot r (λ e. off (sym e))) (before r h)))

    places-in : ((r : ℕ) → Within most_members r → places r ≤ at) → (r : ℕ) → Within most_members r → after r ≤ (k + 1) * row_size
    unfolding written_after
    places-in before = rw stored
        (put_all (λ r x. Within most_members r → x ≤ (k + 1) * row_size) places row.slot next
        (λ h. on (eqb row.operation write)
        (λ e. rw e (omega arith))
        (λ e. rw e (omega (arith, before row.slot h))))
        (λ r off h. omega (arith, before r h)))

  -- What is known of a row's member and slot, read where the code reads it.
  module _ {last : ℕ} {until written : List ℕ} (known : Remembers w k last until written) where
    pub bar-read : Within most_members (w at) → get_or until (w at - 1) 0 ≡ bar_before (row_before row.member above)
    bar-read member =
        number_read until 12 known.members (w at) member
        ∙ known.barred (w at) member
        ∙ ap (λ i. bar_before (row_before i above)) (sym row_member)

    module _ (slot : Within most_members (w (at + 2))) where
      abbrev place : ℕ
      place = get_or written (w (at + 2) - 1) 0

      place-number : place ≡ numbered most_members 0 (words written) (w (at + 2))
      place-number = number_read written 12 known.slots (w (at + 2)) slot

      pub value_read : written_value w place ≡ last_written (w (at + 2)) above
      value_read = ap (written_value w) place-number ∙ known.values (w (at + 2)) slot

      pub place_read : place ≤ at
      place_read = rw place-number (known.placed (w (at + 2)) slot)

  -- The three stores, as the code makes them: of the acceptance, at the member's place, and at the slot's.
  module _ {last : ℕ} {until written : List ℕ} (known : Remembers w k last until written)
      (member : Within most_members (w at)) (slot : Within most_members (w (at + 2))) where
    pub remembers-more : {bar place : ℕ} → bar ≡ barred_until (w (at + 13))
        → place ≡ written_after (w (at + 1)) (at + 3) (get_or written (w (at + 2) - 1) 0)
        → Remembers w (k + 1) (w (at + 12)) (set until (w at - 1) bar) (set written (w (at + 2) - 1) place)
    unfolding row_of from rows_of last_accepted
    remembers-more {bar} {place} b p =
        let now = p ∙ ap (written_after (w (at + 1)) (at + 3)) (place-number known slot) in
        rw (b, now, add-one) record {
          accepted = refl;
          members = length-set until (w at - 1) (barred_until (w (at + 13))) ∙ known.members;
          barred = bars until known.members member known.barred;
          slots = (length-set written (w (at + 2) - 1) _ ∙ known.slots);
          values = writes written known.slots slot known.values;
          placed = λ r h. omega (arith, places-in written known.slots slot known.placed r h);
        }
