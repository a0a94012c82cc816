-- What is said once of a member's block in the code's hands.
use Prim.Native.Nat.{ℕ, ◌+◌, ◌-◌, ◌*◌, ◌≤◌, ◌<◌}
use native.Mathlib.Omega.{arith}
use mathlib.Core.Path.{◌≡◌, refl, sym, ap, ap₂, ◌∙◌}
use mathlib.Core.Bool.{Bool, true, false, cond, not, ◌&&◌, ◌||◌}
use mathlib.Core.List.{List}
use mathlib.Core.Option.{some, none}
use Rattle.std.specs.Prelude.{Option, Some, None, Result, Ok, Err, IsErr}
use lib.Dec.{eqb, leb}
use lib.ListN.{take, drop, set, length, length-set}
use Rattle.lists.specs.Functions.{inside, put, pasted, from, within, Within}
use Rattle.lists.specs.Parts.{words, replaced}
use Rattle.lists.proofs.Functions.{put_at, put_off, from_from, from_pasted_at}
use Rattle.model.specs.Kinds.{barred}
use Rattle.model.specs.Records.{Rec, matrix_within, record_within}
use Rattle.model.specs.RecordWords.{value_at, matrix_at, record_size, row_of, matrix_of, value_of, record_of, record_words}
use Rattle.model.specs.Member.{Member, moved, halt_number, joined, own_record, passed, failed, replied, completed, dropped, took_over}
use Rattle.model.specs.Member.{judged, crashed_of}
use Rattle.model.specs.Member.{outcome, returned_by}
use Rattle.model.specs.Pairs.{halt_pairs, most_pairs}
use Rattle.model.proofs.PairClaims.{pairs_as_asked}
use Rattle.model.specs.Board.{sent_record}
use Rattle.model.specs.Table.{phase_at, halt_at, slot_at, operation_at, own_at, accepted_at, last_at, pending_at, known_at}
use Rattle.model.specs.Table.{first_at, second_at}
use Rattle.model.specs.Table.{sound_member, sound_operation, sound_record}
use Rattle.model.specs.Table.{block_size, member_of, member_in, crashed_at}
use Rattle.laws.proofs.Records.{square_small, record_of_parts, record_of-same, record_of-words, within_read}
use Rattle.laws.proofs.Replies.{matrix_all, value_all, joined_within, halt_number-within, halt_pairs-within}
use Rattle.laws.proofs.Steps.{Holds, holds_set, holds_copied, count_of, kept, moved_by, pasted_off, judged_by_lem, crashed_by}
use Rattle.member_block.proofs.Sizes.{rooms}
use Rattle.checks.specs.declared.halt.Halt.{Halt}
use Rattle.checks.specs.declared.halt.Halt.TheVariants.{Seal, SlotRow, OwnCount, Owner, Stored, OtherRow, OtherCount}
use Rattle.checks.specs.Halts.{number, number_of}
use Rattle.rows.specs.declared.Row.{Row}
use Rattle.rows.specs.Meaning.{matrix_in}
use Rattle.records.specs.Meaning.{record_in}
use Rattle.rules.specs.declared.refusal.Refusal.{Refusal}
use Rattle.member_block.specs.Results.{returned_of}
use Rattle.member_block.specs.Needs.{Block, Running}
use Rattle.member_block.specs.Layout.{LayoutOf}
use Rattle.member_block.specs.declared.layout.Places.{Places}

-- the block that a step is given
pub whole : {n : ℕ} {l : List ℕ} → Block n l → Holds (block_size n) l (words l)
whole b = record { long = b.long; same = refl }

pub set_long : (l : List ℕ) (i x : ℕ) → length (set l i x) ≡ length l
set_long l i x = length-set l i x

-- One word stored: the verdict's phase, and the crash mark.

pub judged_set : {n : ℕ} {l : List ℕ} → Block n l → (won : Bool) → member_in n (set l phase_at (cond won 4 5)) ≡ judged (member_in n l) won
judged_set {n} {l} b won =
    ap (member_of n) (holds_set (whole b) phase_at (cond won 4 5) (omega (arith, rooms n))).same ∙ judged_by_lem n (words l) won

pub crashed_set : {n : ℕ} {l : List ℕ} → Block n l → member_in n (set l crashed_at 1) ≡ crashed_of (member_in n l)
crashed_set {n} {l} b = ap (member_of n) (holds_set (whole b) crashed_at 1 (omega (arith, rooms n))).same ∙ crashed_by n (words l)

-- The block's check, by its words.
pub sound_by_words : (n i : ℕ) (w : ℕ → ℕ) → sound_member n i (member_of n w)
    ≡ ((leb (w phase_at) 6 && leb (w crashed_at) 1 && (eqb (w halt_at) 0 || leb 21 (w halt_at) && leb (w halt_at) 27))
    && leb (w slot_at) n
    && leb (w operation_at) 2
    && (not (inside 5 (w phase_at)) || leb 1 (w slot_at) && leb 1 (w operation_at) && not (barred i (w slot_at) (w operation_at)))
    && sound_record n (record_of n (from w (first_at n)))
    && sound_record n (record_of n (from w (second_at n))))
unfolding sound_member sound_operation member_of
sound_by_words n i w = refl

-- An accepted operation: its count and its matrix taken over, then for a write its value.

-- the block after the count was stored and the matrix copied
pub kept_held : {n : ℕ} {l : List ℕ} {at : Places} → Running n l → LayoutOf n at → (m : List ℕ)
    → let o = set l (at.accepted + words l slot_at - 1) (words l (own_at + words l slot_at - 1)) in
    m ≡ replaced o at.known (take (n * n) (drop (at.first + matrix_at) o))
    → Holds (block_size n) m (kept n (words l))
unfolding block_size second_at first_at known_at pending_at last_at accepted_at record_size member_of
kept_held {n} {l} {at} r lay m e =
    let w = words l in
    let o = holds_set (whole r.block) (at.accepted + w slot_at - 1) (w (own_at + w slot_at - 1)) (omega arith) in
    let h = holds_copied o m at.known (at.first + matrix_at) (n * n) e (omega arith) (omega arith) in
    record { long = h.long; same = h.same ∙ rw (lay.accepted, lay.known, lay.first) }

-- and after the value was copied
pub last_held : {n : ℕ} {l : List ℕ} {w : ℕ → ℕ} {at : Places} → Holds (block_size n) l w → LayoutOf n at → (m : List ℕ)
    → m ≡ replaced l at.last (take 8 (drop at.pending l))
    → Holds (block_size n) m (pasted (last_at n) 8 (from w (pending_at n)) w)
unfolding block_size second_at first_at known_at pending_at last_at accepted_at
last_held {at = at} h lay m e =
    let v = holds_copied h m at.last at.pending 8 e (omega arith) (omega arith) in
    record { long = v.long; same = v.same ∙ rw (lay.last, lay.pending) }

-- the first message record written, and the phase
pub first_noted_by : (n : ℕ) (w : ℕ → ℕ) (phase : ℕ) (first : Rec)
    → member_of n (put (pasted (first_at n) (record_size n) (words (record_words n first)) w) phase_at phase)
    ≡ moved (member_of n w) phase (member_of n w).halt (record_within n first) (member_of n w).second
unfolding member_of second_at first_at known_at pending_at last_at accepted_at from
first_noted_by n w phase first =
    moved_by n v w phase (w halt_at) (record_within n first) (record_of n (from w (second_at n)))
    (put_at _ phase_at phase)
    (rest halt_at (omega arith))
    (record_of-same n (from v (first_at n)) f
    (λ i h. head (first_at n + i) (omega arith) ∙ from_pasted_at (first_at n) (record_size n) f w i h)
    ∙ record_of-words n first)
    (record_of-same n (from v (second_at n)) (from w (second_at n)) (λ i h.
    head (second_at n + i) (omega arith) ∙ pasted_off (first_at n) (record_size n) f w (second_at n + i) (omega arith)))
    (λ i h. rest i (omega arith))
  where
    f : ℕ → ℕ
    f = words (record_words n first)

    v : ℕ → ℕ
    v = put (pasted (first_at n) (record_size n) f w) phase_at phase

    head : (i : ℕ) → (i ≡ phase_at → ⊥) → v i ≡ pasted (first_at n) (record_size n) f w i
    head i p = put_off (pasted (first_at n) (record_size n) f w) phase_at phase i p

    rest : (i : ℕ) → (i < first_at n) × (i ≡ phase_at → ⊥) → v i ≡ w i
    rest i h = head i h.1 ∙ pasted_off (first_at n) (record_size n) f w i (omega arith)

-- the known matrix, loaded from its place
pub known_loaded : (n : ℕ) (w : ℕ → ℕ) (known : List Row) {at : Places} → LayoutOf n at → matrix_in known ≡ matrix_of n (from w at.known)
    → matrix_in known ≡ (member_of n w).known
unfolding member_of
known_loaded n w known lay e = e ∙ ap (λ k. matrix_of n (from w k)) lay.known

-- the message records, loaded from theirs
pub first_loaded : (n : ℕ) (w : ℕ → ℕ) (r : Rec) {at : Places} → LayoutOf n at → r ≡ record_of n (from w at.first)
    → record_within n r ≡ (member_of n w).first
unfolding member_of
first_loaded n w r lay e = ap (record_within n) (e ∙ ap (λ k. record_of n (from w k)) lay.first) ∙ within_read n (from w (first_at n))

pub second_loaded : (n : ℕ) (w : ℕ → ℕ) (r : Rec) {at : Places} → LayoutOf n at → r ≡ record_of n (from w at.second)
    → record_within n r ≡ (member_of n w).second
unfolding member_of
second_loaded n w r lay e = ap (record_within n) (e ∙ ap (λ k. record_of n (from w k)) lay.second) ∙ within_read n (from w (second_at n))

-- The record that a member commits, as the code builds it, and what taking a reply comes to.

pub own_built : (n i : ℕ) (w : ℕ → ℕ) (newest : Rec) (value : List ℕ) (known matrix : List Row) → Within n i → Within n (w slot_at)
    → value_of (words value) ≡ value_of (from w (pending_at n)) → matrix_in known ≡ matrix_of n (from w (known_at n))
    → let count = w (own_at + w slot_at - 1) in
    matrix_within n (matrix_in matrix) ≡ matrix_within n (joined n i (w slot_at) count (matrix_in known) newest.matrix)
    → record_within n
    (record_in (record { member = i; slot = w slot_at; operation = w operation_at; count = count; value = value; matrix = matrix }))
    ≡ own_record n i (member_of n w) (record_within n newest)
unfolding record_in record_within own_record member_of
own_built n i w newest value known matrix a b e k f = λ t. record {
  member = i;
  slot = w slot_at;
  operation = w operation_at;
  count = same t;
  value = (ap (within 8 0) e ∙ value_all (from w (pending_at n))) t;
  matrix = (f
      ∙ joined_within n i (w slot_at) (w (own_at + w slot_at - 1)) (matrix_in known) newest.matrix a.least a.most b.least b.most
      ∙ ap₂ (λ c m. joined n i (w slot_at) c m (matrix_within n newest.matrix)) same
      (ap (matrix_within n) k ∙ matrix_all n (from w (known_at n)))) t;
}
  where
    same : w (own_at + w slot_at - 1) ≡ row_of n (from w own_at) (w slot_at)
    same = sym (count_of n w own_at (w slot_at) b.least b.most)

-- a check that failed has a number
numbered : (h : Halt) → eqb (number h) 0 ≡ false
numbered Seal = refl
numbered SlotRow = refl
numbered OwnCount = refl
numbered Owner = refl
numbered Stored = refl
numbered OtherRow = refl
numbered OtherCount = refl

module _ {n i : ℕ} {l : List ℕ} (running : Running n l) (member : Within n i) (newest stored : Rec) (seals : ℕ) (halt : Option Halt)
    (e : number_of halt ≡ halt_number n i (member_of n (words l)) newest stored seals) where
  halted : number_of halt ≡ halt_number n i (member_of n (words l)) (record_within n newest) (record_within n stored) seals
  halted =
      let r = running.slot in
      e ∙ sym (halt_number-within n i (member_of n (words l)) newest stored seals member.least member.most r.least r.most)

  pub replied_failed : {h : Halt} → halt ≡ Some h
      → replied n i (member_of n (words l)) (record_within n newest) (record_within n stored) seals
      ≡ failed (member_of n (words l)) (number h)
  unfolding replied
  replied_failed {h} is = rw (← halted, is, numbered h)

  pub replied_passed : halt ≡ None
      → replied n i (member_of n (words l)) (record_within n newest) (record_within n stored) seals
      ≡ passed n i (member_of n (words l)) (record_within n newest) (record_within n stored)
  unfolding replied
  replied_passed is = rw (← halted, is)

-- the pairs that the checks compared, of the records as a board of n has them
pub replied_pairs : {n i : ℕ} {l : List ℕ} → Running n l → Within n i → (newest stored : Rec) (seals : ℕ)
    → halt_pairs n i (member_of n (words l)) newest stored seals
    ≡ halt_pairs n i (member_of n (words l)) (record_within n newest) (record_within n stored) seals
replied_pairs {n} {i} {l} running member newest stored seals =
    let r = running.slot in
    sym (halt_pairs-within n i (member_of n (words l)) newest stored seals member.least member.most r.least r.most)

pub few_pairs : {n i : ℕ} {l : List ℕ} → Running n l → Within n i → (newest stored : Rec) (seals : ℕ) {pairs : ℕ}
    → pairs ≡ halt_pairs n i (member_of n (words l)) newest stored seals → pairs ≤ most_pairs n
few_pairs {n} {i} {l} running member newest stored seals e =
    rw e (pairs_as_asked n i (member_of n (words l)) newest stored member running.slot seals).most

pub ceiling_small : (n : ℕ) → n ≤ 12 → most_pairs n ≤ 300
unfolding most_pairs
ceiling_small n h = omega (arith, square_small n h)

-- The record that a commit sends, as the code builds it.
pub sent_built : (n i : ℕ) (w : ℕ → ℕ) (value : List ℕ) (matrix : List Row) {places : Places} → LayoutOf n places → Within n (w slot_at)
    → value_of (words value) ≡ value_of (from w (places.first + value_at))
    → matrix_in matrix ≡ matrix_of n (from w (places.first + matrix_at))
    → record_in
    (record {
      member = i;
      slot = w slot_at;
      operation = w operation_at;
      count = w
          (own_at + w slot_at - 1);
      value = value;
      matrix = matrix;
    })
    ≡ sent_record i (member_of n w)
unfolding record_in sent_record member_of
sent_built n i w value matrix lay b e f = λ t. record {
  member = i;
  slot = w slot_at;
  operation = w operation_at;
  count = sym (count_of n w own_at (w slot_at) b.least b.most) t;
  value = ((rw lay.first at e) ∙ sym (ap (λ r. r.value) (record_of_parts n w (first_at n)))) t;
  matrix = ((rw lay.first at f) ∙ sym (ap (λ r. r.matrix) (record_of_parts n w (first_at n)))) t;
}

-- What taking an outcome comes to, and what it hands back.

pub ended : (m : Member) (won : Bool) → outcome m won ≡ dropped (cond won (took_over m) m)
unfolding outcome completed dropped took_over
ended m true = refl
ended m false = refl

pub returned : (n : ℕ) (w : ℕ → ℕ) (won : Bool) → let at = second_at n + value_at in
    returned_by (member_of n w) won ≡ cond won (cond (eqb (w operation_at) 1) (some (value_of (from w at))) none) none
unfolding returned_by member_of record_of
returned n w true = rw (from_from w (second_at n) value_at)
returned n w false = refl

-- a refused call returns none
pub none_returned : (r : Result (Option (List ℕ)) Refusal) → IsErr r → returned_of r ≡ none
none_returned (Ok value) h = cc
none_returned (Err refusal) h = refl
