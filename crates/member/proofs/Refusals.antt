-- What a call's number says: where it is 0, what its step asks; and the words that the call then leaves.
use Prim.Native.Nat.{ℕ, ◌≤◌}
use mathlib.Core.Path.{◌≡◌, refl, sym, ap, ◌∙◌}
use mathlib.Core.Bool.{Bool, true, false, cond, not, ◌&&◌, ◌||◌}
use mathlib.Core.List.{List}
use native.Mathlib.Omega.{arith}
use lib.Dec.{eqb, leb}
use lib.ListN.{length}
use borrow.Author.Tests.{eqb-true, leb-true, not-false}
use Rattle.lists.specs.Functions.{inside, Within}
use Rattle.lists.specs.Parts.{words}
use Rattle.lists.proofs.Functions.{first, second, neither, inside_low, inside_high}
use Rattle.lists.proofs.Refusals.{no_ground, no_failure, no_number, becomes}
use Rattle.model.specs.Records.{Rec, record_within}
use Rattle.model.specs.Kinds.{barred}
use Rattle.model.specs.Member.{Member}
use Rattle.model.specs.Table.{block_size, member_of, member_words, sound_record, sound_operation, sound_member, block_number}
use Rattle.model.specs.Numbers.{or_else}
use Rattle.model.specs.Halves.{unless_refused, fit_record, lent_number, member_number, not_waiting, reply_number, outcome_number}
use Rattle.model.specs.Halves.{member_crash_number}
use Rattle.laws.proofs.Blocks.{member_back}
use Rattle.member_block.specs.Needs.{Block, Running}
use Rattle.member_block.proofs.Begins.{within}
use Rattle.member_block.proofs.Sizes.{rooms}

-- 1, 2, 3: a sound block of a board of n
pub record Lent (n i : ℕ) (l : List ℕ) : Type 0 where
  pub block : Block n l
  pub sound : sound_member n i (member_of n (words l)) ≡ true

pub lent : (n i : ℕ) (l : List ℕ) → lent_number n i l ≡ 0 → Lent n i l
unfolding lent_number block_number
lent n i l h =
    let g = no_number _ h in
    let p1 = no_failure (inside 12 n) (omega arith) g.0 in
    let p2 = no_failure (eqb (length l) (block_size n)) (omega arith) g.1 in
    let p3 = no_failure (sound_member n i (member_of n (words l))) (omega arith) p2.1 in
    record {
      block = record { least = inside_low 12 n p1.0; most = inside_high 12 n p1.0; long = eqb-true (length l) (block_size n) p2.0 };
      sound = p3.0;
    }

pub lent_block : (n i : ℕ) (l : List ℕ) → 0 ≡ lent_number n i l → Block n l
lent_block n i l h = (lent n i l (sym h)).block

-- and 4: of member i
pub record Good (n i : ℕ) (l : List ℕ) : Type 0 where
  pub block : Block n l
  pub sound : sound_member n i (member_of n (words l)) ≡ true
  pub member : Within n i

pub good : (n i : ℕ) (l : List ℕ) → member_number n i l ≡ 0 → Good n i l
unfolding member_number
good n i l h =
    let g = no_number (lent_number n i l) h in
    let b = lent n i l g.0 in
    record { block = b.block; sound = b.sound; member = within n i (no_failure (inside n i) (omega arith) g.1).0 }

pub member_block : (n i : ℕ) (l : List ℕ) → 0 ≡ member_number n i l → Block n l
member_block n i l h = (good n i l (sym h)).block

pub head : (n i : ℕ) (l : List ℕ) → 0 ≡ member_number n i l → 2 ≤ length l
head n i l h = let b = member_block n i l h in omega (arith, rooms n)

-- a sound member in phase 1 to 5 runs an operation on a slot
fourth_and_sixth : (a b c d e f g h : Bool) → (a && b && c && d && e && f && g && h) ≡ true → (d ≡ true) × (f ≡ true)
fourth_and_sixth a b c d e f g h p =
    let six = first (a && b && c && d && e && f) g (first (a && b && c && d && e && f && g) h p) in
    (second (a && b && c) d (first (a && b && c && d) e (first (a && b && c && d && e) f six)), second (a && b && c && d && e) f six)

pub sound_slot_lem : (n i : ℕ) (m : Member) → sound_member n i m ≡ true → inside 5 m.phase ≡ true → Within n m.slot
unfolding sound_member sound_operation
sound_slot_lem n i m p q = record {
  least = leb-true 1 m.slot (first (leb 1 m.slot) (leb 1 m.operation)
      (first (leb 1 m.slot && leb 1 m.operation) (not (barred i m.slot m.operation)) (rw q at parts.1)));
  most = leb-true m.slot n parts.0;
}
  where
    parts : (leb m.slot n ≡ true) × (sound_operation i m ≡ true)
    parts = fourth_and_sixth (leb m.phase 6) (leb m.crashed 1) (eqb m.halt 0 || leb 21 m.halt && leb m.halt 27)
        (leb m.slot n) (leb m.operation 2) (sound_operation i m) (sound_record n m.first) (sound_record n m.second) p

running : (n i : ℕ) (l : List ℕ) → Good n i l → inside 5 (member_of n (words l)).phase ≡ true → Running n l
running n i l g h = record { block = g.block; slot = sound_slot_lem n i (member_of n (words l)) g.sound h }

-- The fields of a record on a board of n are its own.
pub fields_within : (n : ℕ) (r : Rec) → fit_record n (record_within n r) ≡ fit_record n r
unfolding fit_record record_within
fields_within n r = refl

-- What each call's step asks.

-- taking a message, in phase p
waits : (p : ℕ) (m : Member) → not_waiting p m ≡ false → m.phase ≡ p
unfolding not_waiting
waits p m h =
    let same = eqb m.phase p in
    eqb-true m.phase p (not-false same (neither (not same) (not (eqb m.crashed 0)) h).0)

waiting_good : (n i : ℕ) (l : List ℕ) (p tail : ℕ) → inside 5 p ≡ true
    → or_else (member_number n i l) (cond (not_waiting p (member_of n (words l))) 10 tail) ≡ 0 → (Running n l) × (Within n i)
waiting_good n i l p tail h e =
    let m = member_of n (words l) in
    let z = no_number (member_number n i l) e in
    let g = good n i l z.0 in
    (running n i l g (rw (waits p m (no_ground (not_waiting p m) (omega arith) z.1).0) h), g.member)

pub reply_good : (n i : ℕ) (l : List ℕ) (newest stored : Rec) (seals : ℕ) → 0 ≡ reply_number n i l newest stored seals
    → (Running n l) × (Within n i)
unfolding reply_number inside
reply_good n i l newest stored seals h =
    waiting_good n i l 1 (cond (not (leb seals 3 && (fit_record n newest && fit_record n stored))) 15 0) refl (sym h)

pub outcome_good : (n i : ℕ) (l : List ℕ) (result : ℕ) → 0 ≡ outcome_number n i l result → Running n l
unfolding outcome_number inside
outcome_good n i l result h = (waiting_good n i l 3 (cond (not (inside 2 result)) 15 0) refl (sym h)).0

pub crash_good : (n i : ℕ) (l : List ℕ) → 0 ≡ member_crash_number n i l → Block n l
unfolding member_crash_number
crash_good n i l h = (good n i l (no_number (member_number n i l) (sym h)).0).block

-- What a call that is done leaves: the words of what its step makes.
pub words_made : (n : ℕ) {k : ℕ} (before after : List ℕ) (m : Member) → 0 ≡ k → length after ≡ block_size n → member_of n (words after) ≡ m
    → after ≡ unless_refused k before (member_words n m)
words_made n before after m z h e = becomes before (member_words n m) (sym z) (sym (member_back n after h) ∙ ap (member_words n) e)
