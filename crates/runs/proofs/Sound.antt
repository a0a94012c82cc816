-- Every call keeps the table's check true: whatever sound board it is made on, number 3 does not hold after it.
-- Step by step: what each makes of the member, and of the slot.
use Prim.Native.Nat.{ℕ, ◌≤◌}
use native.Mathlib.Omega.{arith}
use mathlib.Core.Path.{◌≡◌, refl}
use mathlib.Core.Bool.{Bool, true, false, cond, not, ◌&&◌}
use lib.Dec.{eqb, leb}
use borrow.Author.Tests.{eqb-true, le-leb}
use Rattle.lists.specs.Functions.{put, inside, within}
use Rattle.lists.proofs.Functions.{on, split, both, put_same, first, second, put_all, put_both, inside_low, inside_high, inside_in}
use Rattle.model.specs.Records.{Value, Rec, read, write, opening, zero_record}
use Rattle.model.specs.Kinds.{Kind, is_operation, barred, becomes_stored}
use Rattle.model.specs.Member.{Member, idle, moved, took_over, begun, answered, halt_number, own_record, passed, failed, replied, judged}
use Rattle.model.specs.Member.{completed, dropped, outcome, crashed_of, check21, check22, check23, check24, check25, check26, check27}
use Rattle.model.specs.Host.{Entry, submitted, entry_after, stored_after}
use Rattle.model.specs.Board.{Board, no_entry, opening_entry, opened, with_member, board_begun, submit_taken, reply_taken, sent_record}
use Rattle.model.specs.Board.{commit_taken, outcome_taken, board_crashed}
use Rattle.model.specs.Runs.{Call}
use Rattle.model.specs.Table.{sound_record}
use Rattle.laws.proofs.Sound.{record_sound, halts, Parts, SoundSlot, SoundBoard}
use Rattle.model.proofs.Steps.{Taken, begins, submits, replies, commits, ends, crashes, by-verdict}

-- The member's steps.

pub operation_small : (t : ℕ) → is_operation t ≡ true → (1 ≤ t) × (t ≤ 2)
unfolding is_operation
operation_small t h = on (eqb t read)
    (λ e. let d : t ≡ 1 = eqb-true t read e in (omega arith, omega arith))
    (λ e. let d : t ≡ 2 = eqb-true t write (rw e at h) in (omega arith, omega arith))

begun_sound : (n i : ℕ) (m : Member) (r t : ℕ) (v : Value) → Parts n i m
    → inside n r ≡ true → is_operation t ≡ true → barred i r t ≡ false → Parts n i (begun m r t v)
unfolding begun
begun_sound n i m r t v s p q b =
    let o = operation_small t q in
    record {
      phase = omega arith;
      crashed = s.crashed;
      halt = s.halt;
      slot = inside_high n r p;
      operation = o.1;
      operates = λ h. record { slot_least = inside_low n r p; operation_least = o.0; allowed = b };
      newest = s.newest;
      stored = s.stored;
    }

-- a step within an operation, to phase 2 to 5 or to a halt
moved_sound : (n i : ℕ) (m : Member) (p h : ℕ) (one two : Rec) → Parts n i m → inside 5 m.phase ≡ true
    → p ≤ 6 → halts h ≡ true → sound_record n one ≡ true → sound_record n two ≡ true → Parts n i (moved m p h one two)
moved_sound n i m p h one two s running small number g k = record {
  phase = small;
  crashed = s.crashed;
  halt = number;
  slot = s.slot;
  operation = s.operation;
  operates = λ x. s.operates running;
  newest = g;
  stored = k;
}

zero_sound : (n : ℕ) → sound_record n zero_record ≡ true
unfolding sound_record zero_record
zero_sound n = both (both (le-leb 0 n (omega arith)) (le-leb 0 n (omega arith))) refl

dropped_sound : (n i : ℕ) (m : Member) → Parts n i m → Parts n i (dropped m)
unfolding dropped
dropped_sound n i m s = record {
  phase = omega arith;
  crashed = s.crashed;
  halt = s.halt;
  slot = omega arith;
  operation = omega arith;
  operates = λ h. absurd (let z = inside_low 5 0 h in omega arith);
  newest = zero_sound n;
  stored = zero_sound n;
}

outcome_sound : (n i : ℕ) (m : Member) (won : Bool) → Parts n i m → Parts n i (outcome m won)
unfolding outcome completed took_over
outcome_sound n i m true s = dropped_sound n i (took_over m) s
outcome_sound n i m false s = dropped_sound n i m s

crashed_sound : (n i : ℕ) (m : Member) → Parts n i m → Parts n i (crashed_of m)
unfolding crashed_of
crashed_sound n i m s = record {
  phase = s.phase;
  crashed = omega arith;
  halt = s.halt;
  slot = s.slot;
  operation = s.operation;
  operates = s.operates;
  newest = s.newest;
  stored = s.stored;
}

-- the number of a halt
first_failing : (a b c d e f g : Bool) → halts (cond (not a) 21 (cond (not b) 22 (cond (not c) 23 (cond (not d) 24 (cond (not e) 25
    (cond (not f) 26 (cond (not g) 27 0))))))) ≡ true
first_failing false b c d e f g = refl
first_failing true false c d e f g = refl
first_failing true true false d e f g = refl
first_failing true true true false e f g = refl
first_failing true true true true false f g = refl
first_failing true true true true true false g = refl
first_failing true true true true true true false = refl
first_failing true true true true true true true = refl

halt_small : (n i : ℕ) (m : Member) (newest stored : Rec) (seals : ℕ) → halts (halt_number n i m newest stored seals) ≡ true
unfolding halt_number
halt_small n i m newest stored seals = first_failing (check21 seals)
    (check22 n i m.slot m.known newest.matrix) (check23 i m.slot m.accepted newest.matrix) (check24 m.slot stored)
    (check25 n m.slot stored.matrix newest.matrix) (check26 n m.slot m.known newest.matrix)
    (check27 n i m.slot m.accepted newest.matrix)

own_sound : (n i : ℕ) (m : Member) (newest : Rec) → Parts n i m → inside n i ≡ true → sound_record n (own_record n i m newest) ≡ true
unfolding own_record
own_sound n i m newest s p = record_sound (record { member = inside_high n i p; slot = s.slot; operation = s.operation })

replied_sound : (n i : ℕ) (m : Member) (newest stored : Rec) (seals : ℕ) → Parts n i m → inside 5 m.phase ≡ true
    → inside n i ≡ true → sound_record n stored ≡ true → Parts n i (replied n i m newest stored seals)
unfolding replied passed failed
replied_sound n i m newest stored seals s running p two =
    let number = halt_number n i m newest stored seals in
    split (Parts n i) (eqb number 0)
    (λ t. moved_sound n i m 3 m.halt (own_record n i m newest) stored s running (omega arith) s.halt (own_sound n i m newest s p) two)
    (λ t. moved_sound n i m 6 number zero_record zero_record s running (omega arith) (halt_small n i m newest stored seals)
    (zero_sound n) (zero_sound n))

-- The board: one member changed, or one member and one slot.

member_changed : (n : ℕ) (b : Board) (i : ℕ) (m : Member) → SoundBoard n b → Parts n i m → SoundBoard n (with_member b i m)
unfolding with_member
member_changed n b i m s h = record {
  members = put_all (λ k m. inside n k ≡ true → Parts n k m) b.members i m (λ p. h) (λ k d. s.members k);
  slots = s.slots;
}

slot_changed : (n : ℕ) (b : Board) (i r : ℕ) (m : Member) (e : Entry) (stored : Rec) → SoundBoard n b → Parts n i m → SoundSlot n e stored
    → SoundBoard n (record { members = put b.members i m; host = put b.host r e; stored = put b.stored r stored })
slot_changed n b i r m e stored s h g = record {
  members = put_all (λ k m. inside n k ≡ true → Parts n k m) b.members i m (λ p. h) (λ k d. s.members k);
  slots = put_both (λ k e stored. inside n k ≡ true → SoundSlot n e stored) b.host b.stored r e stored (λ p. g) (λ k d. s.slots k);
}

-- Deliver, phase by phase.

module _ (n : ℕ) (b : Board) (s : SoundBoard n b) (i : ℕ) (p : inside n i ≡ true) where
  mine : Parts n i (b.members i)
  mine = s.members i p

  -- an operation under way has a slot of the board
  slot-here : inside 5 (b.members i).phase ≡ true → let r = (b.members i).slot in SoundSlot n (b.host r) (b.stored r)
  slot-here h = let r = (b.members i).slot in s.slots r (inside_in n r (mine.operates h).slot_least mine.slot)

  submit-sound : (b.members i).phase ≡ 1 → SoundBoard n (submit_taken b i)
  unfolding submit_taken answered submitted
  submit-sound e =
      let m = b.members i in
      let r = m.slot in
      let running = inside_in 5 m.phase (omega arith) (omega arith) in
      let g = slot-here running in
      rw (put_same b.stored r) at
      (slot_changed n b i r (answered m (b.host r).newest (b.stored r)) (submitted (b.host r) i (m.own r)) (b.stored r) s
      (moved_sound n i m 2 m.halt (b.host r).newest (b.stored r) mine running (omega arith) mine.halt g.2 g.1)
      (inside_high n i p, g.1, g.2))

  reply-sound : (b.members i).phase ≡ 2 → SoundBoard n (reply_taken n b i)
  unfolding reply_taken
  reply-sound e =
      let m = b.members i in
      member_changed n b i (replied n i m m.first m.second 3) s
      (replied_sound n i m m.first m.second 3 mine (inside_in 5 m.phase (omega arith) (omega arith)) p mine.stored)

  judged-sound : (b.members i).phase ≡ 3 → (won : Bool) → Parts n i (judged (b.members i) won)
  unfolding judged
  judged-sound e won =
      let m = b.members i in
      moved_sound n i m (cond won 4 5) m.halt m.first m.second mine (inside_in 5 m.phase (omega arith) (omega arith))
      (split (λ q. q ≤ 6) won (λ t. omega arith) (λ t. omega arith)) mine.halt mine.newest mine.stored

  sent-sound : sound_record n (sent_record i (b.members i)) ≡ true
  unfolding sent_record
  sent-sound = record_sound (record { member = inside_high n i p; slot = mine.slot; operation = mine.operation })

  commit-sound : (b.members i).phase ≡ 3 → SoundBoard n (commit_taken b i)
  unfolding commit_taken entry_after stored_after
  commit-sound e =
      let m = b.members i in
      let r = m.slot in
      let c = sent_record i m in
      let g = slot-here (inside_in 5 m.phase (omega arith) (omega arith)) in
      by-verdict (SoundBoard n) b i
      (λ won. rw won (slot_changed n b i r (judged m true) (record { submit_member = 0; submit_count = 0; newest = c })
      (cond (becomes_stored c) c (b.stored r)) s (judged-sound e true)
      (omega arith, split {A = Rec} (λ x. sound_record n x ≡ true) (becomes_stored c) (λ t. sent-sound) (λ t. g.1), sent-sound)))
      (λ lost. member_changed n b i (judged m false) s (judged-sound e false))

-- Every step.
pub taken_sound : {kind : Kind} {n : ℕ} {b next : Board} {call : Call} → Taken kind n b call next → SoundBoard n b → SoundBoard n next
unfolding board_begun outcome_taken board_crashed
taken_sound {n = n} {b = b} (begins i r t v k) s =
    member_changed n b i (begun (b.members i) r t v) s
    (begun_sound n i (b.members i) r t v (s.members i k.member) k.slot k.operation k.allowed)
taken_sound {n = n} {b = b} (submits i p e) s = submit-sound n b s i p e
taken_sound {n = n} {b = b} (replies i p e) s = reply-sound n b s i p e
taken_sound {n = n} {b = b} (commits i p e) s = commit-sound n b s i p e
taken_sound {n = n} {b = b} (ends i p l six) s =
    let m = b.members i in
    member_changed n b i (outcome m (eqb m.phase 4)) s (outcome_sound n i m (eqb m.phase 4) (s.members i p))
taken_sound {n = n} {b = b} (crashes i p) s =
    member_changed n b i (crashed_of (b.members i)) s (crashed_sound n i (b.members i) (s.members i p))

-- The opening.
pub opened_sound : (n : ℕ) → SoundBoard n (opened n)
unfolding opened idle within no_entry opening_entry opening zero_record sound_record
opened_sound n = record {
  members = λ i p. record {
    phase = omega arith;
    crashed = omega arith;
    halt = refl;
    slot = omega arith;
    operation = omega arith;
    operates = λ h. absurd (let z = inside_low 5 0 h in omega arith);
    newest = zero_sound n;
    stored = zero_sound n;
  };
  slots = λ r p. rw p (omega arith, opened-record r (inside_high n r p), opened-record r (inside_high n r p));
}
  where
    opened-record : (r : ℕ) → r ≤ n → (leb r n && leb r n && leb 2 2) ≡ true
    opened-record r h = both (both (le-leb r n h) (le-leb r n h)) refl
