-- The table's check in parts: what it says of a record, a member, an entry and a whole board. Assumes nothing.
use Prim.Native.Nat.{ℕ, ◌≤◌}
use mathlib.Core.Path.{◌≡◌}
use mathlib.Core.Bool.{Bool, true, false, not, ◌&&◌, ◌||◌}
use lib.Dec.{eqb, leb}
use borrow.Author.Tests.{le-leb, leb-true, not-true}
use Rattle.lists.specs.Functions.{inside, each}
use Rattle.lists.proofs.Functions.{on, both, first, second, each_all, each_at, inside_low, inside_high, inside_in}
use Rattle.model.specs.Records.{Rec}
use Rattle.model.specs.Kinds.{barred}
use Rattle.model.specs.Member.{Member}
use Rattle.model.specs.Host.{Entry}
use Rattle.model.specs.Board.{Board}
use Rattle.model.specs.Table.{sound_record, sound_operation, sound_member, sound_entry, sound_host, sound_board}

-- A record, a member and an entry in parts.

pub record SoundRecord (n : ℕ) (r : Rec) : Type 0 where
  pub member : r.member ≤ n
  pub slot : r.slot ≤ n
  pub operation : r.operation ≤ 2

pub record_parts : {n : ℕ} {r : Rec} → sound_record n r ≡ true → SoundRecord n r
unfolding sound_record
record_parts {n} {r} h =
    let a = leb r.member n in
    let b = leb r.slot n in
    let c = leb r.operation 2 in
    let ab = first (a && b) c h in
    record {
      member = leb-true r.member n (first a b ab);
      slot = leb-true r.slot n (second a b ab);
      operation = leb-true r.operation 2 (second (a && b) c h);
    }

pub record_sound : {n : ℕ} {r : Rec} → SoundRecord n r → sound_record n r ≡ true
unfolding sound_record
record_sound {n} {r} s =
    both (both (le-leb r.member n s.member) (le-leb r.slot n s.slot)) (le-leb r.operation 2 s.operation)

-- the halt number is in range
abbrev pub halts : ℕ → Bool
halts h = eqb h 0 || leb 21 h && leb h 27

-- a member in phase 1 to 5 has a slot, a type, and number 7 does not refuse them
pub record Operates (i slot operation : ℕ) : Type 0 where
  pub slot_least : 1 ≤ slot
  pub operation_least : 1 ≤ operation
  pub allowed : barred i slot operation ≡ false

pub record SoundMember (n i p c h r t : ℕ) (one two : Rec) : Type 0 where
  pub phase : p ≤ 6
  pub crashed : c ≤ 1
  pub halt : halts h ≡ true
  pub slot : r ≤ n
  pub operation : t ≤ 2
  pub operates : inside 5 p ≡ true → Operates i r t
  pub newest : sound_record n one ≡ true
  pub stored : sound_record n two ≡ true

abbrev pub Parts : ℕ → ℕ → Member → Type 0
Parts n i m = SoundMember n i m.phase m.crashed m.halt m.slot m.operation m.first m.second

operates_parts : (i : ℕ) (m : Member) → sound_operation i m ≡ true → inside 5 m.phase ≡ true
    → Operates i m.slot m.operation
unfolding sound_operation
operates_parts i m h p =
    let a = leb 1 m.slot in
    let b = leb 1 m.operation in
    let c = not (barred i m.slot m.operation) in
    let all : (a && b && c) ≡ true = rw p at h in
    let ab = first (a && b) c all in
    record {
      slot_least = leb-true 1 m.slot (first a b ab);
      operation_least = leb-true 1 m.operation (second a b ab);
      allowed = not-true (barred i m.slot m.operation) (second (a && b) c all);
    }

operates_sound : (i : ℕ) (m : Member) → (inside 5 m.phase ≡ true → Operates i m.slot m.operation)
    → sound_operation i m ≡ true
unfolding sound_operation
operates_sound i m h = on (inside 5 m.phase)
    (λ p. let o = h p in rw (p, le-leb 1 m.slot o.slot_least, le-leb 1 m.operation o.operation_least, o.allowed))
    (λ p. rw p)

pub member_parts : (n i : ℕ) (m : Member) → sound_member n i m ≡ true → Parts n i m
unfolding sound_member
member_parts n i m h =
    let a = leb m.phase 6 in
    let b = leb m.crashed 1 in
    let c = halts m.halt in
    let d = leb m.slot n in
    let e = leb m.operation 2 in
    let f = sound_operation i m in
    let g = sound_record n m.first in
    let k = sound_record n m.second in
    let h7 = first (a && b && c && d && e && f && g) k h in
    let h6 = first (a && b && c && d && e && f) g h7 in
    let h5 = first (a && b && c && d && e) f h6 in
    let h4 = first (a && b && c && d) e h5 in
    let h3 = first (a && b && c) d h4 in
    let h2 = first (a && b) c h3 in
    record {
      phase = leb-true m.phase 6 (first a b h2);
      crashed = leb-true m.crashed 1 (second a b h2);
      halt = second (a && b) c h3;
      slot = leb-true m.slot n (second (a && b && c) d h4);
      operation = leb-true m.operation 2 (second (a && b && c && d) e h5);
      operates = operates_parts i m (second (a && b && c && d && e) f h6);
      newest = second (a && b && c && d && e && f) g h7;
      stored = second (a && b && c && d && e && f && g) k h;
    }

pub member_sound : (n i : ℕ) (m : Member) → Parts n i m → sound_member n i m ≡ true
unfolding sound_member
member_sound n i m s =
    both (both (both (both (both (both (both (le-leb m.phase 6 s.phase) (le-leb m.crashed 1 s.crashed)) s.halt)
    (le-leb m.slot n s.slot)) (le-leb m.operation 2 s.operation)) (operates_sound i m s.operates)) s.newest) s.stored

-- The host.

abbrev pub SoundSlot : ℕ → Entry → Rec → Type 0
SoundSlot n e stored = (e.submit_member ≤ n) × (sound_record n stored ≡ true) × (sound_record n e.newest ≡ true)

pub entry_parts : (n : ℕ) (e : Entry) (stored : Rec) → sound_entry n e stored ≡ true → SoundSlot n e stored
unfolding sound_entry
entry_parts n e stored h =
    let a = leb e.submit_member n in
    let b = sound_record n stored in
    let c = sound_record n e.newest in
    let ab = first (a && b) c h in
    (leb-true e.submit_member n (first a b ab), second a b ab, second (a && b) c h)

pub entry_sound : (n : ℕ) (e : Entry) (stored : Rec) → SoundSlot n e stored → sound_entry n e stored ≡ true
unfolding sound_entry
entry_sound n e stored s = both (both (le-leb e.submit_member n s.0) s.1) s.2

-- The board in parts: every member's, every slot's.

pub record SoundBoard (n : ℕ) (b : Board) : Type 0 where
  pub members : (i : ℕ) → inside n i ≡ true → Parts n i (b.members i)
  pub slots : (r : ℕ) → inside n r ≡ true → SoundSlot n (b.host r) (b.stored r)

pub board_parts : (n : ℕ) (b : Board) → sound_board n b ≡ true → SoundBoard n b
unfolding sound_board sound_host
board_parts n b h =
    let Each-member = each n (λ i. sound_member n i (b.members i)) in
    let each-slot = each n (λ r. sound_entry n (b.host r) (b.stored r)) in
    record {
      members = λ i p. member_parts n i (b.members i)
          (each_at n (λ i. sound_member n i (b.members i)) (first Each-member each-slot h) i (inside_low n i p) (inside_high n i p));
      slots = λ r p. entry_parts n (b.host r) (b.stored r)
          (each_at n (λ r. sound_entry n (b.host r) (b.stored r)) (second Each-member each-slot h) r
          (inside_low n r p) (inside_high n r p));
    }

pub board_sound : (n : ℕ) (b : Board) → SoundBoard n b → sound_board n b ≡ true
unfolding sound_board sound_host
board_sound n b s = both
    (each_all n (λ i. sound_member n i (b.members i)) (λ i p q. member_sound n i (b.members i) (s.members i (inside_in n i p q))))
    (each_all n (λ r. sound_entry n (b.host r) (b.stored r))
    (λ r p q. entry_sound n (b.host r) (b.stored r) (s.slots r (inside_in n r p q))))
