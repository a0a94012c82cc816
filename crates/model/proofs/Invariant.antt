-- The invariant of a run: what relates a board with an honest host to the reference. Statements alone. It speaks of n only where slots
-- and members must be ones of the board.
use Prim.Native.Nat.{ℕ, ◌≤◌}
use mathlib.Core.Path.{◌≡◌}
use mathlib.Core.Bool.{Bool, true, false, cond, not, ◌&&◌}
use lib.Dec.{eqb}
use Rattle.lists.specs.Functions.{put, inside}
use Rattle.model.specs.Rows.{Row, Matrix}
use Rattle.model.specs.Records.{Value, Rec, read, write}
use Rattle.model.specs.Member.{Member}
use Rattle.model.specs.Host.{Entry}
use Rattle.model.specs.Board.{Board}
use Rattle.model.specs.Reference.{RefMember, Reference}
use Rattle.model.proofs.Order.{◌≼◌, Ordered}

-- For each slot the rows that have been its top row, that is, row k of slot k's newest record.
abbrev pub Tops : Type 1
Tops = ℕ → Row → Type 0

-- one more of them, for slot r
pub data Grown (P : Tops) (r : ℕ) (t : Row) (k : ℕ) (a : Row) : Type 0 where
  was : P k a → Grown P r t k a
  is_new : k ≡ r → a ≡ t → Grown P r t k a

-- The host's part of slot k, against the reference's value of it.
pub record SlotInv (n k : ℕ) (e : Entry) (stored : Rec) (value : Value) : Type 0 where
  pub stored_member : inside n k ≡ true → stored.member ≡ k
  pub stored_below : (j : ℕ) → stored.matrix j ≼ e.newest.matrix j
  pub stored_same : stored.matrix k k ≡ e.newest.matrix k k
  pub stored_value : stored.value ≡ value

-- the count that slot k's top row has for a member: the accepted one, but while its operation on k is accepted and not completed the own
abbrev pub count_on : Member → ℕ → ℕ
count_on m k = cond (eqb m.phase 4 && eqb m.slot k) (m.own k) (m.accepted k)

-- whether the newest submit of an entry is this one
abbrev pub marked : Entry → ℕ → ℕ → Bool
marked e i count = eqb e.submit_member i && eqb e.submit_count count

-- the value that a member would show of its own slot: its last, but while its write is accepted and not completed the pending one
abbrev pub shown : Member → Value
shown m = cond (eqb m.phase 4 && eqb m.operation write) m.pending m.last

-- a running operation of member i: a write is to its own slot, and a read carries its last value
pub record Running (n i slot operation : ℕ) (pending last : Value) : Type 0 where
  pub member : inside n i ≡ true
  pub slot_in : inside n slot ≡ true
  pub writes : operation ≡ write → slot ≡ i
  pub reads : (operation ≡ write → ⊥) → pending ≡ last

-- phase 2, reply sent: overtaken or not, the reply passes the checks; not overtaken, it is what the host has now
pub record Replied (P : Tops) (i slot : ℕ) (accepted : ℕ → ℕ) (known : Matrix) (first second : Rec) : Type 0 where
  pub first_tops : (j : ℕ) → P j (first.matrix j)
  pub known_below : known slot ≼ first.matrix slot
  pub own_entry : first.matrix slot i ≡ accepted slot
  pub second_member : second.member ≡ slot
  pub second_below : (j : ℕ) → second.matrix j ≼ first.matrix j
  pub second_same : second.matrix slot slot ≡ first.matrix slot slot

pub record Current (first second : Rec) (e : Entry) (stored : Rec) : Type 0 where
  pub is_newest : first ≡ e.newest
  pub is_stored : second ≡ stored

-- phase 3, commit sent: overtaken or not, its other rows have been tops; not overtaken, it extends what the host has now
pub record Committed (P : Tops) (slot : ℕ) (pending : Value) (first : Rec) : Type 0 where
  pub other_tops : (j : ℕ) → (j ≡ slot → ⊥) → P j (first.matrix j)
  pub own_value : first.value ≡ pending

pub record Extends (i slot count : ℕ) (first second : Rec) (e : Entry) (stored : Rec) : Type 0 where
  pub above : (j : ℕ) → e.newest.matrix j ≼ first.matrix j
  pub row : first.matrix slot ≡ put (e.newest.matrix slot) i count
  pub is_stored : second ≡ stored

-- phase 4, accepted sent
pub record Accepted (P : Tops) (operation : ℕ) (first second : Rec) (noted : Value) : Type 0 where
  pub all_tops : (j : ℕ) → P j (first.matrix j)
  pub read_noted : operation ≡ read → second.value ≡ noted

-- Member i against the reference's part of it; e and stored are the host's of its slot.
pub record MemberInv (P : Tops) (n i : ℕ) (m : Member) (f : RefMember) (e : Entry) (stored : Rec) : Type 0 where
  pub phase : m.phase ≡ f.phase
  pub crashed : m.crashed ≡ f.crashed
  pub own : (r : ℕ) → m.own r ≡ f.begins r
  pub slot : m.slot ≡ f.slot
  pub operation : m.operation ≡ f.operation
  pub value : m.operation ≡ write → m.pending ≡ f.value
  pub fine : m.phase ≤ 5
  pub order : (r : ℕ) → m.accepted r ≤ m.own r
  pub known_tops : (j : ℕ) → P j (m.known j)
  pub running : 1 ≤ m.phase → Running n i m.slot m.operation m.pending m.last
  pub fresh : m.phase ≡ 1 → f.overtaken ≡ false
  pub mark : 2 ≤ m.phase → m.phase ≤ 3 → f.overtaken ≡ not (marked e i (m.own m.slot))
  pub replied : m.phase ≡ 2 → Replied P i m.slot m.accepted m.known m.first m.second
  pub current : m.phase ≡ 2 → f.overtaken ≡ false → Current m.first m.second e stored
  pub committed : m.phase ≡ 3 → Committed P m.slot m.pending m.first
  pub extends : m.phase ≡ 3 → f.overtaken ≡ false → Extends i m.slot (m.own m.slot) m.first m.second e stored
  pub accepted : m.phase ≡ 4 → Accepted P m.operation m.first m.second f.noted

pub record Inv (n : ℕ) (b : Board) (ref : Reference) : Type 1 where
  pub P : Tops
  -- rows that have been tops of one slot are ordered, and below the present top
  pub chain : (k : ℕ) (a c : Row) → P k a → P k c → Ordered a c
  pub top : (k : ℕ) (a : Row) → P k a → a ≼ (b.host k).newest.matrix k
  pub newest : (k j : ℕ) → P j ((b.host k).newest.matrix j)
  pub slots : (k : ℕ) → SlotInv n k (b.host k) (b.stored k) (ref.values k)
  pub counts : (k i : ℕ) → (b.host k).newest.matrix k i ≡ count_on (b.members i) k
  -- what a member would show of its slot is the reference's value there
  pub shows : (i : ℕ) → shown (b.members i) ≡ ref.values i
  pub members : (i : ℕ) → MemberInv P n i (b.members i) (ref.members i) (b.host (b.members i).slot) (b.stored (b.members i).slot)
