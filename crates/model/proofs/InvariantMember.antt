-- The steps that change one member and leave the host as it is keep the invariant: begin, the reply, whose checks pass, an aborted commit,
-- the outcome, a crash. Each by what it makes of the member (`touched`).
use Prim.Native.Nat.{ℕ, ◌+◌, ◌≤◌}
use native.Mathlib.Nat.{le_refl}
use native.Mathlib.Omega.{arith}
use mathlib.Core.Path.{◌≡◌, refl, sym, ap, ◌∙◌}
use mathlib.Core.Bool.{false, not, ◌||◌}
use mathlib.Core.Logic.{⊎_elim}
use lib.Dec.{eqb, leb}
use borrow.Author.Tests.{eqb-true, eqb-false, eq-eqb, ne_eqb, le-leb, not-false}
use Rattle.lists.specs.Functions.{put}
use Rattle.lists.proofs.Functions.{on, either, put_at, put_off, put_all, put_both, each_all}
use Rattle.model.specs.Rows.{Row, Matrix, comparable}
use Rattle.model.specs.Records.{Value, Rec, write}
use Rattle.model.specs.Kinds.{Kind, barred}
use Rattle.model.specs.Member.{Member, begun, replied, passed, own_record, joined, halt_number, completed, dropped, crashed_of}
use Rattle.model.specs.Member.{judged, moved, took_over, check21, check22, check23, check24, check25, check26, check27}
use Rattle.model.specs.ReplyChecks.{AllPass}
use Rattle.model.specs.Host.{Entry}
use Rattle.model.specs.Board.{Board, with_member, board_begun, reply_taken, board_crashed}
use Rattle.model.specs.Reference.{RefMember, Reference, changed, ref_begun, ref_moved, ref_marked, ref_abort, ref_ended, ref_with}
use Rattle.model.proofs.Joined.{joined_other}
use Rattle.model.proofs.Rows.{larger_either}
use Rattle.model.proofs.Order.{◌≼◌, Ordered, ≼_raised, ≼-matrix_below, ordered_comparable, larger_above}
use Rattle.model.proofs.Answers.{BeginTaken}
use Rattle.model.proofs.Invariant.{Tops, count_on, shown, marked, Replied, Current, Committed, Extends, Accepted, MemberInv, Inv}

-- One member touched, with the counts that the tops have for it and the value that it shows kept.
pub touched : {n : ℕ} {b : Board} {ref : Reference} (inv : Inv n b ref) (i : ℕ) (m : Member) (f : RefMember)
    → MemberInv inv.P n i m f (b.host m.slot) (b.stored m.slot)
    → ((k : ℕ) → count_on m k ≡ count_on (b.members i) k)
    → shown m ≡ shown (b.members i)
    → Inv n (with_member b i m) (ref_with ref i f)
unfolding with_member
touched {n} {b} {ref} inv i m f h c v = record {
  P = inv.P;
  chain = inv.chain;
  top = inv.top;
  newest = inv.newest;
  slots = inv.slots;
  counts = λ k. put_all (λ j m. (b.host k).newest.matrix k j ≡ count_on m k) b.members i m
      (inv.counts k i ∙ sym (c k)) (λ j d. inv.counts k j);
  shows = put_all (λ j m. shown m ≡ ref.values j) b.members i m (v ∙ inv.shows i) (λ j d. inv.shows j);
  members = put_both (λ k m f. MemberInv inv.P n k m f (b.host m.slot) (b.stored m.slot)) b.members ref.members i m f
      h (λ k d. inv.members k);
}

-- A step within an operation, to phase p: what the phase asks is given, the rest is as it was.
pub stepped : {P Q : Tops} {n i : ℕ} {m : Member} {f : RefMember} {e : Entry} {s : Rec}
    (p h : ℕ) (one two : Rec) (noted : Value) (e' : Entry) (s' : Rec)
    → ((j : ℕ) (a : Row) → P j a → Q j a) → MemberInv P n i m f e s → 1 ≤ m.phase → 2 ≤ p → p ≤ 5
    → (p ≤ 3 → f.overtaken ≡ not (marked e' i (m.own m.slot)))
    → (p ≡ 2 → Replied Q i m.slot m.accepted m.known one two)
    → (p ≡ 2 → f.overtaken ≡ false → Current one two e' s')
    → (p ≡ 3 → Committed Q m.slot m.pending one)
    → (p ≡ 3 → f.overtaken ≡ false → Extends i m.slot (m.own m.slot) one two e' s')
    → (p ≡ 4 → Accepted Q m.operation one two noted)
    → MemberInv Q n i (moved m p h one two) (changed f p f.crashed f.overtaken noted) e' s'
stepped p h one two noted e' s' grow old running low high mark replied current committed extends accepted = record {
  phase = refl;
  crashed = old.crashed;
  own = old.own;
  slot = old.slot;
  operation = old.operation;
  value = old.value;
  fine = high;
  order = old.order;
  known_tops = λ j. grow j _ (old.known_tops j);
  running = λ g. old.running running;
  fresh = λ q. absurd (omega arith);
  mark = λ g. mark;
  replied = replied;
  current = current;
  committed = committed;
  extends = extends;
  accepted = accepted;
}

-- Begin.

-- a write that number 7 lets through
allowed_writes : (i r t : ℕ) → barred i r t ≡ false → t ≡ write → r ≡ i
unfolding barred
allowed_writes i r t h e = sym (eqb-true i r (not-false _ (rw (eq-eqb t write e) at h)))

pub begin_keeps : {kind : Kind} {n : ℕ} {b : Board} {ref : Reference} (inv : Inv n b ref) (i r t : ℕ) (v : Value)
    → BeginTaken kind n (b.members i).phase (b.members i).crashed ((b.members i).own r) i r t
    → Inv n (board_begun b i r t v) (ref_with ref i (ref_begun (ref.members i) r t v))
unfolding board_begun begun ref_begun
begin_keeps {kind} {n} {b} {ref} inv i r t v taken =
    touched inv i (begun m r t v) (ref_begun (ref.members i) r t v)
    (record {
      phase = refl;
      crashed = old.crashed;
      own = λ k. ap (λ f. put f r (f r + 1) k) own_same;
      slot = refl;
      operation = refl;
      value = λ e. rw (eq-eqb t write e);
      fine = omega arith;
      order = put_all (λ k c. m.accepted k ≤ c) m.own r (m.own r + 1) (let h = old.order r in omega arith) (λ k d. old.order k);
      known_tops = old.known_tops;
      running = λ h. record {
        member = taken.member;
        slot_in = taken.slot;
        writes = allowed_writes i r t taken.allowed;
        reads = λ d. rw (ne_eqb t write d);
      };
      fresh = λ e. refl;
      mark = λ g h. absurd (omega arith);
      replied = λ e. absurd (omega arith);
      current = λ e. absurd (omega arith);
      committed = λ e. absurd (omega arith);
      extends = λ e. absurd (omega arith);
      accepted = λ e. absurd (omega arith);
    })
    (λ k. let e = taken.is_idle in rw e refl)
    (let e = taken.is_idle in rw e refl)
  where
    m : Member
    m = b.members i

    old : MemberInv inv.P n i (b.members i) (ref.members i) (b.host (b.members i).slot) (b.stored (b.members i).slot)
    old = inv.members i

    own_same : (b.members i).own ≡ (ref.members i).begins
    own_same = λ j k. old.own k j

-- The reply's checks pass: a reply that was the host's honest one passes, however long ago it was sent.

all_pass : (n i : ℕ) (m : Member) → AllPass n i m → halt_number n i m m.first m.second 3 ≡ 0
unfolding halt_number
all_pass n i m c = rw (c.pass21, c.pass22, c.pass23, c.pass24, c.pass25, c.pass26, c.pass27)

module _ {n : ℕ} {b : Board} {ref : Reference} (inv : Inv n b ref) (i : ℕ) (e : (b.members i).phase ≡ 2) where
  abbrev m₂ : Member
  m₂ = b.members i

  abbrev r₂ : ℕ
  r₂ = (b.members i).slot

  old₂ : MemberInv inv.P n i m₂ (ref.members i) (b.host r₂) (b.stored r₂)
  old₂ = inv.members i

  reply : Replied inv.P i r₂ m₂.accepted m₂.known m₂.first m₂.second
  reply = old₂.replied e

  -- rows of one slot that have been tops are ordered
  known_ordered : (j : ℕ) → Ordered (m₂.known j) (m₂.first.matrix j)
  known_ordered j = inv.chain j (m₂.known j) (m₂.first.matrix j) (old₂.known_tops j) (reply.first_tops j)

  -- the newest record has of i no more than was accepted
  own-small : (j : ℕ) → m₂.first.matrix j i ≤ m₂.accepted j
  own-small j =
      let h : m₂.first.matrix j i ≤ (b.host j).newest.matrix j i = inv.top j (m₂.first.matrix j) (reply.first_tops j) i in
      let c : (b.host j).newest.matrix j i ≡ m₂.accepted j = inv.counts j i ∙ rw e refl in
      omega arith

  pub checks_pass : AllPass n i m₂
  unfolding check21 check22 check23 check24 check25 check26 check27
  checks_pass = record {
    pass21 = refl;
    pass22 = each_all n (λ k. eqb k i || leb (m₂.known r₂ k) (m₂.first.matrix r₂ k))
        (λ k p q. either (eqb k i) (le-leb (m₂.known r₂ k) (m₂.first.matrix r₂ k) (reply.known_below k)));
    pass23 = eq-eqb (m₂.first.matrix r₂ i) (m₂.accepted r₂) reply.own_entry;
    pass24 = eq-eqb m₂.second.member r₂ reply.second_member;
    pass25 = rw (
      ≼-matrix_below n m₂.second.matrix m₂.first.matrix reply.second_below,
      eq-eqb (m₂.second.matrix r₂ r₂) (m₂.first.matrix r₂ r₂) reply.second_same,
    );
    pass26 = each_all n (λ j. eqb j r₂ || comparable n (m₂.known j) (m₂.first.matrix j))
        (λ j p q. either (eqb j r₂) (ordered_comparable n (m₂.known j) (m₂.first.matrix j) (known_ordered j)));
    pass27 = each_all n (λ j. eqb j r₂ || leb (m₂.first.matrix j i) (m₂.accepted j))
        (λ j p q. either (eqb j r₂) (le-leb (m₂.first.matrix j i) (m₂.accepted j) (own-small j)));
  }

  -- the matrix of the operation's record
  abbrev new : Matrix
  new = joined n i r₂ (m₂.own r₂) m₂.known m₂.first.matrix

  others : (j : ℕ) → (j ≡ r₂ → ⊥) → inv.P j (new j)
  others j d = rw (joined_other n i r₂ (m₂.own r₂) m₂.known m₂.first.matrix j (ne_eqb j r₂ d)) (⊎_elim
      (λ p. rw p (old₂.known_tops j)) (λ p. rw p (reply.first_tops j)) (larger_either n (m₂.known j) (m₂.first.matrix j)))

  raises : (j : ℕ) → m₂.first.matrix j ≼ new j
  unfolding joined
  raises j = on (eqb j r₂)
      (λ p. let d : j ≡ r₂ = eqb-true j r₂ p in rw d (rw (eq-eqb r₂ r₂ refl) (≼_raised (m₂.first.matrix r₂) i (m₂.own r₂)
      (let h = reply.own_entry in let g = old₂.order r₂ in omega arith))))
      (λ p. rw p (larger_above n (m₂.known j) (m₂.first.matrix j) (known_ordered j)))

  pub reply_keeps : Inv n (reply_taken n b i) (ref_with ref i (ref_moved (ref.members i) 3))
  unfolding reply_taken replied passed own_record joined ref_moved
  reply_keeps = rw (all_pass n i m₂ checks_pass)
      (touched inv i (passed n i m₂ m₂.first m₂.second) (ref_moved (ref.members i) 3)
      (stepped 3 m₂.halt (own_record n i m₂ m₂.first) m₂.second (ref.members i).noted _ _ (λ j a p. p) old₂
      (omega arith) (omega arith) (omega arith)
      (λ q. old₂.mark (omega arith) (omega arith))
      (λ q. absurd (omega arith))
      (λ q. absurd (omega arith))
      (λ q. record { other_tops = others; own_value = refl })
      (λ q o. record {
        above = λ j. rw (← (old₂.current e o).is_newest) (raises j);
        row = rw (eq-eqb r₂ r₂ refl) (ap (λ c. put (c.matrix r₂) i (m₂.own r₂)) (old₂.current e o).is_newest);
        is_stored = (old₂.current e o).is_stored;
      })
      (λ q. absurd (omega arith)))
      (λ k. rw e refl)
      (rw e refl))

-- The verdict aborted, and the outcome taken in phases 4 and 5.

pub abort_keeps : {n : ℕ} {b : Board} {ref : Reference} (inv : Inv n b ref) (i : ℕ) → (b.members i).phase ≡ 3
    → Inv n (with_member b i (judged (b.members i) false)) (ref_abort ref i)
unfolding judged ref_moved ref_abort
abort_keeps {n} {b} {ref} inv i e =
    let m = b.members i in
    let old = inv.members i in
    touched inv i (judged m false) (ref_moved (ref.members i) 5)
    (stepped 5 m.halt m.first m.second (ref.members i).noted _ _ (λ j a p. p) old (omega arith) (omega arith) (omega arith)
    (λ q. absurd (omega arith))
    (λ q. absurd (omega arith))
    (λ q. absurd (omega arith))
    (λ q. absurd (omega arith))
    (λ q. absurd (omega arith))
    (λ q. absurd (omega arith)))
    (λ k. rw e refl)
    (rw e refl)

-- A member at rest, whatever it took over: it has no operation that the host could hold against it.
pub at_rest : (P : Tops) (n i : ℕ) (m : Member) (f : RefMember) (e : Entry) (stored : Rec)
    → m.crashed ≡ f.crashed → ((r : ℕ) → m.own r ≡ f.begins r) → ((r : ℕ) → m.accepted r ≤ m.own r) → ((j : ℕ) → P j (m.known j))
    → MemberInv P n i (dropped m) (ref_ended f) e stored
unfolding ref_ended dropped
at_rest P n i m f e stored up own order tops = record {
  phase = refl;
  crashed = up;
  own = own;
  slot = refl;
  operation = refl;
  value = λ p. absurd (omega arith);
  fine = omega arith;
  order = order;
  known_tops = tops;
  running = λ h. absurd (omega arith);
  fresh = λ p. absurd (omega arith);
  mark = λ g h. absurd (omega arith);
  replied = λ p. absurd (omega arith);
  current = λ p. absurd (omega arith);
  committed = λ p. absurd (omega arith);
  extends = λ p. absurd (omega arith);
  accepted = λ p. absurd (omega arith);
}

pub completed_keeps : {n : ℕ} {b : Board} {ref : Reference} (inv : Inv n b ref) (i : ℕ) → (b.members i).phase ≡ 4
    → Inv n (with_member b i (completed (b.members i))) (ref_with ref i (ref_ended (ref.members i)))
unfolding completed dropped took_over
completed_keeps {n} {b} {ref} inv i e =
    let m = b.members i in
    let old = inv.members i in
    touched inv i (completed m) (ref_ended (ref.members i))
    (at_rest inv.P n i (took_over m) (ref.members i) _ _ old.crashed old.own
    (put_all (λ k c. c ≤ m.own k) m.accepted m.slot (m.own m.slot) (le_refl (m.own m.slot)) (λ k d. old.order k))
    (old.accepted e).all_tops)
    (λ k. on (eqb k m.slot)
    (λ p. let d : k ≡ m.slot = eqb-true k m.slot p in
    rw (d, put_at m.accepted m.slot (m.own m.slot), e, eq-eqb m.slot m.slot refl))
    (λ p. let d : k ≡ m.slot → ⊥ = eqb-false k m.slot p in
    rw (put_off m.accepted m.slot (m.own m.slot) k d, e, ne_eqb m.slot k (λ q. d (sym q)))))
    (rw e refl)

pub dropped_keeps : {n : ℕ} {b : Board} {ref : Reference} (inv : Inv n b ref) (i : ℕ) → (b.members i).phase ≡ 5
    → Inv n (with_member b i (dropped (b.members i))) (ref_with ref i (ref_ended (ref.members i)))
unfolding dropped
dropped_keeps {n} {b} {ref} inv i e =
    let m = b.members i in
    let old = inv.members i in
    touched inv i (dropped m) (ref_ended (ref.members i))
    (at_rest inv.P n i m (ref.members i) _ _ old.crashed old.own old.order old.known_tops)
    (λ k. rw e refl)
    (rw e refl)

-- A crash.

pub crash_keeps : {n : ℕ} {b : Board} {ref : Reference} (inv : Inv n b ref) (i : ℕ)
    → Inv n (board_crashed b i) (ref_with ref i (ref_marked (ref.members i)))
unfolding board_crashed crashed_of ref_marked
crash_keeps {n} {b} {ref} inv i =
    let m = b.members i in
    let old = inv.members i in
    touched inv i (crashed_of m) (ref_marked (ref.members i))
    (record {
      phase = old.phase;
      crashed = refl;
      own = old.own;
      slot = old.slot;
      operation = old.operation;
      value = old.value;
      fine = old.fine;
      order = old.order;
      known_tops = old.known_tops;
      running = old.running;
      fresh = old.fresh;
      mark = old.mark;
      replied = old.replied;
      current = old.current;
      committed = old.committed;
      extends = old.extends;
      accepted = old.accepted;
    })
    (λ k. refl)
    refl
