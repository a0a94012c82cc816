-- A commit accepted keeps the invariant: the slot has a new top row, and by the slot's owner its record becomes the stored one, no other's
-- does. Of the member itself, of every other one (`bystander`), and of the slot.
use Prim.Native.Nat.{ℕ, ◌≤◌}
use native.Mathlib.Omega.{arith}
use mathlib.Core.Path.{◌≡◌, refl, sym, ap, ◌∙◌}
use mathlib.Core.Bool.{Bool, true, false, cond, not}
use mathlib.Core.List.{List, ◌∷◌}
use lib.Dec.{eqb}
use borrow.Author.Tests.{eqb-true, eqb-false, eq-eqb, ne_eqb}
use Rattle.lists.specs.Functions.{put}
use Rattle.lists.proofs.Functions.{on, first, apart, put_at, put_off, put_same, put_all, put_both, inside_low}
use Rattle.model.specs.Rows.{Row}
use Rattle.model.specs.Records.{Value, Rec, write}
use Rattle.model.specs.Kinds.{becomes_stored}
use Rattle.model.specs.Member.{Member, judged}
use Rattle.model.specs.Host.{Entry, wins, entry_after, stored_after}
use Rattle.model.specs.Board.{Board, sent_record, commit_taken}
use Rattle.model.specs.Reference.{Operation, Reference, ref_accepted, operation_of, ref_accept}
use Rattle.model.proofs.Order.{◌≼◌, Ordered, up, down, ≼_refl, ≼_trans}
use Rattle.model.proofs.InvariantMember.{stepped}
use Rattle.model.proofs.InvariantSubmit.{bystander, not_marked}
use Rattle.model.proofs.Invariant.{Tops, Grown, was, is_new, SlotInv, count_on, shown, marked, Running, Extends, MemberInv, Inv}

-- the verdict: the newest submit is this one
pub wins_marked : (e : Entry) (i : ℕ) (m : Member) → wins e (sent_record i m) ≡ marked e i (m.own m.slot)
unfolding wins sent_record
wins_marked e i m = refl

-- what becomes the stored record
not_owned : (c : Rec) → (c.member ≡ c.slot → ⊥) → becomes_stored c ≡ false
unfolding becomes_stored
not_owned c other = ne_eqb c.member c.slot other

owned : (c : Rec) → c.member ≡ c.slot → becomes_stored c ≡ true
unfolding becomes_stored
owned c own = eq-eqb c.member c.slot own

module _ {n : ℕ} {b : Board} {ref : Reference} (inv : Inv n b ref) (i : ℕ) (e : (b.members i).phase ≡ 3)
    (won : marked (b.host (b.members i).slot) i ((b.members i).own (b.members i).slot) ≡ true) where
  abbrev m₃ : Member
  m₃ = b.members i

  abbrev r₃ : ℕ
  r₃ = (b.members i).slot

  old₃ : MemberInv inv.P n i (b.members i) (ref.members i) (b.host (b.members i).slot) (b.stored (b.members i).slot)
  old₃ = inv.members i

  run₃ : Running n i (b.members i).slot (b.members i).operation (b.members i).pending (b.members i).last
  run₃ = old₃.running (omega arith)

  abbrev sent : Rec
  sent = sent_record i (b.members i)

  abbrev entry₃ : Entry
  entry₃ = record { submit_member = 0; submit_count = 0; newest = sent }

  abbrev row₃ : Row
  row₃ = (b.members i).first.matrix (b.members i).slot

  won-commit : wins (b.host r₃) sent ≡ true
  won-commit = wins_marked (b.host r₃) i m₃ ∙ won

  -- the winner is not overtaken, so its record extends what the host has
  not-overtaken : (ref.members i).overtaken ≡ false
  not-overtaken = old₃.mark (omega arith) (omega arith) ∙ ap not won

  extension : Extends i (b.members i).slot ((b.members i).own (b.members i).slot) (b.members i).first (b.members i).second
      (b.host (b.members i).slot) (b.stored (b.members i).slot)
  extension = old₃.extends e not-overtaken

  abbrev Q₃ : Tops
  Q₃ = Grown inv.P (b.members i).slot ((b.members i).first.matrix (b.members i).slot)

  all-tops : (j : ℕ) → Q₃ j ((b.members i).first.matrix j)
  all-tops j = on (eqb j (b.members i).slot)
      (λ p. let d : j ≡ (b.members i).slot = eqb-true j (b.members i).slot p in is_new d (ap (b.members i).first.matrix d))
      (λ p. was ((old₃.committed e).other_tops j (eqb-false j (b.members i).slot p)))

  new-top : (k : ℕ) (a : Row) → Q₃ k a → a ≼ (put b.host r₃ entry₃ k).newest.matrix k
  unfolding sent_record
  new-top k a (was p) = on (eqb k r₃)
      (λ q. let d : k ≡ r₃ = eqb-true k r₃ q in
      let h : a ≼ (b.host r₃).newest.matrix r₃ = rw d at (inv.top k a p) in
      rw (d, put_at b.host r₃ entry₃) (≼_trans h (extension.above r₃)))
      (λ q. rw (put_off b.host r₃ entry₃ k (eqb-false k r₃ q)) (inv.top k a p))
  new-top k a (is_new d q) = rw (d, put_at b.host r₃ entry₃, q) (≼_refl _)

  old_below : (k : ℕ) (a c : Row) → inv.P k a → k ≡ r₃ → c ≡ row₃ → a ≼ c
  old_below k a c p d q =
      let h : a ≼ (b.host r₃).newest.matrix r₃ = rw d at (inv.top k a p) in rw q (≼_trans h (extension.above r₃))

  new-chain : (k : ℕ) (a c : Row) → Q₃ k a → Q₃ k c → Ordered a c
  new-chain k a c (was p) (was q) = inv.chain k a c p q
  new-chain k a c (was p) (is_new d q) = up (old_below k a c p d q)
  new-chain k a c (is_new d q) (was p) = down (old_below k c a p d q)
  new-chain k a c (is_new d p) (is_new g q) = up (rw (p, q) (≼_refl _))

  new-newest : (k j : ℕ) → Q₃ j ((put b.host r₃ entry₃ k).newest.matrix j)
  unfolding sent_record
  new-newest k j = put_all (λ k x. Q₃ j (x.newest.matrix j)) b.host r₃ entry₃ (all-tops j) (λ k d. was (inv.newest k j)) k

  new-counts : (k j : ℕ) → (put b.host r₃ entry₃ k).newest.matrix k j ≡ count_on (put b.members i (judged m₃ true) j) k
  unfolding sent_record judged
  new-counts k j = on (eqb k r₃)
      (λ p. let d : k ≡ r₃ = eqb-true k r₃ p in
      rw (d, put_at b.host r₃ entry₃, extension.row)
      (put_both (λ j x m. x ≡ count_on m r₃) ((b.host r₃).newest.matrix r₃) b.members i (m₃.own r₃) (judged m₃ true)
      (rw (eq-eqb r₃ r₃ refl)) (λ j g. inv.counts r₃ j) j))
      (λ p. let d : k ≡ r₃ → ⊥ = eqb-false k r₃ p in
      rw (put_off b.host r₃ entry₃ k d)
      (put_all (λ j m. (b.host k).newest.matrix k j ≡ count_on m k) b.members i (judged m₃ true)
      (inv.counts k i ∙ rw (e, ne_eqb r₃ k (λ q. d (sym q)))) (λ j g. inv.counts k j) j))

  accept-self : (v : Value) → ref.values r₃ ≡ v → (e' : Entry) (s' : Rec)
      → MemberInv Q₃ n i (judged m₃ true) (ref_accepted (ref.members i) v) e' s'
  unfolding judged ref_accepted
  accept-self v h e' s' =
      stepped 4 m₃.halt m₃.first m₃.second v e' s' (λ j a p. was p) old₃ (omega arith) (omega arith) (omega arith)
      (λ q. absurd (omega arith))
      (λ q. absurd (omega arith))
      (λ q. absurd (omega arith))
      (λ q. absurd (omega arith))
      (λ q. absurd (omega arith))
      (λ q. record {
        all_tops = all-tops;
        read_noted = λ o. ap (λ c. c.value) extension.is_stored ∙ (inv.slots r₃).stored_value ∙ h;
      })

  -- whoever else is on the slot was overtaken by the winner
  accept-other : (s : Rec) (k : ℕ) → (k ≡ i → ⊥)
      → let r = (b.members k).slot in
      MemberInv Q₃ n k (b.members k) (ref.members k) (put b.host r₃ entry₃ r) (put b.stored r₃ s r)
  accept-other s k d =
      let old = inv.members k in
      let f = ref.members k in
      let m = b.members k in
      on (eqb m.slot r₃)
      (λ p.
      let at : m.slot ≡ r₃ = eqb-true m.slot r₃ p in
      let h : put b.host r₃ entry₃ m.slot ≡ entry₃ = ap (put b.host r₃ entry₃) at ∙ put_at b.host r₃ entry₃ in
      let mine : (b.host m.slot).submit_member ≡ i = ap (λ x. (b.host x).submit_member) at ∙ eqb-true (b.host r₃).submit_member i
      (first (eqb (b.host r₃).submit_member i) (eqb (b.host r₃).submit_count (m₃.own r₃)) won) in
      let lost : 2 ≤ m.phase → m.phase ≤ 3 → f.overtaken ≡ true =
      λ x y. old.mark x y ∙ ap not (not_marked (b.host m.slot) i k (m.own m.slot) mine d) in
      rw h (bystander {e = b.host m.slot} f.overtaken (λ j a q. was q) old old.fresh
      (λ x y. lost x y ∙ sym (ap not (not_marked entry₃ 0 k (m.own m.slot) refl
      (λ z. let g = inside_low n k (old.running (omega arith)).member in omega arith))))
      (λ x y o. absurd (apart (lost x y) o))))
      (λ p.
      let off : m.slot ≡ r₃ → ⊥ = eqb-false m.slot r₃ p in
      rw (put_off b.host r₃ entry₃ m.slot off, put_off b.stored r₃ s m.slot off)
      (bystander {e = b.host m.slot} f.overtaken (λ j a q. was q) old old.fresh old.mark (λ x y o. (o, refl, refl))))

  -- the value that it showed in phase 3 was its last
  last-shown : m₃.last ≡ ref.values i
  last-shown = rw e at (inv.shows i)

  -- The slot's records and value: after an operation of the owner, which carries a value v, and after another's.
  slot-owned : i ≡ r₃ → (v : Value) → m₃.pending ≡ v → SlotInv n r₃ entry₃ sent v
  unfolding sent_record
  slot-owned own v carries = record {
    stored_member = λ p. own;
    stored_below = λ j. ≼_refl (m₃.first.matrix j);
    stored_same = refl;
    stored_value = (old₃.committed e).own_value ∙ carries;
  }

  slot-others : (i ≡ r₃ → ⊥) → SlotInv n r₃ entry₃ (b.stored r₃) (ref.values r₃)
  unfolding sent_record
  slot-others other =
      let s = inv.slots r₃ in
      record {
        stored_member = s.stored_member;
        stored_below = λ j. ≼_trans (s.stored_below j) (extension.above j);
        stored_same = s.stored_same ∙ sym (put_off ((b.host r₃).newest.matrix r₃) i (m₃.own r₃) r₃ (λ d. other (sym d)))
            ∙ sym (ap (λ x. x r₃) extension.row);
        stored_value = s.stored_value;
      }

  -- off the slot nothing changes
  slot-off : (s : Rec) (v : Value) (k : ℕ) → (k ≡ r₃ → ⊥)
      → SlotInv n k (put b.host r₃ entry₃ k) (put b.stored r₃ s k) (put ref.values r₃ v k)
  slot-off s v k d = rw (put_off b.host r₃ entry₃ k d, put_off b.stored r₃ s k d, put_off ref.values r₃ v k d) (inv.slots k)

  new-slots : (s : Rec) (v : Value) → SlotInv n r₃ entry₃ s v
      → (k : ℕ) → SlotInv n k (put b.host r₃ entry₃ k) (put b.stored r₃ s k) (put ref.values r₃ v k)
  new-slots s v h k = on (eqb k r₃)
      (λ p. let d : k ≡ r₃ = eqb-true k r₃ p in rw (d, put_at b.host r₃ entry₃, put_at b.stored r₃ s, put_at ref.values r₃ v) h)
      (λ p. slot-off s v k (eqb-false k r₃ p))

  -- what the members show then: the writer its pending value, and everybody else, the reader too, what it showed
  shows-written : (written : eqb m₃.operation write ≡ true) (r : ℕ) → r ≡ i
      → (k : ℕ) → shown (put b.members i (judged m₃ true) k) ≡ put ref.values r (ref.members i).value k
  unfolding judged
  shows-written written r own = rw own
      (put_both (λ k m v. shown m ≡ v) b.members ref.values i (judged m₃ true) (ref.members i).value
      (rw written (old₃.value (eqb-true m₃.operation write written))) (λ k d. inv.shows k))

  shows-read : eqb m₃.operation write ≡ false → (k : ℕ) → shown (put b.members i (judged m₃ true) k) ≡ ref.values k
  unfolding judged
  shows-read reads = put_all (λ k m. shown m ≡ ref.values k) b.members i (judged m₃ true) (rw reads last-shown) (λ k d. inv.shows k)

  -- the board then, where the slot's stored record is s
  abbrev left₃ : Rec → Board
  left₃ s = record { members = put b.members i (judged m₃ true); host = put b.host r₃ entry₃; stored = put b.stored r₃ s }

  -- all of it, for whatever record the slot then has, and whatever values the reference
  accepted-keeps : (s : Rec) (values : ℕ → Value) (h : List Operation)
      → ((k : ℕ) → SlotInv n k (put b.host r₃ entry₃ k) (put b.stored r₃ s k) (values k))
      → ((k : ℕ) → shown (put b.members i (judged m₃ true) k) ≡ values k)
      → Inv n (left₃ s)
      (record { values = values; members = put ref.members i (ref_accepted (ref.members i) (ref.values r₃)); history = h })
  unfolding judged
  accepted-keeps s values h slots shows = record {
    P = Q₃;
    chain = new-chain;
    top = new-top;
    newest = new-newest;
    slots = slots;
    counts = new-counts;
    shows = shows;
    members = put_both
        (λ k m f. MemberInv Q₃ n k m f (put b.host r₃ entry₃ m.slot) (put b.stored r₃ s m.slot))
        b.members ref.members i (judged m₃ true) (ref_accepted (ref.members i) (ref.values r₃))
        (accept-self (ref.values r₃) refl _ _) (accept-other s);
  }

  -- the reference's slot and type are the member's
  ref-accept : (written : Bool) → eqb m₃.operation write ≡ written
      → ref_accept ref i ≡ record {
        values = cond written (put ref.values r₃ (ref.members i).value) ref.values;
        members = put ref.members i (ref_accepted (ref.members i) (ref.values r₃));
        history = operation_of i (ref.members i) ∷ ref.history;
      }
  unfolding ref_accept
  ref-accept written p =
      let slot : (ref.members i).slot ≡ r₃ = sym old₃.slot in
      let op : eqb (ref.members i).operation write ≡ written = ap (λ t. eqb t write) (sym old₃.operation) ∙ p in
      λ t. record {
        values = cond (op t) (put ref.values (slot t) (ref.members i).value) ref.values;
        members = put ref.members i (ref_accepted (ref.members i) (ref.values (slot t)));
        history = operation_of i (ref.members i) ∷ ref.history;
      }

  abbrev history₃ : List Operation
  history₃ = operation_of i (ref.members i) ∷ ref.history

  -- a write, which is to its own slot and stored
  write_keeps : eqb m₃.operation write ≡ true → Inv n (left₃ sent) (ref_accept ref i)
  write_keeps p =
      let w : m₃.operation ≡ write = eqb-true m₃.operation write p in
      rw (ref-accept true p) (accepted-keeps sent (put ref.values r₃ (ref.members i).value) history₃
      (new-slots sent (ref.members i).value (slot-owned (sym (run₃.writes w)) (ref.members i).value (old₃.value w)))
      (shows-written p r₃ (run₃.writes w)))

  -- a read, which leaves the slot's value, whether or not it is stored
  read_keeps : (s : Rec) → SlotInv n r₃ entry₃ s (ref.values r₃) → eqb m₃.operation write ≡ false → Inv n (left₃ s) (ref_accept ref i)
  read_keeps s slot p = rw (ref-accept false p) (accepted-keeps s ref.values history₃
      (λ k. rw (put_same ref.values r₃) at (new-slots s (ref.values r₃) slot k))
      (shows-read p))

  -- an owner's read carries the value that its slot has
  read-carries : eqb m₃.operation write ≡ false → i ≡ r₃ → m₃.pending ≡ ref.values r₃
  read-carries p own = run₃.reads (eqb-false m₃.operation write p) ∙ last-shown ∙ ap ref.values own

  pub accept_keeps : Inv n (commit_taken b i) (ref_accept ref i)
  unfolding commit_taken entry_after stored_after sent_record
  accept_keeps = rw won-commit (on (eqb m₃.operation write)
      (λ p. rw (owned sent (sym (run₃.writes (eqb-true m₃.operation write p)))) (write_keeps p))
      (λ p. on (eqb i r₃)
      (λ o. let own = eqb-true i r₃ o in
      rw (owned sent own) (read_keeps sent (slot-owned own (ref.values r₃) (read-carries p own)) p))
      (λ o. let other = eqb-false i r₃ o in rw (not_owned sent other) (read_keeps (b.stored r₃) (slot-others other) p))))
