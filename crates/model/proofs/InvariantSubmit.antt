-- A submit taken keeps the invariant: of the member itself, of every other one (`bystander`), and of the slot.
use Prim.Native.Nat.{ℕ, ◌≤◌}
use native.Mathlib.Omega.{arith}
use mathlib.Core.Path.{◌≡◌, refl, sym, ap, ◌∙◌}
use mathlib.Core.Bool.{Bool, true, false, cond, not, ◌||◌}
use lib.Dec.{eqb}
use borrow.Author.Tests.{eqb-true, eqb-false, eq-eqb, ne_eqb}
use Rattle.lists.specs.Functions.{put}
use Rattle.lists.proofs.Functions.{on, both, apart, put_at, put_off, put_all, put_both}
use Rattle.model.specs.Rows.{Row}
use Rattle.model.specs.Records.{Rec}
use Rattle.model.specs.Member.{Member, answered}
use Rattle.model.specs.Host.{Entry, submitted}
use Rattle.model.specs.Board.{Board, submit_taken}
use Rattle.model.specs.Reference.{RefMember, Reference, changed, ref_moved, ref_overtaken, submitted_on, ref_submit}
use Rattle.model.proofs.InvariantMember.{stepped}
use Rattle.model.proofs.Invariant.{Tops, count_on, shown, marked, MemberInv, Inv}

-- Another member while a slot's entry changes: only whether its own operation is overtaken may have changed. `over` is what the
-- reference says of that now.
pub bystander : {P Q : Tops} {n k : ℕ} {m : Member} {f : RefMember} {e e' : Entry} {s s' : Rec} (over : Bool)
    → ((j : ℕ) (a : Row) → P j a → Q j a)
    → MemberInv P n k m f e s
    → (m.phase ≡ 1 → over ≡ false)
    → (2 ≤ m.phase → m.phase ≤ 3 → over ≡ not (marked e' k (m.own m.slot)))
    → (2 ≤ m.phase → m.phase ≤ 3 → over ≡ false → (f.overtaken ≡ false) × (e.newest ≡ e'.newest) × (s ≡ s'))
    → MemberInv Q n k m (changed f f.phase f.crashed over f.noted) e' s'
bystander {k = k} {m = m} {f = f} {e = e} {e' = e'} {s = s} {s' = s'} over grow old fresh mark same = record {
  phase = old.phase;
  crashed = old.crashed;
  own = old.own;
  slot = old.slot;
  operation = old.operation;
  value = old.value;
  fine = old.fine;
  order = old.order;
  known_tops = λ j. grow j _ (old.known_tops j);
  running = old.running;
  fresh = fresh;
  mark = mark;
  replied = λ p. let r = old.replied p in record {
    first_tops = λ j. grow j _ (r.first_tops j);
    known_below = r.known_below;
    own_entry = r.own_entry;
    second_member = r.second_member;
    second_below = r.second_below;
    second_same = r.second_same;
  };
  current = λ p o. let t = same (omega arith) (omega arith) o in let c = old.current p t.0 in record {
    is_newest = c.is_newest ∙ t.1;
    is_stored = c.is_stored ∙ t.2;
  };
  committed = λ p. let c = old.committed p in record { other_tops = λ j d. grow j _ (c.other_tops j d); own_value = c.own_value };
  extends = λ p o. let t = same (omega arith) (omega arith) o in let x = old.extends p t.0 in record {
    above = λ j. rw (← t.1) (x.above j);
    row = x.row ∙ ap (λ c. put (c.matrix m.slot) k (m.own m.slot)) t.1;
    is_stored = x.is_stored ∙ t.2;
  };
  accepted = λ p. let a = old.accepted p in record { all_tops = λ j. grow j _ (a.all_tops j); read_noted = a.read_noted };
}

-- the newest submit is another's
pub not_marked : (e : Entry) (i k count : ℕ) → e.submit_member ≡ i → (k ≡ i → ⊥) → marked e k count ≡ false
not_marked e i k count p d = rw (ne_eqb e.submit_member k (λ q. d (sym q ∙ p)))

-- A submit taken.

between : (p : ℕ) → (eqb p 2 || eqb p 3) ≡ true → (2 ≤ p) × (p ≤ 3)
between p h = on (eqb p 2)
    (λ e. let d : p ≡ 2 = eqb-true p 2 e in (omega arith, omega arith))
    (λ e. let d : p ≡ 3 = eqb-true p 3 (rw e at h) in (omega arith, omega arith))

is_between : (p : ℕ) → 2 ≤ p → p ≤ 3 → (eqb p 2 || eqb p 3) ≡ true
is_between p g h = on (eqb p 2) (λ e. rw e) (λ e. let d = eqb-false p 2 e in rw (e, eq-eqb p 3 (omega arith)))

module _ {n : ℕ} {b : Board} {ref : Reference} (inv : Inv n b ref) (i : ℕ) (e : (b.members i).phase ≡ 1) where
  abbrev m₁ : Member
  m₁ = b.members i

  abbrev r₁ : ℕ
  r₁ = (b.members i).slot

  abbrev entry₁ : Entry
  entry₁ = submitted (b.host r₁) i (m₁.own r₁)

  entry-taken : (submit_taken b i).host r₁ ≡ entry₁
  unfolding submit_taken
  entry-taken = put_at b.host r₁ entry₁

  now-marked : marked entry₁ i (m₁.own r₁) ≡ true
  unfolding submitted
  now-marked = both (eq-eqb i i refl) (eq-eqb (m₁.own r₁) (m₁.own r₁) refl)

  -- the newest records stay
  newest-kept : (k : ℕ) → ((submit_taken b i).host k).newest ≡ (b.host k).newest
  unfolding submit_taken submitted
  newest-kept = put_all (λ k x. x.newest ≡ (b.host k).newest) b.host r₁ entry₁ refl (λ k d. refl)

  submit-self : MemberInv inv.P n i (answered m₁ (b.host r₁).newest (b.stored r₁)) (ref_moved (ref.members i) 2) entry₁ (b.stored r₁)
  unfolding answered ref_moved submitted
  submit-self =
      let old = inv.members i in
      let run = old.running (omega arith) in
      let slot = inv.slots m₁.slot in
      stepped 2 m₁.halt (b.host r₁).newest (b.stored r₁) (ref.members i).noted entry₁ (b.stored r₁) (λ j a p. p) old
      (omega arith) (omega arith) (omega arith)
      (λ q. old.fresh e ∙ sym (ap not now-marked))
      (λ q. record {
        first_tops = inv.newest r₁;
        known_below = inv.top r₁ (m₁.known r₁) (old.known_tops r₁);
        own_entry = inv.counts r₁ i ∙ rw e refl;
        second_member = slot.stored_member run.slot_in;
        second_below = slot.stored_below;
        second_same = slot.stored_same;
      })
      (λ q o. record { is_newest = refl; is_stored = refl })
      (λ q. absurd (omega arith))
      (λ q. absurd (omega arith))
      (λ q. absurd (omega arith))

  submit-other : (k : ℕ) → (k ≡ i → ⊥)
      → MemberInv inv.P n k (b.members k)
      (cond (submitted_on (ref.members i).slot (ref.members k)) (ref_overtaken (ref.members k)) (ref.members k))
      (put b.host r₁ entry₁ (b.members k).slot) (b.stored (b.members k).slot)
  unfolding submitted_on ref_overtaken submitted
  submit-other k d =
      let old = inv.members k in
      let f = ref.members k in
      let m = b.members k in
      let q = (ref.members i).slot in
      let qr : r₁ ≡ q = (inv.members i).slot in
      let sf : m.slot ≡ f.slot = old.slot in
      let pf : m.phase ≡ f.phase = old.phase in
      on (eqb f.slot q)
      (λ s.
      let at : put b.host r₁ entry₁ m.slot ≡ entry₁ =
      ap (put b.host r₁ entry₁) (sf ∙ eqb-true f.slot q s ∙ sym qr) ∙ put_at b.host r₁ entry₁ in
      on (eqb f.phase 2 || eqb f.phase 3)
      (λ t. rw (at, s, t) (bystander {e = b.host m.slot} true (λ j a p. p) old
      (λ p. let x = between f.phase t in absurd (omega arith))
      (λ g h. sym (ap not (not_marked entry₁ i k (m.own m.slot) refl d)))
      (λ g h o. absurd (apart refl o))))
      (λ t. let never : 2 ≤ m.phase → m.phase ≤ 3 → ⊥ = λ g h. apart (is_between f.phase (omega arith) (omega arith)) t in
      rw (at, s, t) (bystander {e = b.host m.slot} f.overtaken (λ j a p. p) old old.fresh
      (λ g h. absurd (never g h)) (λ g h. absurd (never g h)))))
      (λ s. let off : m.slot ≡ r₁ → ⊥ = λ x. eqb-false f.slot q s (sym sf ∙ x ∙ qr) in
      rw (s, put_off b.host r₁ entry₁ m.slot off) old)

  pub submit_keeps : Inv n (submit_taken b i) (ref_submit ref i)
  unfolding submit_taken ref_submit submitted answered
  submit_keeps = record {
    P = inv.P;
    chain = inv.chain;
    top = λ k a p. rw (newest-kept k) (inv.top k a p);
    newest = λ k j. rw (newest-kept k) (inv.newest k j);
    slots = λ k. let s = inv.slots k in let h = newest-kept k in record {
      stored_member = s.stored_member;
      stored_below = λ j. rw h (s.stored_below j);
      stored_same = rw h s.stored_same;
      stored_value = s.stored_value;
    };
    counts = λ k j. rw (newest-kept k) (put_all (λ j m. (b.host k).newest.matrix k j ≡ count_on m k) b.members i
        (answered m₁ (b.host r₁).newest (b.stored r₁)) (inv.counts k i ∙ rw e refl) (λ j d. inv.counts k j) j);
    shows = put_all (λ j m. shown m ≡ ref.values j) b.members i (answered m₁ (b.host r₁).newest (b.stored r₁))
        (rw e at (inv.shows i)) (λ j d. inv.shows j);
    members = put_both
        (λ k m f. MemberInv inv.P n k m f (put b.host r₁ entry₁ m.slot) (b.stored m.slot))
        b.members
        (λ k. cond (submitted_on (ref.members i).slot (ref.members k)) (ref_overtaken (ref.members k)) (ref.members k))
        i (answered m₁ (b.host r₁).newest (b.stored r₁)) (ref_moved (ref.members i) 2)
        (rw entry-taken submit-self) submit-other;
  }
