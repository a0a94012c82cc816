-- An operation's ordinal, laws of the count that it is: one more at a begin by the member that was answered 0, the same at any other
-- step. So two operations of one member with one ordinal are one begin.
use Prim.Native.Nat.{ℕ, zero, suc, ◌+◌, ◌-◌, ◌≤◌, ◌<◌}
use mathlib.Core.Path.{◌≡◌, refl, sym, ◌∙◌}
use mathlib.Core.Bool.{true, false, cond, and-true}
use mathlib.Core.Option.{Option, none, some}
use native.Mathlib.Numerals.{add-one}
use native.Mathlib.Omega.{arith}
use lib.Dec.{eqb, ltb}
use borrow.Author.Tests.{eq-eqb, eqb-false, ltb-true, ltb-false}
use Rattle.lists.proofs.Functions.{on, fails}
use Rattle.model.specs.Records.{Value}
use Rattle.model.specs.Runs.{Call, begin, deliver, crash, Seen, Step, step}
use Rattle.model.specs.Reference.{Operation}
use Rattle.model.specs.History.{Op}
use Rattle.model.specs.Positions.{IsBegin, IsDeliver, began_by, begun_count, Decided}

-- A member's count of begins: one more at a begin by it that was answered 0, and the same at any other step.

pub count_next : (look : ℕ → Option Step) (i k : ℕ)
    → begun_count look i (k + 1) ≡ begun_count look i k + cond (began_by i (look (k + 1))) 1 0
unfolding begun_count
count_next look i k = rw add-one

pub count_same : (look : ℕ → Option Step) (i k : ℕ) → began_by i (look (k + 1)) ≡ false → begun_count look i (k + 1) ≡ begun_count look i k
count_same look i k e = rw (count_next look i k, e) (omega arith)

pub begin_counts : (o : Operation) (x : Option Step) → IsBegin o x → (k : ℕ) → began_by k x ≡ eqb o.member k
unfolding began_by
begin_counts o none b k = absurd b
begin_counts o (some (step (begin i r t v) s)) b k = rw (b.1, eq-eqb s.answer 0 b.0) (and-true (eqb i k))
begin_counts o (some (step (deliver i) s)) b k = absurd b
begin_counts o (some (step (crash i) s)) b k = absurd b

pub deliver_counts : (i p : ℕ) (v : Option Value) (x : Option Step) → IsDeliver i p v x → (k : ℕ) → began_by k x ≡ false
unfolding began_by
deliver_counts i p v none d k = absurd d
deliver_counts i p v (some (step (begin j r t w) s)) d k = absurd d
deliver_counts i p v (some (step (deliver j) s)) d k = refl
deliver_counts i p v (some (step (crash j) s)) d k = absurd d

pub refused_counts : (call : Call) (s : Seen) → eqb s.answer 0 ≡ false → (k : ℕ) → began_by k (some (step call s)) ≡ false
unfolding began_by
refused_counts (begin i r t v) s e k = fails (eqb i k) e
refused_counts (deliver i) s e k = refl
refused_counts (crash i) s e k = refl

pub refused_delivers : (call : Call) (s : Seen) → eqb s.answer 0 ≡ false → (i p : ℕ) (v : Option Value)
    → IsDeliver i p v (some (step call s)) → ⊥
refused_delivers (begin j r t w) s e i p v d = d
refused_delivers (deliver j) s e i p v d = eqb-false s.answer 0 e d.1
refused_delivers (crash j) s e i p v d = d

-- One begin for one ordinal.

module _ (look : ℕ → Option Step) (i : ℕ) where
  count-grows : (a d b : ℕ) → b ≡ a + d → begun_count look i a ≤ begun_count look i b
  count-grows a zero b e = let same : b ≡ a = omega arith in rw same (omega arith)
  count-grows a (suc d) b e =
      let next : b ≡ a + d + 1 = omega arith in
      rw (next, count_next look i (a + d)) (omega (arith, count-grows a d (a + d) refl))

  -- a begin counts itself and what is before it
  begin-later : (a b : ℕ) → a < b → began_by i (look b) ≡ true → begun_count look i a < begun_count look i b
  begin-later a b h began =
      let next : b - 1 + 1 ≡ b = omega arith in
      let last : begun_count look i b ≡ begun_count look i (b - 1) + 1 =
      rw (next, began) at (count_next look i (b - 1)) in
      omega (arith, last, count-grows a (b - 1 - a) (b - 1) (omega arith))

-- the begin of an operation is a begin by its member
own_begin : {look : ℕ → Option Step} (o : Op) → Decided look o → began_by o.given.member (look o.begin_at) ≡ true
own_begin {look} o d =
    let i = o.given.member in
    begin_counts o.given (look o.begin_at) d.began i ∙ eq-eqb i i refl

later_ordinal : {look : ℕ → Option Step} (o p : Op) → Decided look o → Decided look p → o.given.member ≡ p.given.member
    → o.begin_at < p.begin_at → o.ordinal < p.ordinal
later_ordinal {look} o p d e m l =
    let more = begin-later look p.given.member o.begin_at p.begin_at l (own_begin p e) in
    let counted : o.ordinal ≡ begun_count look p.given.member o.begin_at = rw (← m) d.ordinal in
    omega (arith, more, counted, e.ordinal)

pub same_begin : {look : ℕ → Option Step} (o p : Op) → Decided look o → Decided look p → o.given.member ≡ p.given.member
    → o.ordinal ≡ p.ordinal → o.begin_at ≡ p.begin_at
same_begin o p d e m same = on (ltb o.begin_at p.begin_at)
    (λ l. absurd (omega (arith, later_ordinal o p d e m (ltb-true o.begin_at p.begin_at l))))
    (λ l. on (ltb p.begin_at o.begin_at)
    (λ r. absurd (omega (arith, later_ordinal p o e d (sym m) (ltb-true p.begin_at o.begin_at r))))
    (λ r. omega (arith, ltb-false o.begin_at p.begin_at l, ltb-false p.begin_at o.begin_at r)))
