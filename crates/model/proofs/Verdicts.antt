-- A deliver at which the host took a submit or a commit, and what the watcher has of it: a submit, or an operation with its verdict. From
-- the places that all steps of a run have in its watch.
use Prim.Native.Nat.{ℕ, ◌+◌, ◌-◌}
use mathlib.Core.Path.{◌≡◌, refl, sym, ap, subst, ◌∙◌}
use mathlib.Core.Bool.{Bool, true, false, cond}
use mathlib.Core.List.{List, [], ◌∷◌}
use mathlib.Core.Logic.{◌⊎◌, ⊎_elim}
use mathlib.Core.Option.{Option, none, some}
use native.Mathlib.Omega.{arith}
use lib.Dec.{eqb}
use borrow.Author.Tests.{eqb-true, eqb-false}
use Rattle.lists.specs.Every.{Every, Some}
use Rattle.lists.proofs.Functions.{on}
use Rattle.model.specs.Records.{Value}
use Rattle.model.specs.Runs.{Call, begin, deliver, crash, Seen, Step, step}
use Rattle.model.specs.History.{Op, Watch}
use Rattle.model.specs.Positions.{step_at, IsDeliver, begun_count, Decided, Placed, AllPlaced}
use Rattle.model.proofs.OvertakerMarks.{Judged}

-- one of which P holds, with all that holds of each
pub record OneOf {A : Type 0} (P : A → Type 0) (l : List A) : Type 1 where
  pub one : A
  pub holds : P one
  pub listed : (Q : A → Type 0) → Every Q l → Q one

pub one_of : {A : Type 0} (P : A → Type 0) (l : List A) → Some P l → OneOf P l
one_of P [] s = absurd s
one_of P (x ∷ l) s = ⊎_elim
    (λ y. record { one = x; holds = y; listed = λ Q h. h.0 })
    (λ y. let o = one_of P l y in record { one = o.one; holds = o.holds; listed = λ Q h. o.listed Q h.1 })
    s

-- A deliver, answered 0, of a run whose steps all have their place.

pub record DeliverPlaced (w : Watch) (at i p : ℕ) : Type 0 where
  pub submit : p ≡ 2 → Some (λ u. (u.member ≡ i) × (u.at ≡ at)) w.submits
  pub verdict : p ≡ 4 ⊎ p ≡ 5 → Some (λ o. (o.given.member ≡ i) × (o.verdict_at ≡ at)) w.decided

placed_here : (w : Watch) (at : ℕ) (call : Call) (s : Seen) → (s.answer ≡ 0 → Placed w at call s) → (i p : ℕ) (v : Option Value)
    → IsDeliver i p v (some (step call s)) → DeliverPlaced w at i p
placed_here w at (begin j r t x) s a i p v d = absurd d
placed_here w at (deliver j) s a i p v d =
    let phase : s.phases j ≡ p = ap s.phases d.0 ∙ d.2 in
    let whose : j ≡ i = d.0 in
    let here = a d.1 in
    record {
      submit = λ e. rw (← whose) (here.1 (phase ∙ e));
      verdict = λ e. rw (← whose) (here.2 (subst (λ q. q ≡ 4 ⊎ q ≡ 5) (sym phase) e));
    }
placed_here w at (crash j) s a i p v d = absurd d

pub no_step : (calls : List Call) (seen : List Seen) → step_at calls seen 0 ≡ none
unfolding step_at
no_step [] seen = refl
no_step (call ∷ calls) [] = refl
no_step (call ∷ calls) (s ∷ seen) = no_step calls seen

deliver_placed : (w : Watch) (from : ℕ) (calls : List Call) (seen : List Seen) → AllPlaced w (from + 1) calls seen → (k i p : ℕ)
    (v : Option Value) → IsDeliver i p v (step_at calls seen k) → DeliverPlaced w (from + k) i p
unfolding step_at
deliver_placed w from [] seen a k i p v d = absurd d
deliver_placed w from (call ∷ calls) [] a k i p v d = absurd d
deliver_placed w from (call ∷ calls) (s ∷ seen) a k i p v d = on (eqb k 1)
    (λ e. let one : k ≡ 1 = eqb-true k 1 e in rw one (placed_here w (from + 1) call s a.0 i p v (rw e at d)))
    (λ e. on (eqb k 0)
    (λ z. let none_left : k - 1 ≡ 0 = (let o = eqb-true k 0 z in omega arith) in
    absurd (subst (IsDeliver i p v) (ap (step_at calls seen) none_left ∙ no_step calls seen) (rw e at d)))
    (λ z. let more : from + 1 + (k - 1) ≡ from + k = (let o = eqb-false k 0 z in omega arith) in
    subst (λ at. DeliverPlaced w at i p) more (deliver_placed w (from + 1) calls seen a.1 (k - 1) i p v (rw e at d))))

-- a step is followed by one phase
same_phase : (x : Option Step) (i p q : ℕ) (v u : Option Value) → IsDeliver i p v x → IsDeliver i q u x → p ≡ q
same_phase none i p q v u d e = absurd d
same_phase (some (step (begin j r t x) s)) i p q v u d e = absurd d
same_phase (some (step (deliver j) s)) i p q v u d e = sym d.2 ∙ e.2
same_phase (some (step (crash j) s)) i p q v u d e = absurd d

pub four_accepts : (a : Bool) → ◌≡◌ {A = ℕ} (cond a 4 5) 4 → a ≡ true
four_accepts true e = refl
four_accepts false e = absurd (omega arith)

pub five_aborts : (a : Bool) → ◌≡◌ {A = ℕ} (cond a 4 5) 5 → a ≡ false
five_aborts true e = absurd (omega arith)
five_aborts false e = refl

-- the operation of member i that was judged at a step, after which its phase was q
pub record JudgedAt (look : ℕ → Option Step) (i at q : ℕ) (o : Op) : Type 0 where
  pub member : o.given.member ≡ i
  pub ordinal : o.ordinal ≡ begun_count look i at
  pub verdict : ◌≡◌ {A = ℕ} (cond o.accepted 4 5) q

module _ (calls : List Call) (seen : List Seen) (w : Watch) (placed : AllPlaced w 1 calls seen) where
  abbrev look : ℕ → Option Step
  look = step_at calls seen

  pub placed_at : (at i p : ℕ) (v : Option Value) → IsDeliver i p v (look at) → DeliverPlaced w at i p
  placed_at at i p v d = subst (λ k. DeliverPlaced w k i p) (omega arith) (deliver_placed w 0 calls seen placed at i p v d)

  pub judged_at : Every (Decided look) w.decided → Every (λ o. Judged look o.given.member o) w.decided
      → (at i q : ℕ) (v : Option Value) → q ≡ 4 ⊎ q ≡ 5 → IsDeliver i q v (look at) → OneOf (JudgedAt look i at q) w.decided
  judged_at decided judged at i q v verdict d =
      let found = one_of (λ o. (o.given.member ≡ i) × (o.verdict_at ≡ at)) w.decided ((placed_at at i q v d).verdict verdict) in
      let o = found.one in
      let whose = found.holds.0 in
      let when = found.holds.1 in
      let phase : ℕ = cond o.accepted 4 5 in
      let there : IsDeliver i phase none (look at) =
      subst (λ m. IsDeliver m phase none (look at)) whose
      (subst (λ v. IsDeliver o.given.member phase none (look v)) when (found.listed (Decided look) decided).judged) in
      let counted : begun_count look i at ≡ o.ordinal =
      subst (λ m. begun_count look m at ≡ o.ordinal) whose
      (subst (λ v. begun_count look o.given.member v ≡ o.ordinal) when
      (found.listed (λ o. Judged look o.given.member o) judged).verdict) in
      record {
        one = o;
        holds = record { member = whose; ordinal = sym counted; verdict = same_phase (look at) i phase q none v there d };
        listed = found.listed;
      }
