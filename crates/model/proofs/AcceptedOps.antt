-- Whether a member's k-th operation was accepted, by the watcher's list and by the steps: the same. And a member has one k-th operation, so
-- that it was accepted or somebody overtook it, and not both.
use Prim.Native.Nat.{ℕ}
use mathlib.Core.Path.{◌≡◌, refl, sym, subst, ◌∙◌}
use mathlib.Core.Bool.{Bool, true, false, cond, ◌&&◌}
use mathlib.Core.List.{List, [], ◌∷◌}
use mathlib.Core.Logic.{inl, inr}
use mathlib.Core.Option.{Option, none, some}
use native.Mathlib.Omega.{arith}
use lib.Dec.{eqb}
use borrow.Author.Tests.{eq-eqb, eqb-true}
use Rattle.lists.specs.Every.{Every, Some}
use Rattle.lists.proofs.Functions.{on, both, first, second, neither, apart}
use Rattle.model.specs.Kinds.{Kind}
use Rattle.model.specs.Board.{Board}
use Rattle.model.specs.Runs.{Call, Seen, Step}
use Rattle.model.specs.History.{Op, Submit, Watch, watched}
use Rattle.model.specs.Positions.{step_at, IsDeliver, begun_count, Decided, After, InTurn, AllPlaced}
use Rattle.model.specs.Demand3.{Demand3}
use Rattle.model.specs.Overtaker.{aborted_op, overtaking, overtaker_in}
use Rattle.model.specs.Cause.{is_accepted, has_accepted}
use Rattle.model.specs.CauseClaims.{Accepted}
use Rattle.model.proofs.HistoryLists.{every}
use Rattle.model.proofs.Ordinals.{same_begin}
use Rattle.model.proofs.OvertakerMarks.{Judged}
use Rattle.model.proofs.Verdicts.{OneOf, one_of, four_accepts, judged_at}
use Rattle.model.proofs.Overtaker.{op_found, op_none, Aborts, aborted_contested, run_marked}

-- In a list of operations.
module _ (i k : ℕ) where
  abbrev AcceptedOp : Op → Type 0
  AcceptedOp o = (o.given.member ≡ i) × (o.ordinal ≡ k) × (o.accepted ≡ true)

  is-accepted : (o : Op) → is_accepted i k o ≡ true → AcceptedOp o
  unfolding is_accepted
  is-accepted o f =
      let rest = second (eqb o.given.member i) (eqb o.ordinal k && o.accepted) f in (
        eqb-true o.given.member i (first (eqb o.given.member i) (eqb o.ordinal k && o.accepted) f),
        eqb-true o.ordinal k (first (eqb o.ordinal k) o.accepted rest),
        second (eqb o.ordinal k) o.accepted rest,
      )

  so-accepted : (o : Op) → o.given.member ≡ i → o.ordinal ≡ k → o.accepted ≡ true → is_accepted i k o ≡ true
  unfolding is_accepted
  so-accepted o m n a = both (eq-eqb o.given.member i m) (both (eq-eqb o.ordinal k n) a)

  has_some : (ops : List Op) → has_accepted i k ops ≡ true → Some AcceptedOp ops
  unfolding has_accepted
  has_some [] e = absurd (apart e refl)
  has_some (o ∷ ops) e = on (is_accepted i k o) (λ f. inl (is-accepted o f)) (λ f. inr (has_some ops (rw f at e)))

  has-none : (ops : List Op) → has_accepted i k ops ≡ false → Every (λ o. is_accepted i k o ≡ false) ops
  unfolding has_accepted
  has-none [] e = tt
  has-none (o ∷ ops) e =
      let n = neither (is_accepted i k o) (has_accepted i k ops) e in
      (n.0, has-none ops n.1)

  -- one of the list is such
  has_one : (ops : List Op) → OneOf AcceptedOp ops → has_accepted i k ops ≡ true
  has_one ops x = on (has_accepted i k ops) (λ e. e)
      (λ e. let o = x.holds in
      absurd (apart (so-accepted x.one o.0 o.1 o.2) (x.listed (λ o. is_accepted i k o ≡ false) (has-none ops e))))

-- A member's operations have different ordinals.

abbrev OneVerdict : Op → Op → Type 0
OneVerdict o p = o.given.member ≡ p.given.member → o.ordinal ≡ p.ordinal → o.accepted ≡ p.accepted

and_every : {A : Type 0} (P Q : A → Type 0) (l : List A) → Every P l → Every Q l → Every (λ x. P x × Q x) l
and_every P Q [] a b = tt
and_every P Q (x ∷ l) a b = ((a.0, b.0), and_every P Q l a.1 b.1)

module _ (look : ℕ → Option Step) where
  -- o came after p
  ordinals-apart : (o p : Op) → Decided look o → Decided look p → After o p → o.given.member ≡ p.given.member
      → o.ordinal ≡ p.ordinal → ⊥
  ordinals-apart o p d e after m n =
      let begin = same_begin o p d e m n in
      let ended = after.1 (sym m) in
      omega (arith, begin, ended.0, ended.1, e.in_order.1, e.in_order.2, e.last ended.0)

  newest-apart : (o : Op) → Decided look o → (older : List Op) → Every (After o) older → Every (Decided look) older
      → Every (OneVerdict o) older × Every (λ p. OneVerdict p o) older
  newest-apart o d [] a e = (tt, tt)
  newest-apart o d (p ∷ older) a e =
      let rest = newest-apart o d older a.1 e.1 in
      let never = ordinals-apart o p d e.0 a.0 in (
        ((λ m n. absurd (never m n)), rest.0),
        ((λ m n. absurd (never (sym m) (sym n))), rest.1),
      )

  one-verdict : (ops : List Op) → Every (Decided look) ops → InTurn ops → Every (λ o. Every (OneVerdict o) ops) ops
  one-verdict [] d t = tt
  one-verdict (o ∷ older) d t =
      let new = newest-apart o d.0 older t.0 d.1 in (
        ((λ m n. refl), new.0),
        and_every (λ p. OneVerdict p o) (λ p. Every (OneVerdict p) older) older new.1 (one-verdict older d.1 t.1),
      )

-- The watch of a run.

-- what is known of its decided operations
pub record Verdicts (calls : List Call) (seen : List Seen) (w : Watch) : Type 0 where
  pub decided : Every (Decided (step_at calls seen)) w.decided
  pub judged : Every (λ o. Judged (step_at calls seen) o.given.member o) w.decided
  pub in_turn : InTurn w.decided
  pub aborts : Aborts w
  pub placed : AllPlaced w 1 calls seen

pub run_verdicts : (kind : Kind) (n : ℕ) (calls : List Call) (boards : List Board) (seen : List Seen) → Demand3 kind n calls boards seen
    → Verdicts calls seen (watched calls seen)
run_verdicts kind n calls boards seen d = record {
  decided = d.positions.decided;
  judged = (run_marked kind n calls boards seen d).kept.decided;
  in_turn = d.positions.in_turn;
  aborts = d.aborts;
  placed = d.positions.complete;
}

-- the operation is accepted, and nobody overtook it; or somebody did
pub data Told (accepted : Bool) (overtaker : Option Submit) : Type 0 where
  accepts : accepted ≡ true → overtaker ≡ none → Told accepted overtaker
  aborts : accepted ≡ false → (s : Submit) → overtaker ≡ some s → Told accepted overtaker

module _ (calls : List Call) (seen : List Seen) (w : Watch) (v : Verdicts calls seen w) (i k : ℕ) where
  abbrev look : ℕ → Option Step
  look = step_at calls seen

  -- By the list, and by the steps.

  pub accepted_steps : has_accepted i k w.decided ≡ true → Accepted look i k
  accepted_steps e =
      let found = one_of (AcceptedOp i k) w.decided (has_some i k w.decided e) in
      let o = found.one in
      let whose = found.holds.0 in
      let d = found.listed (Decided look) v.decided in
      let j = found.listed (λ o. Judged look o.given.member o) v.judged in
      record {
        verdict_at = o.verdict_at;
        verdict = subst (λ m. IsDeliver m 4 none (look o.verdict_at)) whose
            (subst (λ a. IsDeliver o.given.member (cond a 4 5) none (look o.verdict_at)) found.holds.2 d.judged);
        its_verdict = subst (λ m. begun_count look m o.verdict_at ≡ o.ordinal) whose j.verdict ∙ found.holds.1;
      }

  pub steps_accepted : Accepted look i k → has_accepted i k w.decided ≡ true
  steps_accepted a =
      let found = judged_at calls seen w v.placed v.decided v.judged a.verdict_at i 4 none (inl refl) a.verdict in
      let o = found.holds in
      has_one i k w.decided (record {
        one = found.one;
        holds = (o.member, o.ordinal ∙ a.its_verdict, four_accepts found.one.accepted o.verdict);
        listed = found.listed;
      })

  -- The operation has reached its verdict.
  module _ (x : OneOf (λ o. (o.given.member ≡ i) × (o.ordinal ≡ k)) w.decided) where
    abbrev o : Op
    o = x.one

    -- any operation that was found is this one
    same-verdict : Every (λ p. p.given.member ≡ i → p.ordinal ≡ k → p.accepted ≡ o.accepted) w.decided
    same-verdict =
        let all = x.listed (λ o. Every (OneVerdict o) w.decided) (one-verdict look w.decided v.decided v.in_turn) in
        every (λ p h m n. sym (h (x.holds.0 ∙ sym m) (x.holds.1 ∙ sym n))) w.decided all

    overtaken : (y : Option Op) → aborted_op i k w.decided ≡ y → (z : Option Submit) → overtaking y w.submits ≡ z
        → o.accepted ≡ false → Told (has_accepted i k w.decided) z
    unfolding overtaking
    overtaken none e z f lost =
        absurd (x.listed (λ o. o.given.member ≡ i → o.ordinal ≡ k → o.accepted ≡ false → ⊥) (op_none i k w.decided e)
        x.holds.0 x.holds.1 lost)
    overtaken (some p) e none f lost = absurd (aborted_contested w v.aborts (op_found i k w.decided p e) f)
    overtaken (some p) e (some s) f lost = aborts
        (on (has_accepted i k w.decided)
        (λ t. let found = one_of (AcceptedOp i k) w.decided (has_some i k w.decided t) in
        let h = found.holds in
        let same = found.listed (λ p. p.given.member ≡ i → p.ordinal ≡ k → p.accepted ≡ o.accepted) same-verdict h.0 h.1 in
        absurd (apart (sym same ∙ h.2) lost))
        (λ t. t))
        s refl

    not-overtaken : (y : Option Op) → aborted_op i k w.decided ≡ y → o.accepted ≡ true
        → Told (has_accepted i k w.decided) (overtaking y w.submits)
    unfolding overtaking
    not-overtaken none e won =
        accepts (has_one i k w.decided (record { one = o; holds = (x.holds.0, x.holds.1, won); listed = x.listed })) refl
    not-overtaken (some p) e won =
        let f = op_found i k w.decided p e in
        let same = f.listed (λ p. p.given.member ≡ i → p.ordinal ≡ k → p.accepted ≡ o.accepted) same-verdict
        f.member f.ordinal in
        absurd (apart won (sym same ∙ f.aborted))

    pub verdict-told : Told (has_accepted i k w.decided) (overtaker_in w i k)
    unfolding overtaker_in
    verdict-told = on o.accepted
        (not-overtaken (aborted_op i k w.decided) refl)
        (overtaken (aborted_op i k w.decided) refl (overtaking (aborted_op i k w.decided) w.submits) refl)
