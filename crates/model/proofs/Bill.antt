-- The tariff's sentences hold of every list of accepted operations; and the accepted operations of a run, in order of acceptance, are the
-- reference's history turned round. Laws of what one operation more costs, by what `of_member`, `drop` and `prices` make of it.
use Prim.Native.Nat.{ℕ, ◌+◌, ◌*◌, ◌≤◌, ◌<◌}
use mathlib.Core.Path.{◌≡◌, refl, ap, ◌∙◌}
use mathlib.Core.Bool.{cond}
use mathlib.Core.List.{List, [], ◌∷◌, ◌++◌, reverse, append-nil}
use native.Mathlib.Omega.{arith}
use lib.Dec.{eqb, ltb}
use lib.ListN.{length, drop, drop_of_length-le}
use lib.Seq.{drop-append-le}
use borrow.Author.Tests.{eq-eqb, ne_eqb, ltb-true, ltb-false}
use Rattle.lists.specs.Pieces.{laid}
use Rattle.lists.proofs.Functions.{on}
use Rattle.model.specs.Kinds.{Kind}
use Rattle.model.specs.Board.{Board}
use Rattle.model.specs.Runs.{Call, Seen}
use Rattle.model.specs.Reference.{Operation, ref_opened, ref_left}
use Rattle.model.specs.Demand3.{Demand3}
use Rattle.model.specs.Script.{digits, digits_within, or_dash}
use Rattle.model.specs.Bill.{of_member, price, prices, free_operations, tenths, rounded_up, bill, total, accepted_in_order}
use Rattle.model.specs.Bill.{bill_line, printed_bill}
use Rattle.model.specs.BillClaims.{accepted_by, BilledAsAsked, times, sample_accepted, SampleBilled}

-- Lists of operations, one behind the other.

prices_append : (l m : List Operation) → prices (l ++ m) ≡ prices l + prices m
unfolding prices
prices_append [] m = omega arith
prices_append (o ∷ l) m = let rest = prices_append l m in omega arith

module _ (i : ℕ) where
  pub of_length : (l : List Operation) → length (of_member i l) ≡ accepted_by i l
  unfolding of_member accepted_by
  of_length [] = refl
  of_length (o ∷ l) = on (eqb o.member i)
      (λ e. rw e (let rest = of_length l in omega arith))
      (λ e. rw e (let rest = of_length l in omega arith))

  of-append : (l m : List Operation) → of_member i (l ++ m) ≡ of_member i l ++ of_member i m
  unfolding of_member
  of-append [] m = refl
  of-append (o ∷ l) m = on (eqb o.member i)
      (λ e. rw e (ap (λ t. o ∷ t) (of-append l m)))
      (λ e. rw e (of-append l m))

  pub accepted_append : (l m : List Operation) → accepted_by i (l ++ m) ≡ accepted_by i l + accepted_by i m
  unfolding accepted_by
  accepted_append [] m = omega arith
  accepted_append (o ∷ l) m = let rest = accepted_append l m in omega arith

  of-own : (o : Operation) → o.member ≡ i → of_member i (o ∷ []) ≡ o ∷ []
  unfolding of_member
  of-own o e = rw (eq-eqb o.member i e)

  of-another : (o : Operation) → (o.member ≡ i → ⊥) → of_member i (o ∷ []) ≡ []
  unfolding of_member
  of-another o d = rw (ne_eqb o.member i d)

  pub accepted_own : (o : Operation) → o.member ≡ i → accepted_by i (o ∷ []) ≡ 1
  unfolding accepted_by
  accepted_own o e = rw (eq-eqb o.member i e)

  pub accepted_another : (o : Operation) → (o.member ≡ i → ⊥) → accepted_by i (o ∷ []) ≡ 0
  unfolding accepted_by
  accepted_another o d = rw (ne_eqb o.member i d)

  -- What is owed.

  pub tenths_free : (ops : List Operation) → accepted_by i ops ≤ free_operations → tenths i ops ≡ 0
  unfolding tenths prices
  tenths_free ops h =
      let few : length (of_member i ops) ≤ free_operations = omega (arith, of_length ops) in
      ap prices (drop_of_length-le (of_member i ops) few)

  -- one more of its own: at its price, or free

  charged : (ops : List Operation) (o : Operation) → o.member ≡ i → free_operations ≤ accepted_by i ops
      → tenths i (ops ++ o ∷ []) ≡ tenths i ops + price o.operation
  unfolding tenths prices
  charged ops o e many =
      ap (λ l. prices (drop free_operations l)) (of-append ops (o ∷ []) ∙ ap (λ l. of_member i ops ++ l) (of-own o e))
      ∙ ap prices (drop-append-le free_operations (of_member i ops) (o ∷ []) (let l = of_length ops in omega arith))
      ∙ prices_append (drop free_operations (of_member i ops)) (o ∷ [])
      ∙ omega arith

  pub tenths_own : (ops : List Operation) (o : Operation) → o.member ≡ i
      → tenths i (ops ++ o ∷ []) ≡ tenths i ops + cond (ltb (accepted_by i ops) free_operations) 0 (price o.operation)
  tenths_own ops o e = on (ltb (accepted_by i ops) free_operations)
      (λ h. let few : accepted_by i ops < free_operations = ltb-true (accepted_by i ops) free_operations h in
      let one = accepted_append ops (o ∷ []) in
      let own = accepted_own o e in
      let before = tenths_free ops (omega arith) in
      let after = tenths_free (ops ++ o ∷ []) (omega arith) in
      rw h (omega arith))
      (λ h. rw h (charged ops o e (ltb-false (accepted_by i ops) free_operations h)))

  pub tenths_another : (ops : List Operation) (o : Operation) → (o.member ≡ i → ⊥) → tenths i (ops ++ o ∷ []) ≡ tenths i ops
  unfolding tenths
  tenths_another ops o d =
      ap (λ l. prices (drop free_operations l))
      (of-append ops (o ∷ []) ∙ ap (λ l. of_member i ops ++ l) (of-another o d) ∙ append-nil (of_member i ops))

pub rounded_up_lem : (t : ℕ) → (t ≤ 10 * rounded_up t) × (10 * rounded_up t < t + 10)
unfolding rounded_up
rounded_up_lem t = omega arith

pub billed_as_asked : (i : ℕ) (ops : List Operation) (o : Operation) → BilledAsAsked i ops o
unfolding bill price
billed_as_asked i ops o = record {
  free = tenths_free i ops;
  write = λ e many t. charged i ops o e many ∙ ap (λ p. tenths i ops + p) (rw t);
  read = λ e many t. charged i ops o e many ∙ ap (λ p. tenths i ops + p) (rw t);
  another = tenths_another i ops o;
  rounded = rounded_up_lem (tenths i ops);
}

-- The accepted operations of a run, of which demand 3 holds, are the reference's.
pub accepted_history : (kind : Kind) (n : ℕ) (calls : List Call) (boards : List Board) (seen : List Seen) → Demand3 kind n calls boards seen
    → accepted_in_order calls seen ≡ reverse (ref_left kind n ref_opened calls).history
unfolding accepted_in_order
accepted_history kind n calls boards seen d = ap reverse d.history

-- The bill by hand: both sides are computed.
pub sample_billed : SampleBilled
unfolding times sample_accepted accepted_by of_member price prices tenths rounded_up bill total bill_line printed_bill laid digits
    digits_within
    or_dash
sample_billed = record {
  accepted = (refl, (refl, refl));
  tenths = (refl, (refl, refl));
  printed = refl;
}
