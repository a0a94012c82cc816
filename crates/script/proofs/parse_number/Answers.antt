-- `parse_number` meets its contract: the digits passed write the value, and those left go on from it.
use Prim.Native.Nat.{◌<◌}
use mathlib.Core.Path.{◌≡◌, sym, ap, ◌∙◌}
use mathlib.Core.Logic.{inl, inr}
use native.Mathlib.Omega.{arith}
use lib.ListN.{length, drop}
use borrow.Author.Tests.{eqb-true, eqb-false}
use Rattle.lists.specs.Parts.{words}
use Rattle.model.specs.Script.{digits_read, limited, number_of}
use Rattle.script.specs.Meaning.{held_number}
use Rattle.script.proofs.Reading.{digit_high, digit_read, digit_none, read_more, read_stops, read_end, power_next}
use Rattle.script.proofs.Reading.{number_plain, number_refused, number_fits}
use Rattle.script.proofs.parse_number.Goals as goal
use Rattle.script.proofs.parse_number.Goals.{At-loop-b, Else-leading_zero}
use Rattle.script.proofs.parse_number.Goals.{then-is_empty-via-then-is_empty, then-is_empty-via-else-is_empty+then-t-gt10}
use Rattle.script.proofs.parse_number.Goals.{then-is_empty-via-else-is_empty+else-t-gt10+then-leading_zero}

pub returns-then-is_empty : goal.returns-then-is_empty
returns-then-is_empty c = rw (number_refused c.args.t.now (elim c.then-is_empty.branch [
  | then-is_empty-via-then-is_empty w ↦ inl (eqb-true _ 0 (sym w.if-is_empty.ensures))
  | then-is_empty-via-else-is_empty+then-t-gt10 w ↦ inr (inl (omega arith))
  | then-is_empty-via-else-is_empty+else-t-gt10+then-leading_zero w ↦ inr (inr (sym w.leading_zero.ensures ∙ w.if-leading_zero.true))
]))

not_empty : (c : Else-leading_zero) → 0 < length c.args.t.now
not_empty c = let n : length c.args.t.now ≡ 0 → ⊥ = eqb-false _ 0 (sym c.if-is_empty.ensures) in omega arith

-- no ground but the digits themselves is left, and those passed write the value
passed : (c : At-loop-b) → let t = c.args.t.now in number_of t ≡ limited (digits_read c.loop-b.value (drop c.loop-b.b-index t))
passed c =
    number_plain c.args.t.now (not_empty (goal.at.At-loop-b c).Else-leading_zero) (sym c.if-leading_zero.ensures)
    ∙ ap limited (sym c.loop-b.invariant.1)

pub returns-in_err-value : goal.returns-in_err-value
unfolding limited
returns-in_err-value c =
    let t = c.args.t.now in
    let l = c.loop-b in
    let stops = read_stops t l.value l.b-index c.loop-b-test.true (digit_none (words t l.b-index) c.in_err-value.ensures) in
    c.from_residual.ensures ∙ rw (passed (goal.at.returns-in_err-value c).At-loop-b ∙ ap limited stops)

pub loop-b-preserved : goal.loop-b-preserved
loop-b-preserved c =
    let t = c.args.t.now in
    let l = c.loop-b in
    let read = digit_read (words t l.b-index) c.in_ok-value.field-0 c.in_ok-value.ensures in
    let high = digit_high (words t l.b-index) read.0 in (
      omega (arith, power_next l.b-index, l.invariant.0),
      sym (read_more t l.value l.b-index c.in_ok-value.field-0 c.loop-b-test.true read.0 read.1) ∙ l.invariant.1,
    )

pub returns : goal.returns
unfolding limited
returns c =
    let l = c.loop-b in
    let whole = passed (goal.at.returns c).At-loop-b ∙ ap limited (read_end c.args.t.now l.value l.b-index c.loop-b-test.false) in
    c.ok.ensures.value ∙ number_fits l.value c.try_from.result c.try_from.ensures ∙ ap held_number (sym whole)
