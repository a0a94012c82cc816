-- `load_value` meets its contract: the words before the loop's place are those of the table from `at` on.
use mathlib.Core.Path.{◌≡◌, refl, sym, ap, ◌∙◌}
use native.Mathlib.Omega.{arith}
use Prim.Native.Nat.{ℕ}
use lib.ListN.{length-set}
use Rattle.lists.specs.Functions.{from, pasted}
use Rattle.lists.specs.Parts.{words}
use Rattle.lists.proofs.Functions.{pasted_none, pasted_in}
use Rattle.lists.proofs.Parts.{words_zeros, words_more}
use Rattle.model.specs.RecordWords.{value_of}
use Rattle.laws.proofs.Records.{value_of_same}
use Rattle.records.proofs.steps.load_value.Goals as goal

pub loop-i-init : goal.loop-i-init
loop-i-init c = record { long = refl; read = words_zeros 8 ∙ sym (pasted_none 0 _ _) }

pub loop-i-preserved : goal.loop-i-preserved
unfolding from
loop-i-preserved c =
    let a = c.args in
    let l = c.loop-i in
    record {
      long = simp length-set (omega arith);
      read = words_more l.value 0 l.i l.i _ (from (words a.t.now) a.at) (λ k. 0) l.invariant.read (omega arith) (omega arith) refl;
    }

pub returns : goal.returns
returns c =
    let a = c.args in
    let l = c.loop-i in
    let e : l.i ≡ 8 = omega arith in
    let w : ℕ → ℕ = from (words a.t.now) a.at in
    ap value_of (rw e at l.invariant.read) ∙ value_of_same (pasted 0 8 w (λ k. 0)) w
    (λ i h. pasted_in 0 8 w (λ k. 0) i (omega arith) (omega arith) ∙ ap w (omega arith))
