-- `copy_down` meets its contract: i words are copied, and the word read next is not overwritten yet. Assumes nothing.
use Prim.Native.Nat.{ℕ, ◌+◌}
use mathlib.Core.Path.{◌≡◌, refl, sym, ap, ◌∙◌}
use native.Mathlib.Omega.{arith}
use Rattle.lists.specs.Functions.{from}
use Rattle.lists.specs.Parts.{words, replaced}
use Rattle.lists.proofs.Functions.{pasted_none, pasted_above}
use Rattle.lists.proofs.Parts.{words_more, replaced_of, part_tabulate}
use Rattle.records.proofs.steps.copy_down.Goals as goal

pub loop-i-init : goal.loop-i-init
loop-i-init c = sym (pasted_none _ _ _)

pub loop-i-preserved : goal.loop-i-preserved
unfolding from
loop-i-preserved c =
    let a = c.args in
    let l = c.loop-i in
    let w : ℕ → ℕ = from (words a.t.now) a.source in
    words_more l.t a.at l.i (a.at + l.i) _ w (words a.t.now) l.invariant refl (omega arith)
    (ap (λ f. f (a.source + l.i)) l.invariant ∙ pasted_above a.at l.i w (words a.t.now) (a.source + l.i) (omega arith))

pub returns : goal.returns
returns c =
    let a = c.args in
    let l = c.loop-i in
    let e : l.i ≡ a.count = omega arith in
    replaced_of a.t.now l.t a.at a.count (from (words a.t.now) a.source) (omega arith) (omega arith) (rw e at l.invariant)
    ∙ ap (replaced a.t.now a.at) (sym (part_tabulate a.t.now a.source a.count (omega arith)))
