-- `store_value` meets its contract: the words before the loop's place are stored.
use mathlib.Core.Path.{◌≡◌, refl, sym}
use Prim.Native.Nat.{◌+◌}
use native.Mathlib.Omega.{arith}
use Rattle.lists.specs.Parts.{words}
use Rattle.lists.proofs.Functions.{pasted_none}
use Rattle.lists.proofs.Parts.{words_more}
use Rattle.records.proofs.steps.store_value.Goals as goal

pub loop-i-init : goal.loop-i-init
loop-i-init c = sym (pasted_none _ _ _)

pub loop-i-preserved : goal.loop-i-preserved
loop-i-preserved c =
    let a = c.args in
    let l = c.loop-i in
    words_more l.t a.at l.i (a.at + l.i) _ (words a.value) (words a.t.now) l.invariant refl (omega arith) refl

pub returns : goal.returns
returns c =
    let l = c.loop-i in
    let e : l.i ≡ 8 = omega arith in
    rw e at l.invariant
