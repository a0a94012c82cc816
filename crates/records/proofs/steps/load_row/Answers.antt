-- `load_row` meets its contract: the counts before the loop's place are read, and the others are 0.
use mathlib.Core.Path.{◌≡◌, refl, sym, ap, ◌∙◌}
use native.Mathlib.Omega.{arith}
use Prim.Native.Nat.{min}
use lib.ListN.{length-set}
use Rattle.lists.specs.Functions.{from, pasted}
use Rattle.lists.specs.Parts.{words}
use Rattle.lists.proofs.Functions.{pasted_none}
use Rattle.lists.proofs.Parts.{words_zeros, words_set}
use Rattle.rows.proofs.Laws.{row_read}
use Rattle.records.proofs.Laws.{none_yet, count_loaded}
use Rattle.records.proofs.steps.load_row.Goals as goal

pub loop-i-init : goal.loop-i-init
loop-i-init c =
    let a = c.args in
    let g = from (words a.t.now) a.at in
    record { long = refl; read = words_zeros 12 ∙ sym (pasted_none 0 g (λ k. 0)) ∙ ap (λ k. pasted 0 k g (λ k. 0)) (none_yet a.n) }

pub loop-i-preserved : goal.loop-i-preserved
unfolding from
loop-i-preserved c =
    let a = c.args in
    let l = c.loop-i in
    record {
      long = simp length-set (omega arith);
      read = words_set l.row.counts l.i c.count_at.result (omega arith)
          ∙ count_loaded l.i a.n (from (words a.t.now) a.at) (words l.row.counts) c.count_at.result l.invariant.read c.count_at.ensures;
    }

pub returns : goal.returns
returns c =
    let a = c.args in
    let l = c.loop-i in
    let e : min l.i a.n ≡ a.n = omega arith in
    row_read l.row a.n (from (words a.t.now) a.at) (omega arith) (rw e at l.invariant.read)
