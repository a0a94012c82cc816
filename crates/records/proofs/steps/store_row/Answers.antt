-- `store_row` meets its contract: the counts before the loop's place are stored, and those alone.
use mathlib.Core.Path.{sym, ap, ◌∙◌}
use Rattle.lists.specs.Functions.{pasted}
use Rattle.lists.specs.Parts.{words}
use Rattle.lists.proofs.Functions.{pasted_none}
use Rattle.records.proofs.Laws.{none_yet, count_stored}
use Rattle.records.proofs.steps.store_row.Goals as goal

pub loop-i-init : goal.loop-i-init
loop-i-init c =
    let a = c.args in
    let g = words a.row.counts in
    let w = words a.t.now in
    sym (pasted_none a.at g w) ∙ ap (λ k. pasted a.at k g w) (none_yet a.n)

pub loop-i-preserved : goal.loop-i-preserved
loop-i-preserved c =
    let a = c.args in
    let l = c.loop-i in
    count_stored l.i a.n a.at (words a.row.counts) (words a.t.now) (words l.t) _ l.invariant c.store_count.ensures
