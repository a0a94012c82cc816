-- `take_over` meets its contract: the count stored and the matrix copied are what `kept` says; a write then copies its value.
use mathlib.Core.Path.{◌∙◌, ap}
use borrow.Author.Tests.{eq-eqb, ne_eqb}
use Rattle.lists.specs.Parts.{words}
use Rattle.model.specs.Table.{block_size, member_of}
use Rattle.laws.proofs.Steps.{Holds, kept, tookOver-read, tookOver-write}
use Rattle.member_block.proofs.Laws.{kept_held, last_held}
use Rattle.member_block.proofs.parts.take_over.Goals as goal
use Rattle.member_block.proofs.parts.take_over.Goals.{After-copy_down}

copied : (c : After-copy_down)
    → let a = c.args in Holds (block_size a.n) c.copy_down.new.t (kept a.n (words a.block.now))
copied c = kept_held c.requires c.layout-at.ensures _ c.copy_down.ensures

pub returns-then-operation-eq-WRITE : goal.returns-then-operation-eq-WRITE
unfolding member_of
returns-then-operation-eq-WRITE c =
    ap (member_of c.args.n)
    (last_held (copied (goal.at.returns-then-operation-eq-WRITE c).After-copy_down) c.layout-at.ensures _
    c.copy_down-then-operation-eq-WRITE.ensures).same
    ∙ tookOver-write c.args.n (words c.args.block.now) c.requires.slot.least c.requires.slot.most
    (eq-eqb _ 2 c.if-operation-eq-WRITE.true)

pub returns-else-operation-eq-WRITE : goal.returns-else-operation-eq-WRITE
unfolding member_of
returns-else-operation-eq-WRITE c =
    ap (member_of c.args.n) (copied (goal.at.returns-else-operation-eq-WRITE c).After-copy_down).same
    ∙ tookOver-read c.args.n (words c.args.block.now) c.requires.slot.least c.requires.slot.most
    (ne_eqb _ 2 c.if-operation-eq-WRITE.false)
