-- `phase` meets its contract: it is the first word of the member's block.
use native.Mathlib.Omega.{arith}
use mathlib.Core.Path.{◌∙◌, ap}
use Rattle.lists.specs.Parts.{words}
use Rattle.tables.proofs.Numbers.{phase_at_lem}
use Rattle.tables.proofs.Places.{block_positive}
use Rattle.tables.proofs.steps.phase.Goals as goal

pub bounds-table-at : goal.bounds-table-at
bounds-table-at c = omega (arith, block_positive c.args.n, c.block_at-at.ensures.ends)

pub returns : goal.returns
returns c =
    ap (words c.args.table.now) c.block_at-at.ensures.begins ∙ phase_at_lem c.requires.0 c.requires.1
