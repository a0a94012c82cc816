-- `find_behind` meets its contract: the lines are run on the part of the table that a board of n members fills.
use Rattle.std.proofs.Common.{rules, ◌≡◌, true}
use mathlib.Core.Path.{sym, ◌∙◌}
use Rattle.lists.specs.Functions.{inside}
use Rattle.lists.proofs.Functions.{inside_low, inside_high}
use Rattle.overtaker.proofs.steps.find_behind.Goals as goal
use Rattle.overtaker.proofs.steps.find_behind.Goals.{Then-is_numbered}

within : (c : Then-is_numbered) → inside 12 c.args.n ≡ true
within c = sym c.is_numbered.ensures ∙ c.if-is_numbered.true

pub table_size-size-requires : goal.table_size-size-requires
table_size-size-requires c = inside_high 12 c.args.n (within c)

pub search_board-requires : goal.search_board-requires
search_board-requires c =
    let w = within (goal.at.search_board-requires c).Then-is_numbered in
    (record { least = inside_low 12 c.args.n w; most = inside_high 12 c.args.n w }, (search rules, c.requires))
