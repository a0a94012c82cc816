-- `concur_board_words` meets its contract: 0 where n is no size, and else the size of its table.
use mathlib.Core.Path.{◌≡◌}
use mathlib.Core.Bool.{true}
use Rattle.lists.specs.Functions.{inside}
use Rattle.lists.proofs.Functions.{inside_high}
use Rattle.laws.proofs.Tests.{refused, allowed}
use Rattle.board.specs.Interface.{words_for}
use Rattle.board.proofs.interface.concur_board_words.Goals as goal
use Rattle.board.proofs.interface.concur_board_words.Goals.{Else-not-is_numbered}

sized : (c : Else-not-is_numbered) → inside 12 c.args.n ≡ true
sized c = allowed c.is_numbered.ensures c.if-not-is_numbered.false-raw

pub returns-then-not-is_numbered : goal.returns-then-not-is_numbered
unfolding words_for
returns-then-not-is_numbered c = simp (refused c.is_numbered.ensures c.if-not-is_numbered.true-raw)

pub table_size-requires : goal.table_size-requires
table_size-requires c = inside_high 12 _ (sized c)

pub returns : goal.returns
unfolding words_for
returns c = rw (sized (goal.at.returns c).Else-not-is_numbered) c.table_size.ensures.0
