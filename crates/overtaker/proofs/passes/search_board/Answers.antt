-- `search_board` meets its contract: the board is opened, and the pass over the lines gives the definition's answer.
use Rattle.std.proofs.Common.{◌≡◌, true}
use Rattle.std.specs.Option.{unwrap_or}
use mathlib.Core.Path.{ap, ◌∙◌}
use Rattle.lists.specs.Functions.{inside}
use Rattle.lists.proofs.Functions.{inside_in}
use Rattle.model.specs.Board.{opened}
use Rattle.model.specs.Cause.{without}
use Rattle.model.specs.Table.{table_words}
use Rattle.script_run.proofs.Held.{whole_words, opened_words, opened_done}
use Rattle.overtaker_search.specs.Search.{search_start, lines_searched}
use Rattle.overtaker_search.proofs.Searched.{lines_answered}
use Rattle.overtaker.specs.Lines.{lines_left}
use Rattle.overtaker.proofs.passes.search_board.Goals as goal
use Rattle.overtaker.proofs.passes.search_board.Goals.{After-open}

sized : (c : After-open) → inside 12 c.args.n ≡ true
sized c = let w = c.requires.0 in inside_in 12 c.args.n w.least w.most

-- the table that opening leaves
opens : (c : After-open) → c.open.new.table ≡ table_words c.args.n (opened c.args.n)
opens c =
    let a = c.args in
    c.open.ensures.table_after ∙ opened_words a.n a.table.now (sized c) c.requires.1.0

pub unwrap-requires : goal.unwrap-requires
unwrap-requires c =
    opened_done c.args.n c.args.table.now (sized (goal.at.unwrap-requires c).After-open) c.requires.1.0 c.open.result c.open.ensures.value

pub search_lines-requires : goal.search_lines-requires
search_lines-requires c = (
  rw (opens (goal.at.search_lines-requires c).After-open)
      (whole_words c.args.n (opened c.args.n) c.requires.0.least c.requires.0.most),
  c.requires.1.1,
)

pub returns : goal.returns
returns c =
    let here = (goal.at.returns c).After-open in
    let a = c.args in
    let lines = without (unwrap_or a.skip 0) (lines_left a.lines) in
    c.search_lines.ensures
    ∙ ap (λ t. lines_searched a.asked.member a.asked.ordinal t search_start lines) (opens here)
    ∙ lines_answered a.asked.member a.asked.ordinal a.n lines (sized here)
