-- `hand_out` meets its contract: the flag stored, then the value after it.
use mathlib.Core.Path.{◌∙◌}
use lib.ListN.{length-set}
use Rattle.board.proofs.Beside.{flagged, handed_words}
use Rattle.board.proofs.steps.hand_out.Goals as goal

pub returns : goal.returns
returns c =
    let a = c.args in
    handed_words a.returned.now c.store_value.new.t a.value c.from.result c.requires (c.store_value.auto.t ∙ simp length-set)
    c.store_value.ensures
    ∙ flagged a.given a.value c.from.ensures
