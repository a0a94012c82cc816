-- `hand_returned` meets its contract: the flag and the value of what was returned.
use mathlib.Core.Path.{◌∙◌}
use Rattle.board.proofs.Beside.{handed}
use Rattle.board.proofs.steps.hand_returned.Goals as goal

pub returns : goal.returns
returns c = c.hand_out.ensures ∙ rw (c.is_some.ensures, c.unwrap_or.ensures) (handed c.args.value)
