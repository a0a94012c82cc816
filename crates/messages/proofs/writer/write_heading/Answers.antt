-- `write_heading` meets its contract: five bytes are stored one by one.
use mathlib.Core.List.{[], ◌∷◌}
use native.Mathlib.Omega.{arith}
use Rattle.message_bytes.proofs.Laws.{stored}
use Rattle.messages.proofs.writer.write_heading.Goals as goal

pub returns : goal.returns
returns c = stored c.args.t.now 0 _ (_ ∷ _ ∷ _ ∷ _ ∷ []) (omega arith)
