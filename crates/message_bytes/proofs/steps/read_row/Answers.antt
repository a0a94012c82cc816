-- `read_row` meets its contract: its twelve counts are the row's, the unused ones zero.
use mathlib.Core.List.{[], ◌∷◌}
use Rattle.lists.specs.Functions.{from}
use Rattle.lists.specs.Parts.{words, tabulate}
use Rattle.model.specs.Messages.{number_in}
use Rattle.message_bytes.proofs.Laws.{row_named}
use Rattle.message_bytes.proofs.steps.read_row.Goals as goal

pub returns : goal.returns
unfolding tabulate
returns c =
    row_named _ _ (number_in (from (words c.args.s.now) c.args.at)) c.requires.0
    (λ i.
    c.count_at.ensures i
    ∷ c.count_at-2.ensures i
    ∷ c.count_at-3.ensures i
    ∷ c.count_at-4.ensures i
    ∷ c.count_at-5.ensures i
    ∷ c.count_at-6.ensures i
    ∷ c.count_at-7.ensures i
    ∷ c.count_at-8.ensures i
    ∷ c.count_at-9.ensures i
    ∷ c.count_at-10.ensures i
    ∷ c.count_at-11.ensures i
    ∷ c.count_at-12.ensures i
    ∷ [])
