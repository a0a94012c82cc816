-- `store_fields` meets its contract: six numbers stored one by one, then the two records.
use Rattle.std.proofs.Common.{◌∙◌}
use Rattle.test_calls.proofs.Laws.{fields_stored}
use Rattle.test_calls.proofs.words.store_fields.Goals as goal

pub returns : goal.returns
returns c =
    c.store_both.ensures ∙ fields_stored c.args.t.now c.args.message c.requires
