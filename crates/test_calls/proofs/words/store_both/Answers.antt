-- `store_both` meets its contract: two records stored one after the other, to the slice's end.
use Rattle.std.proofs.Common.{◌+◌, ap, ◌∙◌}
use Rattle.lists.specs.Parts.{replaced}
use Rattle.model.specs.RecordWords.{record_words}
use Rattle.records.specs.Meaning.{record_in}
use Rattle.test_calls.specs.Handed.{record_due}
use Rattle.test_calls.proofs.Laws.{both_stored}
use Rattle.test_calls.proofs.words.store_both.Goals as goal

pub returns : goal.returns
returns c =
    let a = c.args in
    c.store_record-2.ensures
    ∙ ap (λ l. replaced l (a.at + record_due) (record_words 12 (record_in a.stored))) c.store_record.ensures
    ∙ both_stored a.t.now a.at (record_in a.newest) (record_in a.stored) c.requires
