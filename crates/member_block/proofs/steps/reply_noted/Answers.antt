-- `reply_noted` meets its contract: the two message records are loaded, `halt_of` says whether they fail or pass as a reply, and what
-- is then done is what `replied` says.
use mathlib.Core.Path.{◌∙◌, ◌≡◌, ap, ap₂, sym}
use Rattle.lists.specs.Parts.{words}
use Rattle.model.specs.Member.{passed, replied}
use Rattle.model.specs.Records.{record_within}
use Rattle.model.specs.Table.{member_of}
use Rattle.records.specs.Meaning.{record_in}
use Rattle.member_block.proofs.Laws.{first_loaded, second_loaded, replied_failed, replied_passed}
use Rattle.member_block.proofs.steps.reply_noted.Goals as goal
use Rattle.member_block.proofs.steps.reply_noted.Goals.{After-load_record-stored}

-- the records that were loaded are the member's
loaded : (c : After-load_record-stored) → let a = c.args in let m = member_of a.n (words a.block.now) in
    replied a.n a.member m (record_within a.n (record_in c.load_record-newest.result))
    (record_within a.n (record_in c.load_record-stored.result)) 3
    ≡ replied a.n a.member m m.first m.second 3
loaded c =
    let a = c.args in
    ap₂ (λ f s. replied a.n a.member (member_of a.n (words a.block.now)) f s 3)
    (first_loaded _ _ _ c.layout-at.ensures c.load_record-newest.ensures)
    (second_loaded _ _ _ c.layout-at.ensures c.load_record-stored.ensures)

pub returns-in-Some : goal.returns-in-Some
returns-in-Some c =
    c.fail.ensures
    ∙ sym (replied_failed c.requires.0 c.requires.1 _ _ _ _ c.halt_of.ensures.number_value c.in-Some.is)
    ∙ loaded (goal.at.returns-in-Some c).After-load_record-stored

pub returns-in-None : goal.returns-in-None
returns-in-None c =
    c.pass_noted.ensures
    ∙ ap (passed _ _ _ _) (sym (second_loaded _ _ _ c.layout-at.ensures c.load_record-stored.ensures))
    ∙ sym (replied_passed c.requires.0 c.requires.1 _ _ _ _ c.halt_of.ensures.number_value c.in-None.is)
    ∙ loaded (goal.at.returns-in-None c).After-load_record-stored
