-- `submit` meets its contract: the slot's entry is lent and marked, which is its submit in the entries.
use mathlib.Core.Path.{◌∙◌, ap}
use Rattle.lists.specs.Functions.{put}
use Rattle.lists.specs.Parts.{words}
use Rattle.lists.proofs.Functions.{put_same}
use Rattle.model.specs.Host.{submitted}
use Rattle.model.specs.Table.{host_of, stored_records_of}
use Rattle.host.proofs.Lent.{Lent, entry_lent, host-changed, lent, stored-changed, stored_lent}
use Rattle.host.proofs.steps.submit.Goals as goal
use Rattle.host.proofs.steps.submit.Goals.{After-entry_size}

entry : (c : After-entry_size) → Lent c.args.n c.args.slot c.args.entries.now c.entry_place-at.result c.entry_size.result
entry c = lent c.requires c.entry_place-at.ensures c.entry_size.ensures

pub returns-clause-newest_after : goal.returns-clause-newest_after
returns-clause-newest_after c =
    let h = entry (goal.at.returns-clause-newest_after c).After-entry_size in
    let post = c.submit_entry.ensures in
    post.newest_after ∙ ap (λ e. e.newest) (entry_lent h)

pub returns-clause-stored_value : goal.returns-clause-stored_value
returns-clause-stored_value c =
    let h = entry (goal.at.returns-clause-stored_value c).After-entry_size in
    let post = c.submit_entry.ensures in
    post.stored_value ∙ stored_lent h

pub returns-clause-entries_after : goal.returns-clause-entries_after
returns-clause-entries_after c =
    let h = entry (goal.at.returns-clause-entries_after c).After-entry_size in
    let a = c.args in
    let p = c.submit_entry.new.entry in
    let k = c.submit_entry.auto.entry in
    let post = c.submit_entry.ensures in
    let mark = post.after ∙ ap (λ e. submitted e a.member a.count) (entry_lent h) in
    host-changed h p k ∙ ap (put (host_of a.n (words a.entries.now)) a.slot) mark

pub returns-clause-entries_unchanged : goal.returns-clause-entries_unchanged
returns-clause-entries_unchanged c =
    let h = entry (goal.at.returns-clause-entries_unchanged c).After-entry_size in
    let a = c.args in
    let stored = stored_records_of a.n (words a.entries.now) in
    let p = c.submit_entry.new.entry in
    let k = c.submit_entry.auto.entry in
    let post = c.submit_entry.ensures in
    let kept = post.unchanged ∙ stored_lent h in
    stored-changed h p k ∙ ap (put stored a.slot) kept ∙ put_same stored a.slot
