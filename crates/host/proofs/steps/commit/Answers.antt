-- `commit` meets its contract: the slot's entry is lent and takes the commit, which is its commit in the entries.
use mathlib.Core.Path.{◌∙◌, ap}
use Rattle.lists.specs.Functions.{put}
use Rattle.lists.specs.Parts.{words}
use Rattle.model.specs.Host.{entry_after, wins}
use Rattle.model.specs.Records.{record_within}
use Rattle.model.specs.Table.{host_of, stored_records_of}
use Rattle.records.specs.Meaning.{record_in}
use Rattle.host.proofs.Lent.{Lent, entry_lent, host-changed, lent, stored-changed, stored_lent}
use Rattle.host.proofs.steps.commit.Goals as goal
use Rattle.host.proofs.steps.commit.Goals.{After-entry_size}

entry : (c : After-entry_size) → Lent c.args.n c.args.committed.slot c.args.entries.now c.entry_place-at.result c.entry_size.result
entry c = lent c.requires c.entry_place-at.ensures c.entry_size.ensures

pub returns-clause-value : goal.returns-clause-value
returns-clause-value c =
    let h = entry (goal.at.returns-clause-value c).After-entry_size in
    let a = c.args in
    let r = record_in a.committed in
    let post = c.commit_entry.ensures in
    post.value ∙ ap (λ e. wins e r) (entry_lent h)

pub returns-clause-entries_after : goal.returns-clause-entries_after
returns-clause-entries_after c =
    let h = entry (goal.at.returns-clause-entries_after c).After-entry_size in
    let a = c.args in
    let slot = a.committed.slot in
    let r = record_in a.committed in
    let p = c.commit_entry.new.entry in
    let k = c.commit_entry.auto.entry in
    let post = c.commit_entry.ensures in
    let host = post.after ∙ ap (λ e. entry_after e (record_within a.n r)) (entry_lent h) in
    host-changed h p k ∙ ap (put (host_of a.n (words a.entries.now)) slot) host

pub returns-clause-entries_after_2 : goal.returns-clause-entries_after_2
returns-clause-entries_after_2 c =
    let h = entry (goal.at.returns-clause-entries_after_2 c).After-entry_size in
    let a = c.args in
    let slot = a.committed.slot in
    let r = record_in a.committed in
    let p = c.commit_entry.new.entry in
    let k = c.commit_entry.auto.entry in
    let post = c.commit_entry.ensures in
    let host = post.after ∙ ap (λ e. entry_after e (record_within a.n r)) (entry_lent h) in
    stored-changed h p k ∙ ap (put (stored_records_of a.n (words a.entries.now)) slot)
    (post.after_2 ∙ rw (entry_lent h, stored_lent h))
