-- `commit_taken` meets its contract: the member's block and the host entries are lent in turn, and `commit-left` joins what they leave.
use mathlib.Core.Path.{ap, refl}
use Rattle.model.specs.Board.{sent_record}
use Rattle.records.specs.Meaning.{record_in}
use Rattle.table_calls.proofs.Between.{BothLent, both_lent, both_running, commit-left, slot_of}
use Rattle.table_calls.proofs.phases.commit_taken.Goals as goal
use Rattle.table_calls.proofs.phases.commit_taken.Goals.{After-host_size}

both : (c : After-host_size) → let a = c.args in
    BothLent a.n a.member a.table.now c.block_at-at.result c.block_size.result c.host_at-host.result
    c.host_size.result
both c =
    both_lent c.requires c.block_at-at.ensures c.block_size.ensures c.host_at-host.ensures c.host_size.ensures

pub commit_of-sent-requires : goal.commit_of-sent-requires
commit_of-sent-requires c = both_running (both (goal.at.commit_of-sent-requires c).After-host_size)

pub commit-won-requires : goal.commit-won-requires
unfolding record_in sent_record
commit-won-requires c = slot_of (both (goal.at.commit-won-requires c).After-host_size) (ap (λ r. r.slot) c.commit_of-sent.ensures)

pub returns : goal.returns
unfolding record_in
returns c =
    let post = c.commit-won.ensures in
    commit-left (both (goal.at.returns c).After-host_size) c.commit-won.new.entries c.commit-won.auto.entries c.judge.new.block
    c.judge.auto.block _ _ _
    c.commit_of-sent.ensures refl post.value post.entries_after post.entries_after_2 c.judge.ensures
