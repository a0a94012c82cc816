-- `submit_taken` meets its contract: the member's block and the host entries are lent in turn, and `submit-left` joins what they leave.
use Rattle.table_calls.proofs.Between.{BothLent, both_lent, both_running, slot_of, submit-left}
use Rattle.table_calls.proofs.phases.submit_taken.Goals as goal
use Rattle.table_calls.proofs.phases.submit_taken.Goals.{After-host_size}

both : (c : After-host_size) → let a = c.args in
    BothLent a.n a.member a.table.now c.block_at-at.result c.block_size.result c.host_at-host.result
    c.host_size.result
both c =
    both_lent c.requires c.block_at-at.ensures c.block_size.ensures c.host_at-host.ensures c.host_size.ensures

pub submit_of-sent-requires : goal.submit_of-sent-requires
submit_of-sent-requires c = both_running (both (goal.at.submit_of-sent-requires c).After-host_size)

pub submit-reply-requires : goal.submit-reply-requires
submit-reply-requires c = slot_of (both (goal.at.submit-reply-requires c).After-host_size) c.submit_of-sent.ensures.0

pub returns : goal.returns
returns c =
    let post = c.submit-reply.ensures in
    submit-left (both (goal.at.returns c).After-host_size) c.submit-reply.new.entries c.submit-reply.auto.entries
    c.answer.new.block c.answer.auto.block _ _ _ _
    c.submit_of-sent.ensures.0 c.submit_of-sent.ensures.1 post.newest_after post.stored_value post.entries_after post.entries_unchanged
    c.answer.ensures
