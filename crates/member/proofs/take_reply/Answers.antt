-- `take_reply` meets its contract: a refusal leaves the block, and else the step's words are left; the pairs are the step's, and no more
-- than the ceiling.
use mathlib.Core.Path.{◌∙◌, sym}
use Rattle.lists.proofs.Refusals.{becomes}
use Rattle.model.specs.Halves.{reply_pairs, reply_words}
use Rattle.rules.proofs.Refusals.{kept}
use Rattle.member_block.proofs.Laws.{few_pairs}
use Rattle.member.proofs.Refusals.{reply_good, words_made}
use Rattle.member.proofs.take_reply.Goals as goal

pub returns-in_err-check_reply-clause-block_after : goal.returns-in_err-check_reply-clause-block_after
unfolding reply_words
returns-in_err-check_reply-clause-block_after c = kept _ _ c.in_err-check_reply.field-0.0 c.in_err-check_reply.ensures

pub returns-clause-pairs_value : goal.returns-clause-pairs_value
unfolding reply_pairs
returns-clause-pairs_value c = becomes _ _ (sym c.in_ok-check_reply.ensures) c.reply-pairs.ensures.result_value

pub returns-clause-pairs_bound : goal.returns-clause-pairs_bound
returns-clause-pairs_bound c =
    let good = reply_good _ _ _ _ _ _ c.in_ok-check_reply.ensures in
    few_pairs good.0 good.1 _ _ _ c.reply-pairs.ensures.result_value

pub returns-clause-block_after : goal.returns-clause-block_after
unfolding reply_words
returns-clause-block_after c =
    let good = reply_good _ _ _ _ _ _ c.in_ok-check_reply.ensures in
    words_made _ _ _ _ c.in_ok-check_reply.ensures (c.reply-pairs.auto.block ∙ good.0.block.long) c.reply-pairs.ensures.block_after
