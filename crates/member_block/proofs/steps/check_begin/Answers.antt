-- `check_begin` meets its contract: where the rule's check passed, what begin asks is known by any kind that has the limit.
use Rattle.std.proofs.Common.{rules, Fits, w32}
use Rattle.member_block.proofs.Begins.{begins_checked}
use Rattle.member_block.proofs.steps.check_begin.Goals as goal

pub returns-clause-begins : goal.returns-clause-begins
returns-clause-begins c =
    let small : Fits w32 c.args.kind.limit = search rules in
    begins_checked _ _ _ _ _ _ _ _ small c.requires c.own_count-count.ensures c.check_begin.ensures
