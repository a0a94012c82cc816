-- The reader's last question, by the kind: the laws that `fields_fit` is proved by.
use Rattle.laws.proofs.Messages.{judged_submit, judged_reply, judged_commit, judged_outcome, judged_misnamed}

pub ruleset by_kind = (judged_submit, judged_reply, judged_commit, judged_outcome, judged_misnamed)
