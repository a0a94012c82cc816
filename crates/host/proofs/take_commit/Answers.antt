-- `take_commit` meets its contract: a refusal leaves the entries, and a commit that nothing refuses leaves and answers what the step does.
use mathlib.Core.Bool.{Bool, cond, true, false}
use mathlib.Core.Path.{◌≡◌, ◌∙◌, sym}
use Rattle.model.specs.Halves.{commit_number, commit_outcome, commit_words}
use Rattle.model.specs.Records.{record_within}
use Rattle.records.specs.Meaning.{record_in, record_for}
use Rattle.rules.proofs.Refusals.{kept}
use Rattle.host.proofs.Answers.{commit_answers, commit_leaves, good_slot, no_outcome}
use Rattle.host.proofs.take_commit.Goals as goal
use Rattle.host.proofs.take_commit.Goals.{After-commit}

taken : (c : After-commit) → let a = c.args in commit_number a.n a.entries.now (record_for a.n a.committed) ≡ 0
unfolding commit_number record_within record_in
taken c = sym c.in_ok-check_host.ensures

left : (c : After-commit) → let a = c.args in c.commit.new.entries ≡ commit_words a.n a.entries.now (record_for a.n a.committed)
unfolding record_within record_in
left c =
    let a = c.args in
    let post = c.commit.ensures in
    commit_leaves a.n a.entries.now _ c.commit.auto.entries (record_for a.n a.committed) (taken c) post.entries_after post.entries_after_2

judged : (c : After-commit) (won : Bool) → c.commit.result ≡ won →
    let a = c.args in cond won 1 2 ≡ commit_outcome a.n a.entries.now (record_for a.n a.committed)
unfolding record_in
judged c won e =
    let a = c.args in
    commit_answers a.n a.entries.now (record_in a.committed) won (taken c) (sym c.commit.ensures.value ∙ e)

pub returns-in_err-check_host-clause-outcome_value : goal.returns-in_err-check_host-clause-outcome_value
unfolding commit_outcome commit_number record_within record_in
returns-in_err-check_host-clause-outcome_value c =
    let refused = c.in_err-check_host in
    no_outcome _ c.from_residual.ensures.0 ∙ kept 0 _ refused.field-0.0 refused.ensures

pub returns-in_err-check_host-clause-entries_after : goal.returns-in_err-check_host-clause-entries_after
unfolding commit_words commit_number record_within record_in
returns-in_err-check_host-clause-entries_after c = kept _ _ c.in_err-check_host.field-0.0 c.in_err-check_host.ensures

pub commit-requires : goal.commit-requires
commit-requires c = good_slot _ _ _ _ _ (sym c.in_ok-check_host.ensures)

pub returns-then-commit-clause-outcome_value : goal.returns-then-commit-clause-outcome_value
returns-then-commit-clause-outcome_value c = judged (goal.at.returns-then-commit-clause-outcome_value c).After-commit true c.if-commit.true

pub returns-then-commit-clause-entries_after : goal.returns-then-commit-clause-entries_after
returns-then-commit-clause-entries_after c = left (goal.at.returns-then-commit-clause-entries_after c).After-commit

pub returns-clause-outcome_value : goal.returns-clause-outcome_value
returns-clause-outcome_value c = judged (goal.at.returns-clause-outcome_value c).After-commit false c.if-commit.false

pub returns-clause-entries_after : goal.returns-clause-entries_after
returns-clause-entries_after c = left (goal.at.returns-clause-entries_after c).After-commit
