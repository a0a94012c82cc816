-- `commit_entry` meets its contract: another member's or another count's mark aborts the commit, and the same mark accepts it.
use native.Mathlib.Omega.{arith}
use mathlib.Core.Bool.{false, true}
use mathlib.Core.Path.{◌≡◌, ◌∙◌, sym}
use Rattle.lists.specs.Parts.{words}
use Rattle.model.specs.Host.{wins}
use Rattle.model.specs.Table.{entry_of, stored_of}
use Rattle.records.specs.Meaning.{record_in}
use Rattle.host.proofs.EntryWords.{entry_lost, entry_won, other_count, other_member, same_mark, sizes, stored_lost, stored_won}
use Rattle.host.proofs.entry.commit_entry.Goals as goal
use Rattle.host.proofs.entry.commit_entry.Goals.{Then-entry-committed, Then-entry-committed-2, After-accept}

pub bounds-entry-0 : goal.bounds-entry-0
bounds-entry-0 c =
    let s = sizes c.args.n in
    omega arith

pub bounds-entry-1 : goal.bounds-entry-1
bounds-entry-1 c =
    let s = sizes c.args.n in
    omega arith

-- the verdict at each of the three returns

others : (c : Then-entry-committed) → wins (entry_of c.args.n (words c.args.entry.now)) (record_in c.args.committed) ≡ false
unfolding record_in
others c =
    let a = c.args in
    other_member a.n a.entry.now (record_in a.committed) c.if-entry-committed.true

olds : (c : Then-entry-committed-2) → wins (entry_of c.args.n (words c.args.entry.now)) (record_in c.args.committed) ≡ false
unfolding record_in
olds c =
    let a = c.args in
    other_count a.n a.entry.now (record_in a.committed) c.if-entry-committed-2.true

won : (c : After-accept) → wins (entry_of c.args.n (words c.args.entry.now)) (record_in c.args.committed) ≡ true
unfolding record_in
won c =
    let a = c.args in
    same_mark a.n a.entry.now (record_in a.committed) c.if-entry-committed.false c.if-entry-committed-2.false

pub returns-then-entry-committed-clause-value : goal.returns-then-entry-committed-clause-value
returns-then-entry-committed-clause-value c =
    sym (others (goal.at.returns-then-entry-committed-clause-value c).Then-entry-committed)

pub returns-then-entry-committed-clause-after : goal.returns-then-entry-committed-clause-after
returns-then-entry-committed-clause-after c =
    let a = c.args in
    let verdict = others (goal.at.returns-then-entry-committed-clause-after c).Then-entry-committed in
    sym (entry_lost a.n _ (stored_of a.n (words a.entry.now)) _ verdict)

pub returns-then-entry-committed-clause-after_2 : goal.returns-then-entry-committed-clause-after_2
returns-then-entry-committed-clause-after_2 c =
    let a = c.args in
    let verdict = others (goal.at.returns-then-entry-committed-clause-after_2 c).Then-entry-committed in
    sym (stored_lost a.n _ (stored_of a.n (words a.entry.now)) _ verdict)

pub returns-then-entry-committed-2-clause-value : goal.returns-then-entry-committed-2-clause-value
returns-then-entry-committed-2-clause-value c =
    sym (olds (goal.at.returns-then-entry-committed-2-clause-value c).Then-entry-committed-2)

pub returns-then-entry-committed-2-clause-after : goal.returns-then-entry-committed-2-clause-after
returns-then-entry-committed-2-clause-after c =
    let a = c.args in
    let verdict = olds (goal.at.returns-then-entry-committed-2-clause-after c).Then-entry-committed-2 in
    sym (entry_lost a.n _ (stored_of a.n (words a.entry.now)) _ verdict)

pub returns-then-entry-committed-2-clause-after_2 : goal.returns-then-entry-committed-2-clause-after_2
returns-then-entry-committed-2-clause-after_2 c =
    let a = c.args in
    let verdict = olds (goal.at.returns-then-entry-committed-2-clause-after_2 c).Then-entry-committed-2 in
    sym (stored_lost a.n _ (stored_of a.n (words a.entry.now)) _ verdict)

pub returns-clause-value : goal.returns-clause-value
returns-clause-value c =
    sym (won (goal.at.returns-clause-value c).After-accept)

pub returns-clause-after : goal.returns-clause-after
returns-clause-after c =
    let a = c.args in
    let verdict = won (goal.at.returns-clause-after c).After-accept in
    c.accept.ensures.after ∙ sym (entry_won a.n _ (stored_of a.n (words a.entry.now)) _ verdict)

pub returns-clause-after_2 : goal.returns-clause-after_2
returns-clause-after_2 c =
    let a = c.args in
    let verdict = won (goal.at.returns-clause-after_2 c).After-accept in
    c.accept.ensures.after_2 ∙ sym (stored_won a.n _ (stored_of a.n (words a.entry.now)) _ verdict)
