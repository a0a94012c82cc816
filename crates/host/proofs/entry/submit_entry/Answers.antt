-- `submit_entry` meets its contract: both records are read, then the submit's two words are stored.
use native.Mathlib.Omega.{arith}
use lib.ListN.{length-set}
use Rattle.model.specs.Table.{entry_of, stored_of}
use Rattle.host.proofs.EntryWords.{sizes, entry_marked, stored_marked}
use Rattle.host.proofs.entry.submit_entry.Goals as goal

pub load_record-newest-requires : goal.load_record-newest-requires
load_record-newest-requires c =
    let s = sizes c.args.n in
    let p = c.newest_at.ensures in
    (omega arith, omega arith)

pub load_record-stored-requires : goal.load_record-stored-requires
load_record-stored-requires c =
    let s = sizes c.args.n in
    (omega arith, omega arith)

pub bounds-entry-0 : goal.bounds-entry-0
bounds-entry-0 c =
    let s = sizes c.args.n in
    omega arith

pub bounds-entry-1 : goal.bounds-entry-1
bounds-entry-1 c =
    let s = sizes c.args.n in
    simp length-set (omega arith)

pub returns-clause-newest_after : goal.returns-clause-newest_after
unfolding entry_of
returns-clause-newest_after c = rw c.newest_at.ensures at c.load_record-newest.ensures

pub returns-clause-stored_value : goal.returns-clause-stored_value
unfolding stored_of
returns-clause-stored_value c = c.load_record-stored.ensures

pub returns-clause-after : goal.returns-clause-after
returns-clause-after c =
    let a = c.args in
    entry_marked a.n a.entry.now a.member a.count c.requires.long

pub returns-clause-unchanged : goal.returns-clause-unchanged
returns-clause-unchanged c =
    let a = c.args in
    stored_marked a.n a.entry.now a.member a.count c.requires.long
