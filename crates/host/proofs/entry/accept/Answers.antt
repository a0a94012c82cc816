-- `accept` meets its contract: the mark cleared and the record stored as the newest; a write is then copied to the stored record.
use native.Mathlib.Omega.{arith}
use mathlib.Core.Path.{◌∙◌, ◌≡◌, sym}
use lib.ListN.{length, length-set}
use Rattle.records.specs.Meaning.{record_in}
use Rattle.host.proofs.EntryWords.{entry_accepted, entry_accepted_write, sizes, stored_accepted, stored_accepted_write}
use Rattle.host.proofs.entry.accept.Goals as goal
use Rattle.host.proofs.entry.accept.Goals.{After-store_record}

pub bounds-entry-0 : goal.bounds-entry-0
bounds-entry-0 c =
    let s = sizes c.args.n in
    omega arith

pub bounds-entry-1 : goal.bounds-entry-1
bounds-entry-1 c =
    let s = sizes c.args.n in
    simp length-set (omega arith)

pub store_record-requires : goal.store_record-requires
store_record-requires c =
    let s = sizes c.args.n in
    let p = c.newest_at-at.ensures in
    (omega arith, simp length-set (omega arith))

same : (c : After-store_record) → length c.store_record.new.t ≡ length c.args.entry.now
same c = simp length-set at c.store_record.auto.t

pub copy_down-requires : goal.copy_down-requires
copy_down-requires c =
    let s = sizes c.args.n in
    let p = c.newest_at-at.ensures in
    let q = c.record_size.ensures in
    let long = c.requires.long in
    (omega arith, omega (arith, same (goal.at.copy_down-requires c).After-store_record))

pub returns-then-becomes_stored-clause-after : goal.returns-then-becomes_stored-clause-after
returns-then-becomes_stored-clause-after c =
    let a = c.args in
    rw (
      c.copy_down.ensures,
      c.store_record.ensures,
      c.newest_at-at.ensures,
      c.record_size.ensures,
    ) (entry_accepted_write a.n a.entry.now (record_in a.committed) c.requires.long)

pub returns-then-becomes_stored-clause-after_2 : goal.returns-then-becomes_stored-clause-after_2
returns-then-becomes_stored-clause-after_2 c =
    let a = c.args in
    rw (
      c.copy_down.ensures,
      c.store_record.ensures,
      c.newest_at-at.ensures,
      c.record_size.ensures,
      sym c.becomes_stored.ensures ∙ c.if-becomes_stored.true,
    ) (stored_accepted_write a.n a.entry.now (record_in a.committed) c.requires.long)

pub returns-else-becomes_stored-clause-after : goal.returns-else-becomes_stored-clause-after
returns-else-becomes_stored-clause-after c =
    let a = c.args in
    rw (
      c.store_record.ensures,
      c.newest_at-at.ensures,
    ) (entry_accepted a.n a.entry.now (record_in a.committed) c.requires.long)

pub returns-else-becomes_stored-clause-after_2 : goal.returns-else-becomes_stored-clause-after_2
returns-else-becomes_stored-clause-after_2 c =
    let a = c.args in
    rw (
      c.store_record.ensures,
      c.newest_at-at.ensures,
      sym c.becomes_stored.ensures ∙ c.if-becomes_stored.false,
    ) (stored_accepted a.n a.entry.now (record_in a.committed) c.requires.long)
