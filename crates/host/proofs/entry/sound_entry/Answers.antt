-- `sound_entry` meets its contract: what is read lies in the entry; the check finds the rest.
use native.Mathlib.Omega.{arith}
use Rattle.host.proofs.EntryWords.{sizes}
use Rattle.host.proofs.entry.sound_entry.Goals as goal

pub bounds-entry-0 : goal.bounds-entry-0
bounds-entry-0 c =
    let s = sizes c.args.n in
    omega arith

pub sound_record-requires : goal.sound_record-requires
sound_record-requires c =
    let s = sizes c.args.n in
    omega arith

pub sound_record-requires-then-sound_record : goal.sound_record-requires-then-sound_record
sound_record-requires-then-sound_record c =
    let s = sizes c.args.n in
    omega arith
