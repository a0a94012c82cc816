-- `write_reply` meets its contract: the heading and the two records are written one behind the other.
use mathlib.Core.Path.{◌≡◌, refl, sym}
use mathlib.Core.List.{◌++◌}
use native.Mathlib.Omega.{arith}
use lib.ListN.{length}
use Rattle.model.specs.Messages.{length_of, record_at, record_bytes}
use Rattle.laws.proofs.Messages.{length_of_most, length-record_bytes, heading, reply_parts}
use Rattle.records.specs.Meaning.{record_in}
use Rattle.messages.specs.Meaning.{Fronted}
use Rattle.messages.proofs.Laws.{fronted_same, headed, fronted_record}
use Rattle.messages.proofs.writer.write_reply.Goals as goal
use Rattle.messages.proofs.writer.write_reply.Goals.{After-write_record}

-- What is known at each place, built on the place before.

front_first : (c : After-write_record) → let a = c.args in
    Fronted (heading (length_of 2 a.n) 2 a.n ++ record_bytes a.n (record_in a.newest)) a.t.now c.write_record.new.t
front_first c =
    let a = c.args in
    let l = c.write_heading.new.t in
    let front = headed 2 a.n a.t.now l c.length_of.ensures c.write_heading.ensures in
    fronted_record a.n (heading (length_of 2 a.n) 2 a.n) (record_in a.newest) a.t.now l c.write_record.new.t
    record_at refl front c.write_record.ensures

-- The goals.

pub write_heading-requires : goal.write_heading-requires
write_heading-requires c =
    (omega arith, omega (arith, c.length_of.ensures, length_of_most 2 c.args.n c.requires.1.0))

pub returns : goal.returns
returns c =
    let a = c.args in
    let front = heading (length_of 2 a.n) 2 a.n ++ record_bytes a.n (record_in a.newest) in
    let place : c.second_at.result ≡ length front =
    omega (arith, c.second_at.ensures, length-record_bytes a.n (record_in a.newest)) in
    fronted_same a.t.now c.write_record-2.new.t (sym (reply_parts a.n (record_in a.newest) (record_in a.stored)))
    (fronted_record a.n front (record_in a.stored) a.t.now c.write_record.new.t c.write_record-2.new.t
    c.second_at.result place (front_first (goal.at.returns c).After-write_record) c.write_record-2.ensures)
