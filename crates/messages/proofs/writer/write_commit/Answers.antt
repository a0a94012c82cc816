-- `write_commit` meets its contract: the heading and the record are written one behind the other.
use mathlib.Core.Path.{refl, sym}
use native.Mathlib.Omega.{arith}
use Rattle.model.specs.Messages.{length_of, record_at}
use Rattle.laws.proofs.Messages.{length_of_most, heading, commit_parts}
use Rattle.records.specs.Meaning.{record_in}
use Rattle.messages.proofs.Laws.{fronted_same, headed, fronted_record}
use Rattle.messages.proofs.writer.write_commit.Goals as goal

pub write_heading-requires : goal.write_heading-requires
write_heading-requires c =
    (omega arith, omega (arith, c.length_of.ensures, length_of_most 3 c.args.n c.requires.1.0))

pub returns : goal.returns
returns c =
    let a = c.args in
    let l = c.write_heading.new.t in
    let front = headed 3 a.n a.t.now l c.length_of.ensures c.write_heading.ensures in
    fronted_same a.t.now c.write_record.new.t (sym (commit_parts a.n (record_in a.r)))
    (fronted_record a.n (heading (length_of 3 a.n) 3 a.n) (record_in a.r) a.t.now l c.write_record.new.t record_at refl
    front c.write_record.ensures)
