-- `note_first` meets its contract: the words after the store and the phase are those of `first_noted_by`.
use native.Mathlib.Omega.{arith}
use mathlib.Core.Path.{◌∙◌, ap}
use Rattle.lists.specs.Parts.{words}
use Rattle.model.specs.Table.{accepted_at, block_size, first_at, known_at, last_at, member_of, pending_at, second_at}
use Rattle.laws.proofs.Steps.{holds_record, holds_set}
use Rattle.records.specs.Meaning.{record_in}
use Rattle.member_block.proofs.Laws.{first_noted_by, whole}
use Rattle.member_block.proofs.parts.note_first.Goals as goal

pub returns : goal.returns
unfolding block_size second_at first_at known_at pending_at last_at accepted_at
returns c =
    let a = c.args in
    let r = record_in a.first in
    let f = holds_record (whole c.requires) c.store_record.new.t a.n c.layout-at.result.first r
    c.store_record.ensures (omega arith) in
    let e = holds_set f 0 a.phase (omega arith) in
    ap (member_of a.n) e.same ∙ rw c.layout-at.ensures.first (first_noted_by a.n (words a.block.now) a.phase r)
