-- `note` meets its contract: the words after the two stores and the phase are those of `noted_by`.
use native.Mathlib.Omega.{arith}
use mathlib.Core.Path.{◌∙◌, ◌≡◌, ap}
use lib.ListN.{length}
use Rattle.lists.specs.Parts.{words}
use Rattle.model.specs.Table.{accepted_at, block_size, first_at, known_at, last_at, member_of, pending_at, second_at}
use Rattle.laws.proofs.Steps.{holds_record, holds_set, noted_by}
use Rattle.records.specs.Meaning.{record_in}
use Rattle.member_block.proofs.Laws.{whole}
use Rattle.member_block.proofs.parts.note.Goals as goal
use Rattle.member_block.proofs.parts.note.Goals.{After-store_record-2}

kept : (c : After-store_record-2)
    → length c.store_record-2.new.t ≡ length c.args.block.now
kept c = c.store_record-2.auto.t ∙ c.store_record.auto.t

pub returns : goal.returns
unfolding block_size second_at first_at known_at pending_at last_at accepted_at
returns c =
    let a = c.args in
    let at = c.layout-at in
    let p = record_in a.first in
    let q = record_in a.second in
    let f = holds_record (whole c.requires) c.store_record.new.t a.n at.result.first p c.store_record.ensures
    (omega arith) in
    let g = holds_record f c.store_record-2.new.t a.n at.result.second q c.store_record-2.ensures
    (omega arith) in
    ap (member_of a.n) (holds_set g 0 a.phase (omega arith)).same
    ∙ rw (at.ensures.first, at.ensures.second) (noted_by a.n (words a.block.now) a.phase p q)
