-- `own_record` meets its contract: the fields are read where the layout says, and `own_built` says that they are the member's own record.
use Rattle.model.specs.Table.{member_of}
use Rattle.lists.specs.Parts.{words}
use Rattle.records.specs.Meaning.{record_in}
use Rattle.member_block.proofs.Laws.{own_built}
use Rattle.member_block.proofs.parts.own_record.Goals as goal

pub returns : goal.returns
unfolding member_of record_in
returns c =
    let a = c.args in
    let p = c.requires in
    let at = c.layout-at.ensures in
    own_built a.n a.member (words a.block.now) (record_in a.newest) c.load_value-value.result a.known
    c.joined_matrix-matrix.result
    p.1.0 p.0.slot (rw at.pending at c.load_value-value.ensures) p.1.1 c.joined_matrix-matrix.ensures
