-- `commit_of` meets its contract: the fields are read where the layout says, and are those of the record that is sent.
use Rattle.member_block.proofs.Laws.{sent_built}
use Rattle.member_block.proofs.Sizes.{running_slot}
use Rattle.member_block.proofs.steps.commit_of.Goals as goal

pub returns : goal.returns
returns c =
    sent_built c.args.n _ _ _ _ c.layout-at.ensures (running_slot _ _ c.requires) c.load_value-value.ensures
    c.load_matrix-matrix.ensures
