-- `check_23` meets its contract: the two counts that are compared are read from their rows.
use native.Mathlib.Omega.{arith}
use lib.ListN.{get_or}
use Prim.Native.Nat.{◌-◌}
use Rattle.model.specs.Member.{check23}
use Rattle.rows.specs.Meaning.{no_row}
use Rattle.checks.proofs.Matrices.{row_of, count_of}
use Rattle.checks.proofs.steps.check_23.Goals as goal

pub returns-clause-passed_value : goal.returns-clause-passed_value
unfolding check23
returns-clause-passed_value c =
    let a = c.args in
    rw (
      row_of a.newest a.slot (omega arith) (omega arith),
      count_of (get_or a.newest (a.slot - 1) no_row) a.member (omega arith) (omega arith),
      count_of a.accepted a.slot (omega arith) (omega arith),
    ) c.equal.ensures.passed_value
