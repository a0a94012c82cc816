-- `check_25` meets its contract: the matrices' order, then the two counts in the slot's row, looked at only where the order holds.
use Prim.Native.Nat.{◌-◌, min}
use mathlib.Core.Path.{◌≡◌, refl}
use mathlib.Core.Bool.{Bool, true, false, not, ◌&&◌, ◌||◌}
use native.Mathlib.Omega.{arith}
use lib.ListN.{get_or}
use Rattle.model.specs.Member.{check25}
use Rattle.rows.specs.Meaning.{no_row}
use Rattle.checks.proofs.Matrices.{row_of, count_of}
use Rattle.checks.proofs.steps.check_25.Goals as goal

both : (p q : Bool) {r : Bool} → r ≡ (not p || q) → (p && r) ≡ (p && q)
both true q e = e
both false q e = refl

pub returns-clause-passed_value : goal.returns-clause-passed_value
unfolding check25
returns-clause-passed_value c =
    let a = c.args in
    let m : min a.n 12 ≡ a.n = omega arith in
    let rows = rw m at c.matrix_below-rows.ensures.passed_value in
    rw (
      rows,
      row_of a.stored a.slot (omega arith) (omega arith),
      row_of a.newest a.slot (omega arith) (omega arith),
      count_of (get_or a.stored (a.slot - 1) no_row) a.slot (omega arith) (omega arith),
      count_of (get_or a.newest (a.slot - 1) no_row) a.slot (omega arith) (omega arith),
    ) (both _ _ (rw rows at c.equal-entry.ensures.passed_value))
