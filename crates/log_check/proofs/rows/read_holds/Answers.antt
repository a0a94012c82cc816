-- `read_holds` meets its contract: the clause is about ended reads alone, and of those it is what `is_written` says.
use Prim.Native.Nat.{◌<◌}
use native.Mathlib.Omega.{arith}
use Rattle.logs.specs.Log.{holding}
use Rattle.log_check.proofs.Values.{said}
use Rattle.log_check.proofs.rows.read_holds.Goals as goal
use Rattle.log_check.proofs.rows.read_holds.Goals.{then-operation-ne-READ-via-then-operation-ne-READ}
use Rattle.log_check.proofs.rows.read_holds.Goals.{then-operation-ne-READ-via-else-operation-ne-READ+then-end-eq0}

pub returns-then-operation-ne-READ : goal.returns-then-operation-ne-READ
returns-then-operation-ne-READ c = holding (λ e h. elim c.then-operation-ne-READ.branch [
  | then-operation-ne-READ-via-then-operation-ne-READ w ↦ absurd (w.if-operation-ne-READ.true e)
  | then-operation-ne-READ-via-else-operation-ne-READ+then-end-eq0 w ↦ absurd (omega (arith, w.if-end-eq0.true, h))
])

pub returns : goal.returns
returns c =
    let ended : 0 < c.args.end = omega (arith, c.if-end-eq0.false) in
    said (λ same e h. same) (λ f. f c.if-operation-ne-READ.false ended) c.is_written.ensures
