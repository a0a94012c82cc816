-- `concur_log_check` meets its contract: what refuses the log answers, or the verdict is whether each row holds.
use mathlib.Core.Path.{sym, ◌∙◌}
use native.Mathlib.Omega.{arith}
use Rattle.log_check.proofs.Verdict.{taken, word_of, checked}
use Rattle.log_check.proofs.concur_log_check.Goals as goal

pub rows_hold-requires : goal.rows_hold-requires
rows_hold-requires c = (taken _ _ _ (sym c.in_default.ensures)).0

pub bounds-verdict-0 : goal.bounds-verdict-0
bounds-verdict-0 c = omega (arith, (taken _ _ _ (sym c.in_default.ensures)).1)

pub returns : goal.returns
returns c =
    rw (c.from.ensures ∙ word_of c.rows_hold.result)
    (checked _ _ _ c.rows_hold.result (sym c.in_default.ensures) c.rows_hold.ensures)
