-- `is_written` meets its contract: each word passed is the written one, so all eight are where the loop ends.
use mathlib.Core.Path.{sym, ◌∙◌}
use native.Mathlib.Omega.{arith}
use Rattle.logs.specs.Log.{holding, failing}
use Rattle.log_check.proofs.Values.{value_written, value_apart}
use Rattle.log_check.proofs.rows.is_written.Goals as goal

pub returns-then-log-value : goal.returns-then-log-value
returns-then-log-value c =
    failing (value_apart _ _ _ c.loop-i.i (omega arith) (λ e. c.if-log-value.true (e ∙ sym c.written_word.ensures)))

pub returns : goal.returns
returns c = holding (value_written _ _ _ (λ j h. c.loop-i.invariant j (omega arith)))
