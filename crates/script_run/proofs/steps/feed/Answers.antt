-- `feed` meets its contract: what the bytes taken so far print stands at the front of the output, and a line more prints behind it.
use Prim.Native.Nat.{◌+◌, ◌≤◌, ◌<◌}
use mathlib.Core.Path.{refl, ◌∙◌}
use native.Mathlib.Omega.{arith}
use lib.ListN.{length}
use Rattle.script_run.specs.Feeding.{fed, printed_events}
use Rattle.script_run.proofs.States.{fed_into_more}
use Rattle.script_run.proofs.steps.feed.Goals as goal
use Rattle.script_run.proofs.steps.feed.Goals.{After-take_line-line}

-- The places.

-- What the line took is some of what was left.
record Further (c : After-take_line-line) : Type 0 where
  some : 0 < c.take_line-line.result.taken
  within : c.loop-taken.taken + c.take_line-line.result.taken ≤ length c.args.bytes.now

-- The needs.

pub loop-taken-init : goal.loop-taken-init
unfolding fed printed_events
loop-taken-init c =
    (record { within = omega arith; room = omega arith; ready = c.requires; state = refl; printed = refl }, (c.requires, refl))

pub loop-taken-preserved : goal.loop-taken-preserved
loop-taken-preserved c =
    let l = c.loop-taken in
    let a = c.args in
    let k = c.take_line-line in
    let o = c.print_event-at in (
      fed_into_more a.p a.table.now a.kept.now a.bytes.now
          (record { progress = l.progress; taken = l.taken; written = l.at })
          l.table l.kept l.out l.invariant.0 k.result k.new.table k.new.kept o.new.out o.result k.ensures
          o.ensures,
      (l.invariant.1.0, o.auto.out ∙ l.invariant.1.1),
    )
