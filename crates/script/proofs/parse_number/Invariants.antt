use Prim.Native.Nat.{◌^◌, ◌<◌}
use mathlib.Core.Path.{◌≡◌}
use lib.ListN.{drop}
use Rattle.model.specs.Script.{digits_read}
use Rattle.script.proofs.parse_number.Given as goal

-- the digits passed write the value, and those left go on from it
abbrev pub invariant-loop-b : goal.invariant-loop-b
invariant-loop-b l = (l.value < 10 ^ l.b-index) × (digits_read l.value (drop l.b-index l.t) ≡ digits_read 0 l.t)
