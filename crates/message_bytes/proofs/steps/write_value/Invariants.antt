use Prim.Native.Nat.{◌*◌}
use mathlib.Core.Path.{◌≡◌}
use Rattle.lists.specs.Functions.{pasted}
use Rattle.lists.specs.Parts.{words}
use Rattle.model.specs.Messages.{byte_in}
use Rattle.message_bytes.proofs.steps.write_value.Given as goal

abbrev pub invariant-loop-i : goal.invariant-loop-i
invariant-loop-i l = words l.t ≡ pasted l.at (l.i * 4) (byte_in (words l.value)) (words l.initial.t)
