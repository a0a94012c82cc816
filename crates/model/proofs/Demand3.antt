-- Demand 3, for every kind of board, every n and every list of calls from the opening: what is seen is what the reference says, of
-- which the history is proved.
use Prim.Native.Nat.{ℕ}
use mathlib.Core.List.{List}
use Rattle.model.specs.Kinds.{Kind}
use Rattle.model.specs.Board.{opened}
use Rattle.model.specs.Runs.{Call, run, boards}
use Rattle.model.specs.Demand3.{Demand3}
use Rattle.model.proofs.AsReference.{as_reference_lem, replies_checked}
use Rattle.model.proofs.History.{demand3_as_reference}

pub demand3 : (kind : Kind) (n : ℕ) (calls : List Call)
    → Demand3 kind n calls (boards kind n (opened n) calls) (run kind n (opened n) calls)
demand3 kind n calls =
    demand3_as_reference kind n calls (boards kind n (opened n) calls) (run kind n (opened n) calls)
    (as_reference_lem kind n calls) (replies_checked kind n calls)
