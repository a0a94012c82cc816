-- What the reference and one who watches it agree on after every call: the invariant behind the history's half of demand 3.
-- Statements alone.
use Prim.Native.Nat.{ℕ, ◌≤◌, ◌<◌}
use mathlib.Core.Path.{◌≡◌}
use mathlib.Core.Bool.{Bool, true, false, not}
use mathlib.Core.List.{List, [], ◌∷◌, map}
use mathlib.Core.Option.{Option, some}
use Rattle.model.specs.Records.{Value, read}
use Rattle.model.specs.Reference.{Operation, RefMember, Reference, operation_of, ref_returned}
use Rattle.model.specs.History.{Op, Submit, Watch, decided_op, accepted_of, last_written, contested}
use Rattle.lists.specs.Every.{Every}
use Rattle.model.specs.Demand3.{RealTime}

-- A member's operation. Before the verdict, "overtaken" is what `contested` will say of it whenever the verdict comes.
pub record Running (phase : ℕ) (overtaken : Bool) (operation : Operation) (o : Op) (submits : List Submit) (steps : ℕ) : Type 0 where
  pub no_halt : phase ≤ 5
  pub as_given : 0 < phase → o.given ≡ operation
  pub began : o.begin_at ≤ steps
  pub submitted : o.submit_at ≤ steps
  pub fresh : phase ≡ 1 → overtaken ≡ false
  pub contest : 2 ≤ phase → phase ≤ 3 → (at : ℕ) (a : Bool) → steps < at → overtaken ≡ contested (decided_op at a o) submits

abbrev pub RunningAt : List Submit → ℕ → ℕ → RefMember → Op → Type 0
RunningAt submits steps i m o = Running m.phase m.overtaken (operation_of i m) o submits steps

-- v is right for o to return: of an accepted read it is the value last written before it
abbrev pub Right : Option Value → Op → List Op → Type 0
Right v o before =
    o.accepted ≡ true → o.given.operation ≡ read → v ≡ some (last_written o.given.slot (accepted_of before))

-- every operation that has completed returned what is right
abbrev pub Reads : List Op → Type 0
Reads [] = Unit {0}
Reads (o ∷ before) = (0 < o.end_at → Right o.returned o before) × Reads before

-- v is right for the newest operation of member i to return
abbrev pub Pending : ℕ → Option Value → List Op → Type 0
Pending i v [] = Unit {0}
Pending i v (o ∷ before) = (o.given.member ≡ i → Right v o before) × ((o.given.member ≡ i → ⊥) → Pending i v before)

-- the members in phases 4 and 5 are about to return what is right
abbrev pub PendingAt : List Op → ℕ → RefMember → Type 0
PendingAt decided i m = 4 ≤ m.phase → Pending i (ref_returned m) decided

-- an operation past its verdict
pub record Judged (steps : ℕ) (submits : List Submit) (o : Op) : Type 0 where
  pub began : o.begin_at ≤ steps
  pub decided : o.verdict_at ≤ steps
  pub verdict : o.accepted ≡ not (contested o submits)

-- all that has been taken and decided
pub record Past (steps : ℕ) (submits : List Submit) (ops : List Op) : Type 0 where
  pub taken : Every (λ s. s.at ≤ steps) submits
  pub judged : Every (Judged steps submits) ops
  pub reads : Reads ops
  pub real_time : RealTime ops

-- the reference's values and history are those of the accepted operations
pub record Book (values : ℕ → Value) (history : List Operation) (ops : List Op) : Type 0 where
  pub written : (r : ℕ) → values r ≡ last_written r (accepted_of ops)
  pub accepted : map (λ o. o.given) (accepted_of ops) ≡ history

pub record Agrees (ref : Reference) (w : Watch) : Type 0 where
  pub running : (i : ℕ) → RunningAt w.submits w.steps i (ref.members i) (w.running i)
  pub pending : (i : ℕ) → PendingAt w.decided i (ref.members i)
  pub past : Past w.steps w.submits w.decided
  pub book : Book ref.values ref.history w.decided
