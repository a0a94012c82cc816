-- What is known of the watcher's positions after every step: the invariant behind the positions' part of demand 3. One step of the
-- watch is one of six moves (`Moved`). Statements alone, but for one that each move shows.
use Prim.Native.Nat.{ℕ, ◌+◌, ◌≤◌, ◌<◌}
use mathlib.Core.Path.{◌≡◌, refl}
use mathlib.Core.Bool.{Bool, false, cond}
use mathlib.Core.List.{List, [], ◌∷◌}
use mathlib.Core.Logic.{◌⊎◌}
use mathlib.Core.Option.{Option, none}
use Rattle.lists.specs.Functions.{put}
use Rattle.lists.specs.Every.{Every, Some}
use Rattle.model.specs.Records.{Value}
use Rattle.model.specs.Runs.{Call, begin, deliver, crash, Seen, Step}
use Rattle.model.specs.History.{Op, Submit, Watch, begun_op, submitted_op, submit_of, decided_op, ended_op, ended}
use Rattle.model.specs.Positions.{IsBegin, IsDeliver, began_by, begun_count, Begun, Decided}

-- The six moves of a watch and of the phases, given the step of each number.

abbrev pub later : Watch → Watch
later w = record { steps = w.steps + 1; running = w.running; submits = w.submits; decided = w.decided }

abbrev pub with_running : Watch → ℕ → Op → List Submit → Watch
with_running w i o submits = record { steps = w.steps + 1; running = put w.running i o; submits = submits; decided = w.decided }

abbrev pub with_decided : Watch → List Op → Watch
with_decided w ops = record { steps = w.steps + 1; running = w.running; submits = w.submits; decided = ops }

-- the operation that member i begins at the next step
abbrev pub next_op : Watch → ℕ → ℕ → ℕ → Value → Op
next_op w i r t v = begun_op (w.steps + 1) i r t v (w.running i)

pub data Moved (look : ℕ → Option Step) (p : ℕ → ℕ) (w : Watch) : (ℕ → ℕ) → Watch → Type 0 where
  -- no begin and no deliver was answered 0
  stays : ((k : ℕ) → began_by k (look (w.steps + 1)) ≡ false) → ((i q : ℕ) (v : Option Value) → IsDeliver i q v (look (w.steps + 1)) → ⊥)
      → Moved look p w p (later w)
  begins : (i r t : ℕ) (v : Value) → p i ≡ 0 → IsBegin (next_op w i r t v).given (look (w.steps + 1))
      → Moved look p w (put p i 1) (with_running w i (next_op w i r t v) w.submits)
  submits : (i : ℕ) → p i ≡ 1 → IsDeliver i 2 none (look (w.steps + 1))
      → Moved look p w (put p i 2) (with_running w i (submitted_op (w.steps + 1) (w.running i))
      (submit_of (w.steps + 1) i (w.running i) ∷ w.submits))
  replies : (i : ℕ) (v : Option Value) → p i ≡ 2 → IsDeliver i 3 v (look (w.steps + 1)) → Moved look p w (put p i 3) (later w)
  judges : (i : ℕ) (a : Bool) → p i ≡ 3 → IsDeliver i (cond a 4 5) none (look (w.steps + 1))
      → Moved look p w (put p i (cond a 4 5)) (with_decided w (decided_op (w.steps + 1) a (w.running i) ∷ w.decided))
  ends : (i : ℕ) (v : Option Value) → 4 ≤ p i → IsDeliver i 0 v (look (w.steps + 1))
      → Moved look p w (put p i 0) (with_decided w (ended i (w.steps + 1) v w.decided))

pub moved_steps : {look : ℕ → Option Step} {p q : ℕ → ℕ} {w x : Watch} → Moved look p w q x → x.steps ≡ w.steps + 1
moved_steps (stays q d) = refl
moved_steps (begins i r t v z b) = refl
moved_steps (submits i e d) = refl
moved_steps (replies i v e d) = refl
moved_steps (judges i a e d) = refl
moved_steps (ends i v h d) = refl

-- What is known of the positions so far.

pub record RunningPlace (look : ℕ → Option Step) (i phase steps : ℕ) (o : Op) : Type 0 where
  pub placed : Begun look i o
  pub has_begun : 1 ≤ phase → 0 < o.begin_at
  pub has_submitted : 2 ≤ phase → 0 < o.submit_at
  -- the last that its member has begun so far
  pub newest : o.ordinal ≡ begun_count look i steps
  pub began : o.begin_at ≤ steps
  pub submitted : o.submit_at ≤ steps

-- the newest decided operation of member i has not ended
abbrev pub Unended : ℕ → List Op → Type 0
Unended i [] = ⊥
Unended i (o ∷ ops) = (o.given.member ≡ i → o.end_at ≡ 0) × ((o.given.member ≡ i → ⊥) → Unended i ops)

pub record Places (look : ℕ → Option Step) (p : ℕ → ℕ) (w : Watch) : Type 0 where
  pub running : (i : ℕ) → RunningPlace look i (p i) w.steps (w.running i)
  pub decided : Every (λ o. Decided look o × (o.verdict_at ≤ w.steps)) w.decided
  pub waiting : (i : ℕ) → 4 ≤ p i → Unended i w.decided

-- an operation of member i of which P holds; it may be one without a verdict from phase `low` on
pub data Found (low : ℕ) (P : Op → Type 0) (i phase : ℕ) (o : Op) (ops : List Op) : Type 0 where
  runs : low ≤ phase → phase ≤ 3 → P o → Found low P i phase o ops
  decided : Some (λ x. (x.given.member ≡ i) × P x) ops → Found low P i phase o ops

abbrev pub FoundIn : ℕ → (Op → Type 0) → (ℕ → ℕ) → Watch → ℕ → Type 0
FoundIn low P p w i = Found low P i (p i) (w.running i) w.decided

-- P is about what a position is set to once: by the submit from phase 2 on, by the verdict from phase 4 on, by the end
pub record Stable (low : ℕ) (P : Op → Type 0) : Type 0 where
  pub starts : 1 ≤ low
  pub submitted : (at : ℕ) (o : Op) → low ≤ 1 → P o → P (submitted_op at o)
  pub decided : (at : ℕ) (a : Bool) (o : Op) → low ≤ 3 → P o → P (decided_op at a o)
  pub ended : (at : ℕ) (v : Option Value) (o : Op) → o.end_at ≡ 0 → P o → P (ended_op at v o)

-- a step has its place in the watch
abbrev pub PlacedIn : (ℕ → ℕ) → Watch → ℕ → Call → Seen → Type 0
PlacedIn p w k (begin i r t v) s = FoundIn 1 (λ o. o.begin_at ≡ k) p w i
PlacedIn p w k (deliver i) s =
    (s.phases i ≡ 2 → FoundIn 2 (λ o. o.submit_at ≡ k) p w i)
    × (s.phases i ≡ 2 → Some (λ u. (u.member ≡ i) × (u.at ≡ k)) w.submits)
    × (s.phases i ≡ 4 ⊎ s.phases i ≡ 5 → FoundIn 4 (λ o. o.verdict_at ≡ k) p w i)
    × (s.phases i ≡ 0 → FoundIn 4 (λ o. o.end_at ≡ k) p w i)
PlacedIn p w k (crash i) s = Unit {0}

-- a taken submit is that of an operation of its member
abbrev pub Taken : (ℕ → ℕ) → Watch → Submit → Type 0
Taken p w s = FoundIn 2 (λ o. (o.submit_at ≡ s.at) × (o.given.slot ≡ s.slot)) p w s.member
