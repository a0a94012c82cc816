-- What the watcher's positions are: the steps at which the things happened, and no such step is left out. So the history's claims are
-- about what was done and seen, whatever the watcher's own definitions are. A step's number is its place in the list, from 1.
use Rattle.std.specs.Prelude.{ℕ, zero, suc, ◌+◌, ◌-◌, ◌<◌, ◌≡◌, Bool, false, cond, ◌&&◌, List, [], ◌∷◌, ◌⊎◌, eqb}
use Rattle.std.proofs.Math.Option.{Option, none, some}
use Rattle.lists.specs.Every.{Every, Some}
use Rattle.model.specs.Records.{Value, write, zero_value}
use Rattle.model.specs.Runs.{Call, begin, deliver, crash, Seen, Step, step}
use Rattle.model.specs.Reference.{Operation}
use Rattle.model.specs.History.{Op, Submit, Watch}

-- the step of a number, from 1; none where there is no such step
unfoldable pub step_at : List Call → List Seen → ℕ → Option Step
step_at [] seen k = none
step_at (call ∷ calls) [] k = none
step_at (call ∷ calls) (s ∷ seen) k = cond (eqb k 1) (some (step call s)) (step_at calls seen (k - 1))

-- Which step it was.

-- the begin, answered 0, that gave this operation: a read is given no value
abbrev pub IsBegin : Operation → Option Step → Type 0
IsBegin o none = ⊥
IsBegin o (some (step (begin i r t v) s)) =
    (s.answer ≡ 0) × (o ≡ record { member = i; slot = r; operation = t; value = cond (eqb t write) v zero_value })
IsBegin o (some (step (deliver i) s)) = ⊥
IsBegin o (some (step (crash i) s)) = ⊥

-- a deliver of member i, answered 0, after which its phase is p and at which v was returned
abbrev pub IsDeliver : ℕ → ℕ → Option Value → Option Step → Type 0
IsDeliver i p v none = ⊥
IsDeliver i p v (some (step (begin j r t w) s)) = ⊥
IsDeliver i p v (some (step (deliver j) s)) = (j ≡ i) × (s.answer ≡ 0) × (s.phases i ≡ p) × (s.returned ≡ v)
IsDeliver i p v (some (step (crash j) s)) = ⊥

-- is it a begin by member i, answered 0
unfoldable pub began_by : ℕ → Option Step → Bool
began_by i none = false
began_by i (some (step (begin j r t v) s)) = eqb j i && eqb s.answer 0
began_by i (some (step (deliver j) s)) = false
began_by i (some (step (crash j) s)) = false

-- how many of the steps 1 to k are: up to an operation's own begin, its ordinal
unfoldable pub begun_count : (ℕ → Option Step) → ℕ → ℕ → ℕ
begun_count at i zero = 0
begun_count at i (suc k) = begun_count at i k + cond (began_by i (at (suc k))) 1 0

-- The operations of a watch, given the step of each number.

-- the one that member i began last, as it was before its verdict
pub record Begun (at : ℕ → Option Step) (i : ℕ) (o : Op) : Type 0 where
  pub member : 0 < o.begin_at → o.given.member ≡ i
  pub began : 0 < o.begin_at → IsBegin o.given (at o.begin_at)
  pub ordinal : o.ordinal ≡ begun_count at i o.begin_at
  pub submitted : 0 < o.submit_at → IsDeliver i 2 none (at o.submit_at)
  pub in_order : 0 < o.submit_at → o.begin_at < o.submit_at
  pub undecided : (o.verdict_at ≡ 0) × (o.accepted ≡ false) × (o.end_at ≡ 0) × (o.returned ≡ none)

-- one that has reached its verdict: phase 4 after its commit was taken if it was accepted, else 5
pub record Decided (at : ℕ → Option Step) (o : Op) : Type 0 where
  pub began : IsBegin o.given (at o.begin_at)
  pub ordinal : o.ordinal ≡ begun_count at o.given.member o.begin_at
  pub submitted : IsDeliver o.given.member 2 none (at o.submit_at)
  pub judged : IsDeliver o.given.member (cond o.accepted 4 5) none (at o.verdict_at)
  pub ended : 0 < o.end_at → IsDeliver o.given.member 0 o.returned (at o.end_at)
  pub in_order : (0 < o.begin_at) × (o.begin_at < o.submit_at) × (o.submit_at < o.verdict_at)
  pub last : 0 < o.end_at → o.verdict_at < o.end_at
  pub unended : o.end_at ≡ 0 → o.returned ≡ none

-- A member's operations come one after the other. Of two that have reached their verdict, p the older: its verdict came first, and if both
-- are of one member, it had ended before the other began.
abbrev pub After : Op → Op → Type 0
After o p = (p.verdict_at < o.verdict_at) × (p.given.member ≡ o.given.member → (0 < p.end_at) × (p.end_at < o.begin_at))

-- the newest first
abbrev pub InTurn : List Op → Type 0
InTurn [] = Unit {0}
InTurn (o ∷ older) = Every (After o) older × InTurn older

-- an operation of member i of which P holds, with its verdict or without
abbrev pub Known : Watch → ℕ → (Op → Type 0) → Type 0
Known w i P = P (w.running i) ⊎ Some (λ o. (o.given.member ≡ i) × P o) w.decided

-- a submit is that of an operation of its member, on its slot
abbrev pub Submitted : Watch → Submit → Type 0
Submitted w s = Known w s.member (λ o. (o.submit_at ≡ s.at) × (o.given.slot ≡ s.slot))

-- The step `at`, answered 0, has its place in the watch.

abbrev pub Placed : Watch → ℕ → Call → Seen → Type 0
Placed w at (begin i r t v) s = Known w i (λ o. o.begin_at ≡ at)
Placed w at (deliver i) s =
    (s.phases i ≡ 2 → Known w i (λ o. o.submit_at ≡ at))
    × (s.phases i ≡ 2 → Some (λ u. (u.member ≡ i) × (u.at ≡ at)) w.submits)
    × (s.phases i ≡ 4 ⊎ s.phases i ≡ 5 → Some (λ o. (o.given.member ≡ i) × (o.verdict_at ≡ at)) w.decided)
    × (s.phases i ≡ 0 → Some (λ o. (o.given.member ≡ i) × (o.end_at ≡ at)) w.decided)
Placed w at (crash i) s = Unit {0}

-- every step from number `at` on
abbrev pub AllPlaced : Watch → ℕ → List Call → List Seen → Type 0
AllPlaced w at [] seen = Unit {0}
AllPlaced w at (call ∷ calls) [] = ⊥
AllPlaced w at (call ∷ calls) (s ∷ seen) = (s.answer ≡ 0 → Placed w at call s) × AllPlaced w (at + 1) calls seen

pub record Positions (calls : List Call) (seen : List Seen) (w : Watch) : Type 0 where
  pub running : (i : ℕ) → Begun (step_at calls seen) i (w.running i)
  pub decided : Every (Decided (step_at calls seen)) w.decided
  pub in_turn : InTurn w.decided
  pub submits : Every (Submitted w) w.submits
  pub complete : AllPlaced w 1 calls seen
