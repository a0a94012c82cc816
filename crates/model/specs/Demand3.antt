-- Demand 3, whole: what is claimed of every list of calls from an opened board with an honest host.
use Rattle.std.specs.Prelude.{ℕ, ◌<◌, ◌≡◌, not, List, [], ◌∷◌, map}
use Rattle.std.proofs.Math.Option.{some}
use Rattle.lists.specs.Every.{Every}
use Rattle.model.specs.Records.{read}
use Rattle.model.specs.Kinds.{Kind}
use Rattle.model.specs.Board.{Board}
use Rattle.model.specs.Runs.{Call, Seen}
use Rattle.model.specs.Reference.{ref_opened, ref_run, ref_left}
use Rattle.model.specs.History.{Op, watched, accepted_of, last_written, contested}
use Rattle.model.specs.Positions.{Positions}
use Rattle.model.specs.ReplyChecks.{Checked}

-- Of accepted operations, newest first: each read that has completed returned the value of the last write to its slot before it in the
-- order of acceptance, or the opening one.
abbrev pub Serial : List Op → Type 0
Serial [] = Unit {0}
Serial (o ∷ before) =
    (o.given.operation ≡ read → 0 < o.end_at → o.returned ≡ some (last_written o.given.slot before)) × Serial before

-- ".. an operation that completed before another began stands before it": none that stands later completed before it began
abbrev pub RealTime : List Op → Type 0
RealTime [] = Unit {0}
RealTime (o ∷ before) = Every (λ p. 0 < o.end_at → o.end_at < p.begin_at → ⊥) before × RealTime before

-- The claim about a run: `seen` is what was seen from outside at each of `calls`. Only `checked` looks inside, at the board on which each
-- call was made.
pub record Demand3 (kind : Kind) (n : ℕ) (calls : List Call) (boards : List Board) (seen : List Seen) : Type 0 where
  -- "Equal to the book at each call: the answer, every member's phase after it, and the sheet returned, all 8 words, or none."
  pub as_reference : seen ≡ ref_run kind n ref_opened calls
  -- nobody halts
  pub no_halt : Every (λ s. (k : ℕ) → s.phases k ≡ 6 → ⊥) seen
  -- though every reply a member took went through all of the checks
  pub checked : Checked n calls boards seen
  -- the accepted operations are the reference's history, in the order of acceptance
  pub history : map (λ o. o.given) (accepted_of (watched calls seen).decided) ≡ (ref_left kind n ref_opened calls).history
  -- and they form a serial history that keeps the order of real time
  pub serial : Serial (accepted_of (watched calls seen).decided)
  pub real_time : RealTime (accepted_of (watched calls seen).decided)
  -- an operation that reached its verdict was aborted exactly when the host took another submit for its slot in between
  pub aborts : Every (λ o. o.accepted ≡ not (contested o (watched calls seen).submits)) (watched calls seen).decided
  -- the positions that these speak of are the steps at which the things happened, and none is left out
  pub positions : Positions calls seen (watched calls seen)
