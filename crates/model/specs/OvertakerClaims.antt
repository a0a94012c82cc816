-- What is claimed of an overtaker that is named, and of none: about the steps of the run alone, whatever the watcher's own definitions are.
use Rattle.std.specs.Prelude.{ℕ, zero, suc, ◌<◌, ◌≡◌, cond, ◌&&◌, List, [], ◌∷◌, eqb}
use Rattle.std.proofs.Math.Option.{Option, none, some}
use Rattle.model.specs.Records.{read, write, zero_value}
use Rattle.model.specs.Runs.{Call, begin, deliver, crash, Seen, Step, step}
use Rattle.model.specs.History.{Submit}
use Rattle.model.specs.Positions.{IsDeliver, begun_count}

-- the slot of the operation that member i began last, up to step k: 0 where it has begun none

unfoldable pub slot_after : ℕ → Option Step → ℕ → ℕ
slot_after i none before = before
slot_after i (some (step (begin j r t v) s)) before = cond (eqb j i && eqb s.answer 0) r before
slot_after i (some (step (deliver j) s)) before = before
slot_after i (some (step (crash j) s)) before = before

unfoldable pub slot_begun : (ℕ → Option Step) → ℕ → ℕ → ℕ
slot_begun at i zero = 0
slot_begun at i (suc k) = slot_after i (at (suc k)) (slot_begun at i k)

-- step k is a deliver at which the host took a submit of member j on slot r
abbrev pub TakesSubmit : (ℕ → Option Step) → ℕ → ℕ → ℕ → Type 0
TakesSubmit at k j r = IsDeliver j 2 none (at k) × (slot_begun at j k ≡ r)

-- Member i's k-th operation was aborted: its submit and its commit were taken at these steps, when it had begun k.
pub record Aborted (at : ℕ → Option Step) (i k submit_at verdict_at : ℕ) : Type 0 where
  pub submit : IsDeliver i 2 none (at submit_at)
  pub verdict : IsDeliver i 5 none (at verdict_at)
  pub its_submit : begun_count at i submit_at ≡ k
  pub its_verdict : begun_count at i verdict_at ≡ k

-- Member j overtook it at step t: a deliver of j at which the host took a submit on the operation's slot in between, "with none earlier".
pub record Overtook (at : ℕ → Option Step) (i k j t : ℕ) : Type 0 where
  pub submit_at : ℕ
  pub verdict_at : ℕ
  pub aborted : Aborted at i k submit_at verdict_at
  pub takes : TakesSubmit at t j (slot_begun at i submit_at)
  pub between : (submit_at < t) × (t < verdict_at)
  pub first : (u m : ℕ) → submit_at < u → u < t → TakesSubmit at u m (slot_begun at i submit_at) → ⊥

abbrev pub NotAborted : (ℕ → Option Step) → ℕ → ℕ → Type 0
NotAborted at i k = (submit_at verdict_at : ℕ) → Aborted at i k submit_at verdict_at → ⊥

-- Both answers: an operation that was aborted always has one.
abbrev pub Answered : (ℕ → Option Step) → ℕ → ℕ → Option Submit → Type 0
Answered at i k (some s) = Overtook at i k s.member s.at
Answered at i k none = NotAborted at i k

-- A run by hand, for the words above: member 1's write on its slot (steps 1, 2, 6, 7) is overtaken by member 2's read of that slot (3 and
-- 5); in between member 2's begin on its own slot is refused (4).

abbrev pub sample_calls : List Call
sample_calls =
    begin 1 1 write zero_value ∷ deliver 1 ∷ begin 2 1 read zero_value ∷ begin 2 2 read zero_value ∷ deliver 2 ∷ deliver 1 ∷ deliver 1 ∷ []

-- the answer, and the phases of members 1 and 2 after it
abbrev pub sample_step : ℕ → ℕ → ℕ → Seen
sample_step answer one two = record { answer = answer; phases = λ i. cond (eqb i 1) one two; returned = none }

abbrev pub sample_seen : List Seen
sample_seen =
    sample_step 0 1 0 ∷ sample_step 0 2 0 ∷ sample_step 0 2 1 ∷ sample_step 8 2 1 ∷ sample_step 0 2 2 ∷ sample_step 0 3 2 ∷
    sample_step 0 5 2 ∷ []

pub record SampleOvertaken (at : ℕ → Option Step) : Type 0 where
  pub slots : (slot_begun at 1 7 ≡ 1) × ((slot_begun at 2 2 ≡ 0) × (slot_begun at 2 5 ≡ 1))
  pub takes : TakesSubmit at 2 1 1 × TakesSubmit at 5 2 1
  pub takes_not : (TakesSubmit at 5 2 2 → ⊥) × ((TakesSubmit at 5 1 1 → ⊥) × (TakesSubmit at 6 1 1 → ⊥))
  pub aborted : Aborted at 1 1 2 7
  pub aborted_not : (Aborted at 1 2 2 7 → ⊥) × ((Aborted at 1 1 2 6 → ⊥) × (Aborted at 2 1 5 7 → ⊥))
  pub overtook : Overtook at 1 1 2 5
  pub overtook_not : Overtook at 1 1 1 2 → ⊥
