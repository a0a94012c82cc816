-- What is claimed of a step that cost an operation, of none, and of the operations of its member where another's step is left out: about
-- the steps of the runs alone, whatever the watcher's own definitions are. Everywhere `at s` is the step of each number in the run
-- without step s, and `at 0` in the whole run.
use Rattle.std.specs.Prelude.{ℕ, ◌-◌, ◌≤◌, ◌<◌, ◌≡◌, Bool, true, false, cond, ◌&&◌, ◌||◌, List, [], ◌∷◌, eqb, leb, length}
use Rattle.std.proofs.Math.Option.{Option, none, some}
use Rattle.model.specs.Runs.{Call, begin, deliver, crash, Seen, Step, step}
use Rattle.model.specs.Positions.{IsDeliver, began_by, begun_count}
use Rattle.model.specs.Script.{caller, lines_of}
use Rattle.model.specs.Overtaker.{refuses, overtaker}
use Rattle.model.specs.OvertakerClaims.{sample_step}
use Rattle.model.specs.Cause.{refused, cause}

-- Both answers.

-- Member i's k-th operation was accepted: its commit was taken at a step when it had begun k, and its phase was then 4.
pub record Accepted (at : ℕ → Option Step) (i k : ℕ) : Type 0 where
  pub verdict_at : ℕ
  pub verdict : IsDeliver i 4 none (at verdict_at)
  pub its_verdict : begun_count at i verdict_at ≡ k

-- "step of another member": of another than i, begin, deliver or crash, refused or not
abbrev pub OfAnother : ℕ → Option Step → Type 0
OfAnother i none = ⊥
OfAnother i (some (step call s)) = caller call ≡ i → ⊥

-- step s cost member i its k-th operation: it is another's, and without it the operation was accepted
pub record Costs (at : ℕ → ℕ → Option Step) (i k s : ℕ) : Type 0 where
  pub another : OfAnother i (at 0 s)
  pub accepted : Accepted (at s) i k

-- it is the first that did: without s the operation was accepted, and without no earlier step of another
pub record FirstCost (at : ℕ → ℕ → Option Step) (i k s : ℕ) : Type 0 where
  pub costs : Costs at i k s
  pub first : (t : ℕ) → t < s → Costs at i k t → ⊥

-- where none is found, it was accepted without no step of another
abbrev pub CauseAnswered : (ℕ → ℕ → Option Step) → ℕ → ℕ → Option ℕ → Type 0
CauseAnswered at i k (some s) = FirstCost at i k s
CauseAnswered at i k none = (t : ℕ) → Costs at i k t → ⊥

-- That a member and an ordinal name the same operation where another's step is left out.

-- the number of step k where step s is left out; at s itself, that of the step before it
abbrev pub number_without : ℕ → ℕ → ℕ
number_without s k = cond (leb s k) (k - 1) k

-- is it a deliver at which the host judged an operation of member i
unfoldable pub judged_by : ℕ → Option Step → Bool
judged_by i none = false
judged_by i (some (step (begin j r t v) s)) = false
judged_by i (some (step (deliver j) s)) = eqb j i && (eqb s.answer 0 && (eqb (s.phases i) 4 || eqb (s.phases i) 5))
judged_by i (some (step (crash j) s)) = false

-- the same phase, but for accepted (4) against aborted (5)
pub data SamePhase : ℕ → ℕ → Type 0 where
  same : (p : ℕ) → SamePhase p p
  judged : (a b : Bool) → SamePhase (cond a 4 5) (cond b 4 5)

-- what is seen at a call in both runs: the same answer where it is member i's, and i's phase after it is the same, but for the verdict
pub record SameSeen (i : ℕ) (call : Call) (s t : Seen) : Type 0 where
  pub answer : caller call ≡ i → s.answer ≡ t.answer
  pub phase : SamePhase (s.phases i) (t.phases i)

-- the same call, and that of it
abbrev pub SameStep : ℕ → Option Step → Option Step → Type 0
SameStep i none none = Unit {0}
SameStep i none (some (step d t)) = ⊥
SameStep i (some (step c s)) none = ⊥
SameStep i (some (step c s)) (some (step d t)) = (c ≡ d) × SameSeen i c s t

-- Of the runs `whole`, and `left` without its step s.
pub record SameOperations (whole left : ℕ → Option Step) (i s : ℕ) : Type 0 where
  pub steps : (k : ℕ) → 0 < k → (k ≡ s → ⊥) → SameStep i (whole k) (left (number_without s k))
  -- it does not move which begins of member i are answered 0
  pub begins : (k : ℕ) → 0 < k → (k ≡ s → ⊥) → began_by i (left (number_without s k)) ≡ began_by i (whole k)
  -- nor at which of its lines its verdicts fall
  pub verdicts : (k : ℕ) → 0 < k → (k ≡ s → ⊥) → judged_by i (left (number_without s k)) ≡ judged_by i (whole k)
  -- so that after each line the member has begun as many operations
  pub ordinals : (k : ℕ) → begun_count left i (number_without s k) ≡ begun_count whole i k

-- The refusals, in their order.
pub record RefusalsInOrder (input : List ℕ) (i k : ℕ) : Type 0 where
  -- "17 for .. a longer script"
  pub too_long : 65535 < length input → cause input i k ≡ refused 17
  -- "then 35, more than 256 lines after the first, before any is read"
  pub too_many : (first : List ℕ) (lines : List (List ℕ)) → length input ≤ 65535 → lines_of input ≡ first ∷ lines → 256 < length lines
      → cause input i k ≡ refused 35
  -- "then 17, 1 and 31 as for the earlier tool"
  pub as_earlier : (first : List ℕ) (lines : List (List ℕ)) → length input ≤ 65535 → lines_of input ≡ first ∷ lines → length lines ≤ 256
      → (number : ℕ) → overtaker input i k ≡ refuses number → cause input i k ≡ refused number
  pub no_line : length input ≡ 0 → cause input i k ≡ refused 17

-- The run by hand of OvertakerClaims.antt without its step 3, member 2's begin: that member's begin on its own slot, refused before, is now
-- answered 0, the submit is on that slot, and member 1's write is accepted.

abbrev pub left_seen : List Seen
left_seen = sample_step 0 1 0 ∷ sample_step 0 2 0 ∷ sample_step 0 2 1 ∷ sample_step 0 2 2 ∷ sample_step 0 3 2 ∷ sample_step 0 4 2 ∷ []

pub record SampleCaused (whole left : ℕ → Option Step) : Type 0 where
  pub another : OfAnother 1 (whole 3)
  pub another_not : (OfAnother 1 (whole 2) → ⊥) × (OfAnother 1 (whole 8) → ⊥)
  pub accepted : Accepted left 1 1
  pub judges : (judged_by 1 (whole 7) ≡ true) × (judged_by 1 (left 6) ≡ true)
  pub judges_not : (judged_by 1 (whole 6) ≡ false) × (judged_by 2 (whole 7) ≡ false)
  pub numbers : (◌≡◌ {A = ℕ} (number_without 3 2) 2) × (◌≡◌ {A = ℕ} (number_without 3 4) 3)
  pub same : SameStep 1 (whole 7) (left 6)
  pub same_not : (SameStep 2 (whole 4) (left 3) → ⊥) × (SameStep 1 (whole 4) (left 4) → ⊥)
