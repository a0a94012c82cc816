-- How phases move in the reference's run: a call answered 0 moves its own member's phase as document 01 says, and no other's.
-- Step by step, from the reference's definitions.
use Prim.Native.Nat.{ℕ, ◌≤◌}
use mathlib.Core.Path.{◌≡◌, refl, ap, ◌∙◌, fun_ext}
use mathlib.Core.Bool.{Bool, true, false, cond}
use mathlib.Core.List.{List, [], ◌∷◌}
use mathlib.Core.Option.{Option, none}
use native.Mathlib.Omega.{arith}
use lib.Dec.{eqb}
use borrow.Author.Tests.{eq-eqb}
use Rattle.lists.specs.Functions.{put}
use Rattle.lists.proofs.Functions.{put_same, split, split-both}
use Rattle.model.specs.Records.{Value}
use Rattle.model.specs.Kinds.{Kind}
use Rattle.model.specs.Runs.{Call, begin, deliver, crash, Seen}
use Rattle.model.specs.Reference.{RefMember, Reference, ref_begun, ref_moved, ref_overtaken, submitted_on, ref_submit, ref_reply}
use Rattle.model.specs.Reference.{ref_accepted, ref_accept, ref_abort, ref_ended, ref_end, ref_returned, ref_marked, ref_answer, ref_done}
use Rattle.model.specs.Reference.{ref_done_returns, ref_after, ref_seen, ref_run}
use Rattle.model.proofs.Steps.{RefTaken, begins, submits, replies, aborts, accepts, ends, crashes, ref_taken}

-- Statements.

-- the phase after a deliver in phase p at which v is returned
pub data Next (p : ℕ) (v : Option Value) : ℕ → Type 0 where
  submitted : p ≡ 1 → v ≡ none → Next p v 2
  answered : p ≡ 2 → Next p v 3
  judged : (a : Bool) → p ≡ 3 → v ≡ none → Next p v (cond a 4 5)
  ended : 4 ≤ p → Next p v 0

pub record Begins (p : ℕ → ℕ) (i : ℕ) (s : Seen) : Type 0 where
  pub is_idle : p i ≡ 0
  pub phases : s.phases ≡ put p i 1

pub record Delivers (p : ℕ → ℕ) (i : ℕ) (s : Seen) : Type 0 where
  pub to : ℕ
  pub next : Next (p i) s.returned to
  pub phases : s.phases ≡ put p i to

abbrev pub Moves : (ℕ → ℕ) → Call → Seen → Type 0
Moves p (begin i r t v) s = Begins p i s
Moves p (deliver i) s = Delivers p i s
Moves p (crash i) s = s.phases ≡ p

-- what a call does to the phases p
pub record StepMoves (p : ℕ → ℕ) (call : Call) (s : Seen) : Type 0 where
  pub taken : s.answer ≡ 0 → Moves p call s
  pub refused : eqb s.answer 0 ≡ false → s.phases ≡ p

abbrev pub RunMoves : (ℕ → ℕ) → List Call → List Seen → Type 0
RunMoves p [] seen = Unit {0}
RunMoves p (call ∷ calls) [] = ⊥
RunMoves p (call ∷ calls) (s ∷ seen) = StepMoves p call s × RunMoves s.phases calls seen

-- accepted is phase 4, aborted 5
pub verdict_high : (a : Bool) → 4 ≤ cond a 4 5
verdict_high true = omega arith
verdict_high false = omega arith

-- phase 3 comes after phase 2 alone
pub from_two : {p : ℕ} {v : Option Value} {to : ℕ} → Next p v to → to ≡ 3 → p ≡ 2
from_two (submitted e n) three = absurd (omega arith)
from_two (answered e) three = e
from_two (judged a e n) three = absurd (omega (arith, verdict_high a))
from_two (ended h) three = absurd (omega arith)

-- The reference.

abbrev pub phases_of : (ℕ → RefMember) → ℕ → ℕ
phases_of f k = (f k).phase

phases_put : (f : ℕ → RefMember) (i : ℕ) (m : RefMember) → phases_of (put f i m) ≡ put (phases_of f) i m.phase
unfolding put
phases_put f i m = fun_ext λ k. split-both {A = RefMember} (λ x y. x.phase ≡ y) (eqb k i) (λ e. refl) (λ e. refl)

-- a submit leaves every other member in its phase
phases_others : (f : ℕ → RefMember) (r : ℕ) → phases_of (λ k. cond (submitted_on r (f k)) (ref_overtaken (f k)) (f k)) ≡ phases_of f
unfolding ref_overtaken
phases_others f r = fun_ext λ k. split {A = RefMember} (λ m. m.phase ≡ (f k).phase) (submitted_on r (f k)) (λ e. refl) (λ e. refl)

-- nothing is returned but in phase 4
returns_none : (m : RefMember) → eqb m.phase 4 ≡ false → ref_returned m ≡ none
unfolding ref_returned
returns_none m e = rw e

-- Every step of the reference.
moves_of : {ref next : Reference} {call : Call} → RefTaken ref call next → (s : Seen) → s.phases ≡ phases_of next.members
    → s.returned ≡ ref_done_returns ref call → Moves (phases_of ref.members) call s
unfolding ref_done_returns ref_begun ref_submit ref_reply ref_abort ref_accept ref_accepted ref_end ref_ended ref_marked ref_moved
moves_of {ref} (begins i r t v idle) s p b = record { is_idle = idle; phases = p ∙ phases_put ref.members i _ }
moves_of {ref} (submits i e) s p b =
    let m = ref.members i in record {
      to = 2;
      next = submitted e (b ∙ returns_none m (rw e));
      phases = p ∙ phases_put _ i (ref_moved m 2) ∙ ap (λ f. put f i 2) (phases_others ref.members m.slot);
    }
moves_of {ref} (replies i e) s p b = record { to = 3; next = answered e; phases = p ∙ phases_put ref.members i _ }
moves_of {ref} (aborts i e o) s p b =
    record { to = 5; next = judged false e (b ∙ returns_none (ref.members i) (rw e)); phases = p ∙ phases_put ref.members i _ }
moves_of {ref} (accepts i e o) s p b =
    record { to = 4; next = judged true e (b ∙ returns_none (ref.members i) (rw e)); phases = p ∙ phases_put ref.members i _ }
moves_of {ref} (ends i l) s p b = record { to = 0; next = ended l; phases = p ∙ phases_put ref.members i _ }
moves_of {ref} (crashes i) s p b = p ∙ phases_put ref.members i _ ∙ put_same (phases_of ref.members) i

module _ (kind : Kind) (n : ℕ) where
  pub step_moves : (ref : Reference) (call : Call) → StepMoves (phases_of ref.members) call (ref_seen kind n ref call)
  unfolding ref_seen ref_after
  step_moves ref call = record {
    taken = λ h. let e : eqb (ref_answer kind n ref call) 0 ≡ true = eq-eqb (ref_answer kind n ref call) 0 h in
        moves_of (ref_taken kind n ref call h) (ref_seen kind n ref call)
        (ap (λ t. phases_of (cond t (ref_done ref call) ref).members) e)
        (ap (λ t. cond t (ref_done_returns ref call) none) e);
    refused = λ e. ap (λ t. phases_of (cond t (ref_done ref call) ref).members) e;
  }

  pub run_moves : (ref : Reference) (calls : List Call) → RunMoves (phases_of ref.members) calls (ref_run kind n ref calls)
  unfolding ref_run ref_seen
  run_moves ref [] = tt
  run_moves ref (call ∷ calls) = (step_moves ref call, run_moves (ref_after kind n ref call) calls)
