-- What a call leaves of the reference as far as a bill depends on it: each member's phase and the type of its operation, and the accepted
-- operations. By cases of the step that the call is.
use Prim.Native.Nat.{ℕ, ◌≤◌}
use mathlib.Core.Path.{◌≡◌, refl, sym, ap, subst, ◌∙◌, fun_ext}
use mathlib.Core.Bool.{true, cond}
use mathlib.Core.List.{List, ◌∷◌}
use lib.Dec.{eqb}
use borrow.Author.Tests.{eqb-true}
use Rattle.lists.specs.Functions.{put, inside}
use Rattle.lists.proofs.Functions.{put_same, split, split-both}
use Rattle.model.specs.Records.{Value}
use Rattle.model.specs.Kinds.{Kind}
use Rattle.model.specs.Runs.{Call, begin, deliver, crash}
use Rattle.model.specs.Reference.{Operation, RefMember, Reference, ref_begun, ref_moved, ref_overtaken, submitted_on, ref_submit}
use Rattle.model.specs.Reference.{ref_reply, ref_accepted, operation_of, ref_accept, ref_abort, ref_ended, ref_end, ref_marked}
use Rattle.model.specs.Reference.{ref_answer, ref_done, ref_after}
use Rattle.model.proofs.Answers.{deliver_taken}
use Rattle.model.proofs.Steps.{RefTaken, begins, submits, replies, aborts, accepts, ends, crashes, ref_taken}

pub record Part : Type 0 where
  pub phase : ℕ
  pub operation : ℕ

abbrev pub part : RefMember → Part
part m = record { phase = m.phase; operation = m.operation }

abbrev pub parts_of : (ℕ → RefMember) → ℕ → Part
parts_of f k = part (f k)

abbrev pub moved : Part → ℕ → Part
moved m phase = record { phase = phase; operation = m.operation }

-- the phase after a deliver at which nothing is accepted and nothing ends
pub data Goes : ℕ → ℕ → Type 0 where
  submitted : Goes 1 2
  answered : Goes 2 3
  aborted : Goes 3 5

-- a call answered 0, from the parts p and the accepted operations h
pub data Billed (n : ℕ) (p : ℕ → Part) (h : List Operation) : Call → (ℕ → Part) → List Operation → Type 0 where
  starts : (i r t : ℕ) (v : Value) → (p i).phase ≡ 0
      → Billed n p h (begin i r t v) (put p i (record { phase = 1; operation = t })) h
  goes : (i to : ℕ) → Goes (p i).phase to → Billed n p h (deliver i) (put p i (moved (p i) to)) h
  joins : (i : ℕ) (o : Operation) → inside n i ≡ true → (p i).phase ≡ 3 → o.member ≡ i → o.operation ≡ (p i).operation
      → Billed n p h (deliver i) (put p i (moved (p i) 4)) (o ∷ h)
  completes : (i : ℕ) → 4 ≤ (p i).phase → Billed n p h (deliver i) (put p i (record { phase = 0; operation = 0 })) h
  marks : (i : ℕ) → Billed n p h (crash i) p h

parts_put : (f : ℕ → RefMember) (i : ℕ) (m : RefMember) → parts_of (put f i m) ≡ put (parts_of f) i (part m)
unfolding put
parts_put f i m = fun_ext λ k. split-both {A = RefMember} (λ x y. part x ≡ y) (eqb k i) (λ e. refl) (λ e. refl)

-- a submit leaves every other member's
parts_others : (f : ℕ → RefMember) (r : ℕ) → parts_of (λ k. cond (submitted_on r (f k)) (ref_overtaken (f k)) (f k)) ≡ parts_of f
unfolding ref_overtaken
parts_others f r = fun_ext λ k. split {A = RefMember} (λ m. part m ≡ part (f k)) (submitted_on r (f k)) (λ e. refl) (λ e. refl)

module _ (n : ℕ) (ref : Reference) where
  abbrev Leaves : Call → (ℕ → Part) → List Operation → Type 0
  Leaves call = Billed n (parts_of ref.members) ref.history call

  -- one member's part is new
  leaves-put : {call : Call} {h : List Operation} (i : ℕ) (m : RefMember)
      → Leaves call (put (parts_of ref.members) i (part m)) h → Leaves call (parts_of (put ref.members i m)) h
  leaves-put {call} {h} i m = subst (λ p. Leaves call p h) (sym (parts_put ref.members i m))

  goes-from : (i from to : ℕ) → (ref.members i).phase ≡ from → Goes from to → Leaves (deliver i)
      (put (parts_of ref.members) i (moved (part (ref.members i)) to)) ref.history
  goes-from i from to e g = goes i to (rw e g)

  bill-taken : {next : Reference} {call : Call} → RefTaken ref call next → (who : (i : ℕ) → call ≡ deliver i → inside n i ≡ true)
      → Leaves call (parts_of next.members) next.history
  unfolding ref_begun ref_submit ref_reply ref_abort ref_accept ref_accepted operation_of ref_end ref_ended ref_marked ref_moved
  bill-taken (begins i r t v idle) who = leaves-put i _ (starts i r t v idle)
  bill-taken (submits i e) who =
      subst (λ p. Leaves (deliver i) p ref.history)
      (sym (parts_put _ i (ref_moved (ref.members i) 2)
      ∙ ap (λ f. put f i (moved (part (ref.members i)) 2)) (parts_others ref.members (ref.members i).slot)))
      (goes-from i 1 2 e submitted)
  bill-taken (replies i e) who = leaves-put i _ (goes-from i 2 3 e answered)
  bill-taken (aborts i e o) who = leaves-put i _ (goes-from i 3 5 e aborted)
  bill-taken (accepts i e o) who = leaves-put i _ (joins i (operation_of i (ref.members i)) (who i refl) e refl refl)
  bill-taken (ends i l) who = leaves-put i _ (completes i l)
  bill-taken (crashes i) who =
      leaves-put i _ (subst (λ p. Leaves (crash i) p ref.history) (sym (put_same (parts_of ref.members) i)) (marks i))

-- a deliver answered 0 is one of a member of the board
delivers_inside : (kind : Kind) (n : ℕ) (ref : Reference) (call : Call) → ref_answer kind n ref call ≡ 0 → (i : ℕ) → call ≡ deliver i
    → inside n i ≡ true
unfolding ref_answer
delivers_inside kind n ref call h i e =
    let m = ref.members i in
    (deliver_taken n m.phase m.crashed i (ap (ref_answer kind n ref) (sym e) ∙ h)).member

pub bill_done : (kind : Kind) (n : ℕ) (ref : Reference) (call : Call) → ref_answer kind n ref call ≡ 0
    → Billed n (parts_of ref.members) ref.history call (parts_of (ref_done ref call).members) (ref_done ref call).history
bill_done kind n ref call h = bill-taken n ref (ref_taken kind n ref call h) (delivers_inside kind n ref call h)

-- What holds of the parts and the accepted operations, and of what every step leaves of them, holds after a call.
pub bill_stepped : (kind : Kind) (n : ℕ) (ref : Reference) (call : Call) (Q : (ℕ → Part) → List Operation → Type 0)
    → Q (parts_of ref.members) ref.history
    → ((p : ℕ → Part) (h : List Operation) → Billed n (parts_of ref.members) ref.history call p h → Q p h)
    → Q (parts_of (ref_after kind n ref call).members) (ref_after kind n ref call).history
unfolding ref_after
bill_stepped kind n ref call Q refused step = split {A = Reference} (λ next. Q (parts_of next.members) next.history)
    (eqb (ref_answer kind n ref call) 0)
    (λ e. step _ _ (bill_done kind n ref call (eqb-true (ref_answer kind n ref call) 0 e)))
    (λ e. refused)
