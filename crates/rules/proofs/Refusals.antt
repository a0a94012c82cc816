-- No refusal has number 0, so a call that was refused left all as it was; and what `?` hands on.
use Prim.Native.Nat.{ℕ}
use mathlib.Core.Path.{◌≡◌, refl, ap, ◌∙◌}
use mathlib.Core.Bool.{cond, false}
use lib.Dec.{eqb}
use Rattle.std.specs.Prelude.{Result, Ok, Err, IsErr, IsErrAnd}
use Rattle.rules.specs.Refusals.{number, answer}
use Rattle.rules.specs.declared.refusal.Refusal.{Refusal}
use Rattle.rules.specs.declared.refusal.Refusal.TheVariants.{Size, Length, Word, Member, Slot, Operation, Barred, Busy, Spent, NotDue}
use Rattle.rules.specs.declared.refusal.Refusal.TheVariants.{Down, Frame, Version, Kind, Field, Room, Line, NotOvertaken, Rows, Lines}

pub refuses : (refusal : Refusal) → eqb (number refusal) 0 ≡ false
refuses Size = refl
refuses Length = refl
refuses Word = refl
refuses Member = refl
refuses Slot = refl
refuses Operation = refl
refuses Barred = refl
refuses Busy = refl
refuses Spent = refl
refuses NotDue = refl
refuses Down = refl
refuses Frame = refl
refuses Version = refl
refuses Kind = refl
refuses Field = refl
refuses Room = refl
refuses Line = refl
refuses NotOvertaken = refl
refuses Rows = refl
refuses Lines = refl

-- `before` where the call's number k is not 0, and what it makes where it is
pub kept : {A : Type 0} (before made : A) (refusal : Refusal) {k : ℕ} → number refusal ≡ k → before ≡ cond (eqb k 0) made before
kept before made refusal e = rw (← e, refuses refusal)

-- what `?` hands on is the refusal that it met
pub handed_on : {A : Type 0} (r : Result A Refusal) (refusal : Refusal) {k : ℕ} → IsErrAnd r (λ e. e ≡ refusal) → number refusal ≡ k
    → answer r ≡ k
handed_on (Ok x) refusal h e = absurd h
handed_on (Err met) refusal h e = ap number h ∙ e

pub not_done : {A : Type 0} (r : Result A Refusal) → IsErr r → eqb (answer r) 0 ≡ false
not_done (Ok x) h = cc
not_done (Err refusal) h = refuses refusal
