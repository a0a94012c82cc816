-- What each step of the member sets and what it keeps: every part by computing the step, one after the other.
use Prim.Native.Nat.{ℕ, zero, suc}
use mathlib.Core.Path.{◌≡◌, refl}
use mathlib.Core.Bool.{Bool, true, false}
use mathlib.Core.List.{List, [], ◌∷◌, Memᴰ}
use mathlib.Core.Logic.{◌⊎◌, inl, inr}
use Rattle.model.specs.Records.{Value, Rec}
use Rattle.model.specs.Member.{Member, idle, begun, answered, passed, failed, judged, outcome, completed, took_over, dropped}
use Rattle.model.specs.Member.{crashed_of}
use Rattle.model.specs.MemberClaims.{Part, Same, ChangesOnly, AtRest, zeroed, MemberAsDescribed}

-- the part stands at place k of the list
unfoldable at_place : ℕ → Part → List Part → Type 0
at_place k part [] = ⊥
at_place zero part (p ∷ parts) = part ≡ p
at_place (suc k) part (p ∷ parts) = at_place k part parts

listed : (k : ℕ) {part : Part} {parts : List Part} → at_place k part parts → Memᴰ part parts
unfolding at_place
listed k {parts = []} h = absurd h
listed zero {parts = p ∷ parts} h = Memᴰ.head h
listed (suc k) {parts = p ∷ parts} h = Memᴰ.tail (listed k h)

module _ (parts : List Part) (m left : Member) where
  abbrev Kept : Part → Type 0
  Kept part = Memᴰ part parts ⊎ Same part m left

  -- all twelve, in the order of the record
  each_part : Kept Part.phase → Kept Part.crashed → Kept Part.halt → Kept Part.slot → Kept Part.operation → Kept Part.own
      → Kept Part.accepted → Kept Part.last → Kept Part.pending → Kept Part.known → Kept Part.first → Kept Part.second
      → ChangesOnly parts m left
  unfolding ChangesOnly
  each_part phase crashed halt slot operation own accepted last pending known first second part = elim part as (λ k. Kept k) [
    | Part.phase ↦ phase
    | Part.crashed ↦ crashed
    | Part.halt ↦ halt
    | Part.slot ↦ slot
    | Part.operation ↦ operation
    | Part.own ↦ own
    | Part.accepted ↦ accepted
    | Part.last ↦ last
    | Part.pending ↦ pending
    | Part.known ↦ known
    | Part.first ↦ first
    | Part.second ↦ second
  ]

-- one of the listed, by its place; and one that the step leaves
at : (k : ℕ) {part : Part} {parts : List Part} {S : Type 0} → at_place k part parts → Memᴰ part parts ⊎ S
at k h = inl (listed k h)

stays : {A S : Type 0} {x : A} → S ⊎ (x ≡ x)
stays = inr refl

begun_only : (m : Member) (r t : ℕ) (v : Value)
    → ChangesOnly (Part.phase ∷ Part.slot ∷ Part.operation ∷ Part.own ∷ Part.pending ∷ []) m (begun m r t v)
unfolding begun Same at_place
begun_only m r t v =
    each_part _ _ _ (at 0 refl) stays stays (at 1 refl) (at 2 refl) (at 3 refl) stays stays (at 4 refl) stays stays stays

-- a step within an operation: the message records change, and where it fails the halt number
answered_only : (m : Member) (newest stored : Rec)
    → ChangesOnly (Part.phase ∷ Part.first ∷ Part.second ∷ []) m (answered m newest stored)
unfolding answered Same at_place
answered_only m newest stored = each_part _ _ _ (at 0 refl) stays stays stays stays stays stays stays stays stays (at 1 refl) (at 2 refl)

passed_only : (n i : ℕ) (m : Member) (newest stored : Rec)
    → ChangesOnly (Part.phase ∷ Part.first ∷ Part.second ∷ []) m (passed n i m newest stored)
unfolding passed Same at_place
passed_only n i m newest stored = each_part _ _ _ (at 0 refl) stays stays stays stays stays stays stays stays stays (at 1 refl) (at 2 refl)

failed_only : (m : Member) (number : ℕ)
    → ChangesOnly (Part.phase ∷ Part.halt ∷ Part.first ∷ Part.second ∷ []) m (failed m number)
unfolding failed Same at_place
failed_only m number = each_part _ _ _ (at 0 refl) stays (at 1 refl) stays stays stays stays stays stays stays (at 2 refl) (at 3 refl)

judged_only : (m : Member) (won : Bool) → ChangesOnly (Part.phase ∷ []) m (judged m won)
unfolding judged Same at_place
judged_only m won = each_part _ _ _ (at 0 refl) stays stays stays stays stays stays stays stays stays stays stays

crashed_only : (m : Member) → ChangesOnly (Part.crashed ∷ []) m (crashed_of m)
unfolding crashed_of Same at_place
crashed_only m = each_part _ _ _ stays (at 0 refl) stays stays stays stays stays stays stays stays stays stays

-- the end of an operation
module _ (m : Member) where
  rested : (won : Bool) → AtRest (outcome m won)
  unfolding outcome completed dropped
  rested true = record { phase = refl; slot = refl; operation = refl; pending = refl; first = refl; second = refl }
  rested false = record { phase = refl; slot = refl; operation = refl; pending = refl; first = refl; second = refl }

  accepted-only : ChangesOnly (Part.known ∷ Part.accepted ∷ Part.last ∷ zeroed) m (outcome m true)
  unfolding outcome completed dropped took_over Same at_place
  accepted-only = each_part _ _ _ (at 3 refl) stays stays (at 4 refl) (at 5 refl) stays
      (at 1 refl) (at 2 refl) (at 6 refl) (at 0 refl) (at 7 refl) (at 8 refl)

  aborted-only : ChangesOnly zeroed m (outcome m false)
  unfolding outcome dropped Same at_place
  aborted-only = each_part _ _ _ (at 0 refl) stays stays (at 1 refl) (at 2 refl) stays stays stays (at 3 refl) stays (at 4 refl) (at 5 refl)

pub member_as_described : (n i : ℕ) → MemberAsDescribed n i
unfolding idle begun answered failed passed judged crashed_of
member_as_described n i = record {
  opens = (record { phase = refl; slot = refl; operation = refl; pending = refl; first = refl; second = refl }, refl, refl);
  begins = λ m r t v. (refl, refl, refl, begun_only m r t v);
  answers = λ m newest stored. (refl, refl, refl, answered_only m newest stored);
  fails = λ m number. (refl, refl, refl, refl, failed_only m number);
  passes = λ m newest stored. (refl, refl, passed_only n i m newest stored);
  judges = λ m won. (refl, judged_only m won);
  rests = rested;
  accepts = accepted-only;
  aborts = aborted-only;
  crashes = λ m. (refl, crashed_only m);
}
