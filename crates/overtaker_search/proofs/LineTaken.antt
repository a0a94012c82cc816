-- One line more in the pass over a script's lines: it is refused, or the others follow on the table that it left.
use Prim.Native.Nat.{ℕ, ◌+◌, ◌≤◌}
use mathlib.Core.Path.{◌≡◌, refl, sym, ap, subst, ◌∙◌}
use mathlib.Core.Bool.{Bool, ◌&&◌, ◌||◌}
use mathlib.Core.List.{List, ◌∷◌}
use mathlib.Core.Option.{Option, none, some}
use Rattle.std.specs.Prelude.{Some, None}
use native.Mathlib.Omega.{arith}
use lib.Dec.{eqb}
use Rattle.lists.proofs.Functions.{on, split}
use Rattle.model.specs.Kinds.{concur}
use Rattle.model.specs.Runs.{Call, begin, deliver, crash, Seen, Step, step}
use Rattle.model.specs.Script.{step_line}
use Rattle.model.specs.Overtaker.{Overtaker, refuses, names}
use Rattle.script_run.specs.Meaning.{Shows, StepHeld}
use Rattle.script_run.specs.declared.Done.{Done}
use Rattle.overtaker_search.specs.Search.{Search, told_first, search_of, or_first, search_begin, search_submit}
use Rattle.overtaker_search.specs.Search.{search_verdict, search_deliver, search_call, search_next, search_step}
use Rattle.overtaker_search.specs.Search.{search_answer, unless_malformed, lines_searched}
use Rattle.overtaker_search.specs.declared.steps.Search.{Search as SearchStruct}

-- A step counts itself, and one begin at most.

record Counted (s r : Search) : Type 0 where
  steps : r.steps ≡ s.steps + 1
  begun : r.begun ≤ s.begun + 1

-- what only a begin counts
same_counts : (s r : Search) → r.steps ≡ s.steps + 1 → r.begun ≡ s.begun → Counted s r
same_counts s r e f = record { steps = e; begun = omega arith }

module _ (i k : ℕ) (s : Search) where
  begin-counted : (j r : ℕ) → Counted s (search_begin i (search_next s) j r)
  unfolding search_begin
  begin-counted j r = record {
    steps = refl;
    begun = on (eqb j i) (λ e. rw e (omega arith)) (λ e. rw e (omega arith));
  }

  submit-counted : (j : ℕ) → Counted s (search_submit i k (search_next s) j)
  unfolding search_submit
  submit-counted j = split (Counted s) (eqb j i) (λ e. same_counts s _ refl refl) (λ e. same_counts s _ refl refl)

  verdict-counted : (j : ℕ) (a : Bool) → Counted s (search_verdict i (search_next s) j a)
  unfolding search_verdict
  verdict-counted j a = split (Counted s) (eqb j i && s.follows) (λ e. same_counts s _ refl refl) (λ e. same_counts s _ refl refl)

  next-counted : Counted s (search_next s)
  next-counted = same_counts s _ refl refl

  call-counted : (call : Call) (seen : Seen) → Counted s (search_call i k (search_next s) call seen)
  unfolding search_call search_deliver
  call-counted (begin j r t v) seen = begin-counted j r
  call-counted (deliver j) seen = split (Counted s) (eqb (seen.phases j) 2)
      (λ e. submit-counted j)
      (λ e. split (Counted s) (eqb (seen.phases j) 4 || eqb (seen.phases j) 5)
      (λ e. verdict-counted j (eqb (seen.phases j) 4))
      (λ e. next-counted))
  call-counted (crash j) seen = next-counted

  step-counted : (call : Call) (seen : Seen) → Counted s (search_step i k s call seen)
  unfolding search_step
  step-counted call seen = split (Counted s) (eqb seen.answer 0) (λ e. call-counted call seen) (λ e. next-counted)

-- What is remembered is a submit that is named, or 31: from the start on nothing else.

abbrev pub NamedOr31 : Overtaker → Type 0
NamedOr31 (names m at) = Unit {0}
NamedOr31 (refuses number) = number ≡ 31

or-named : (first : Overtaker) (m at : ℕ) → NamedOr31 (or_first first (names m at))
or-named (names j place) m at = tt
or-named (refuses number) m at = tt

module _ (i k : ℕ) (s : Search) (h : NamedOr31 s.first) where
  submit-named : (j : ℕ) → NamedOr31 (search_submit i k s j).first
  unfolding search_submit
  submit-named j = split (λ (r : Search). NamedOr31 r.first) (eqb j i)
      (λ e. h)
      (λ e. split NamedOr31 (s.follows && eqb (s.slots j) s.slot) (λ e. or-named s.first j s.steps) (λ e. h))

  verdict-named : (j : ℕ) (a : Bool) → NamedOr31 (search_verdict i s j a).first
  unfolding search_verdict
  verdict-named j a = split (λ (r : Search). NamedOr31 r.first) (eqb j i && s.follows)
      (λ e. split NamedOr31 a (λ e. refl) (λ e. h))
      (λ e. h)

  call-named : (call : Call) (seen : Seen) → NamedOr31 (search_call i k s call seen).first
  unfolding search_call search_begin search_deliver
  call-named (begin j r t v) seen = h
  call-named (deliver j) seen = split (λ (r : Search). NamedOr31 r.first) (eqb (seen.phases j) 2)
      (λ e. submit-named j)
      (λ e. split (λ (r : Search). NamedOr31 r.first) (eqb (seen.phases j) 4 || eqb (seen.phases j) 5)
      (λ e. verdict-named j (eqb (seen.phases j) 4))
      (λ e. h))
  call-named (crash j) seen = h

step-named : (i k : ℕ) (s : Search) → NamedOr31 s.first → (call : Call) (seen : Seen) → NamedOr31 (search_step i k s call seen).first
unfolding search_step
step-named i k s h call seen = split (λ (r : Search). NamedOr31 r.first) (eqb seen.answer 0)
    (λ e. call-named i k (search_next s) h call seen)
    (λ e. h)

pub answer_named : (s : Search) → NamedOr31 s.first → NamedOr31 (search_answer s)
unfolding search_answer
answer_named s h = split NamedOr31 s.follows (λ e. refl) (λ e. h)

-- The next line.

some_shown : (P : Type 0) (d : Done) (x : Option Step) → StepHeld (Some d) x → ((call : Call) (s : Seen) → Shows d call s → P) → P
some_shown P d none h e = absurd h
some_shown P d (some (step call s)) h e = e call s h

pub held_counts : (i k : ℕ) (s r : SearchStruct) (d : Done) (x : Option Step) → StepHeld (Some d) x
    → ((call : Call) (seen : Seen) → Shows d call seen → search_of r ≡ search_step i k (search_of s) call seen)
    → (r.steps ≡ s.steps + 1) × (r.begun ≤ s.begun + 1)
held_counts i k s r d x h e = some_shown _ d x h
    (λ call seen shows. let c = subst (Counted (search_of s)) (sym (e call seen shows)) (step-counted i k (search_of s) call seen) in
    (c.steps, c.begun))

pub held_named : (i k : ℕ) (s r : SearchStruct) (d : Done) (x : Option Step) → StepHeld (Some d) x
    → ((call : Call) (seen : Seen) → Shows d call seen → search_of r ≡ search_step i k (search_of s) call seen)
    → NamedOr31 (told_first s.first) → NamedOr31 (told_first r.first)
held_named i k s r d x h e n = some_shown _ d x h
    (λ call seen shows. subst (λ (t : Search). NamedOr31 t.first) (sym (e call seen shows)) (step-named i k (search_of s) n call seen))

malformed_ends : (x : Option Step) (next : Call → Seen → Overtaker) → StepHeld None x → unless_malformed x next ≡ refuses 17
unfolding unless_malformed
malformed_ends none next h = refl
malformed_ends (some s) next h = absurd h

step_goes : (d : Done) (x : Option Step) (next : Call → Seen → Overtaker) (end : Overtaker) → StepHeld (Some d) x
    → ((call : Call) (s : Seen) → Shows d call s → next call s ≡ end) → unless_malformed x next ≡ end
unfolding unless_malformed
step_goes d none next end h e = absurd h
step_goes d (some (step call s)) next end h e = e call s h

module _ (i k : ℕ) (line : List ℕ) (behind : List (List ℕ)) (table : List ℕ) (s : Search) where
  pub search_ends : StepHeld None (step_line concur table line).happened → lines_searched i k table s (line ∷ behind) ≡ refuses 17
  unfolding lines_searched
  search_ends held = malformed_ends (step_line concur table line).happened _ held

  pub search_goes : (d : Done) → StepHeld (Some d) (step_line concur table line).happened → (after : List ℕ)
      → after ≡ (step_line concur table line).table
      → (r : Search) → ((call : Call) (seen : Seen) → Shows d call seen → r ≡ search_step i k s call seen)
      → lines_searched i k table s (line ∷ behind) ≡ lines_searched i k after r behind
  unfolding lines_searched
  search_goes d held after e r h =
      step_goes d (step_line concur table line).happened _ (lines_searched i k after r behind) held
      (λ call seen shows. ap (λ x. lines_searched i k (step_line concur table line).table x behind) (sym (h call seen shows))
      ∙ ap (λ l. lines_searched i k l r behind) (sym e))
