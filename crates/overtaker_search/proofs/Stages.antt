-- The operation asked for, member i's k-th, in the watcher's lists and in what the pass remembers: it waits for its submit, it runs, or it
-- is done. What each move of the watch does to that, over just what it looks at: the member's phase and operation, the decided operations
-- and submits, and what is remembered.
use Prim.Native.Nat.{ℕ, ◌+◌, ◌≤◌, ◌<◌}
use mathlib.Core.Path.{◌≡◌, refl, sym, ap, ◌∙◌}
use mathlib.Core.Bool.{Bool, true, false, cond, ◌&&◌, and-true}
use mathlib.Core.List.{List, [], ◌∷◌}
use mathlib.Core.Option.{Option, none, some}
use native.Mathlib.Omega.{arith}
use lib.Dec.{eqb, ltb}
use borrow.Author.Tests.{ne_eqb, eqb-true, eqb-false, lt-ltb, le-ltb}
use Rattle.lists.specs.Every.{Every}
use Rattle.lists.proofs.Functions.{on, fails, apart}
use Rattle.model.specs.Records.{Value}
use Rattle.model.specs.History.{Op, Submit, submitted_op, submit_of, decided_op, ended_op, ended, overtakes}
use Rattle.model.specs.Overtaker.{Overtaker, names, named, is_aborted, aborted_op, earlier, first_overtaking, overtaking}
use Rattle.model.proofs.Overtaker.{is_aborted_lem, so_aborted, op_found}
use Rattle.overtaker_search.specs.Search.{or_first}

some_or_none : {A : Type 0} {x : A} → ◌≡◌ {A = Option A} (some x) none → ⊥
some_or_none e = let z : ◌≡◌ {A = ℕ} 0 1 = cc in omega arith

-- Submits.

-- the first of them on slot r that was taken after step a
pub first_since : ℕ → ℕ → List Submit → Option Submit
first_since r a [] = none
first_since r a (s ∷ submits) = earlier (first_since r a submits) (cond (eqb s.slot r && ltb a s.at) (some s) none)

-- none was
since_none : (r a : ℕ) (submits : List Submit) → Every (λ s. s.at ≤ a) submits → first_since r a submits ≡ none
unfolding first_since earlier
since_none r a [] h = refl
since_none r a (s ∷ submits) h =
    rw (since_none r a submits h.1, fails (eqb s.slot r) (le-ltb a s.at h.0))

-- before an operation's verdict, the first since its own is the first that overtakes it
since_overtaking : (o : Op) (submits : List Submit) → Every (λ s. s.at < o.verdict_at) submits
    → first_overtaking o submits ≡ first_since o.given.slot o.submit_at submits
unfolding first_since first_overtaking
since_overtaking o [] h = refl
since_overtaking o (s ∷ submits) h =
    let within : (ltb o.submit_at s.at && ltb s.at o.verdict_at) ≡ ltb o.submit_at s.at =
    rw (lt-ltb s.at o.verdict_at h.0) (and-true (ltb o.submit_at s.at)) in
    rw (since_overtaking o submits h.1, within)

earlier_none : (x : Option Submit) → earlier x none ≡ x
unfolding earlier
earlier_none none = refl
earlier_none (some s) = refl

-- a submit that is taken later than every verdict overtakes no operation that was found
overtaking_past : (s : Submit) (submits : List Submit) (x : Option Op) → ((o : Op) → x ≡ some o → o.verdict_at ≤ s.at)
    → overtaking x (s ∷ submits) ≡ overtaking x submits
unfolding overtaking first_overtaking
overtaking_past s submits none h = refl
overtaking_past s submits (some o) h =
    let past : overtakes s o ≡ false =
    fails (eqb s.slot o.given.slot) (fails (ltb o.submit_at s.at) (le-ltb s.at o.verdict_at (h o refl))) in
    rw past (earlier_none (first_overtaking o submits))

-- Operations.

module _ (i k : ℕ) where
  -- one more that is not the one asked for, or was not aborted
  aborted-other : (o : Op) (ops : List Op) → (o.given.member ≡ i → o.ordinal ≡ k → o.accepted ≡ false → ⊥)
      → aborted_op i k (o ∷ ops) ≡ aborted_op i k ops
  unfolding aborted_op
  aborted-other o ops h = on (is_aborted i k o)
      (λ f. let t = is_aborted_lem i k o f in absurd (h t.0 t.1 t.2))
      (λ f. rw f)

  aborted-found : (o : Op) (ops : List Op) → o.given.member ≡ i → o.ordinal ≡ k → o.accepted ≡ false
      → aborted_op i k (o ∷ ops) ≡ some o
  unfolding aborted_op
  aborted-found o ops m n a = rw (so_aborted i k o m n a)

  -- an operation's end is of no account
  ended-first : (at : ℕ) (v : Option Value) (o : Op) (submits : List Submit)
      → first_overtaking (ended_op at v o) submits ≡ first_overtaking o submits
  unfolding first_overtaking ended_op
  ended-first at v o [] = refl
  ended-first at v o (s ∷ submits) = ap (λ x. earlier x (cond (overtakes s o) (some s) none)) (ended-first at v o submits)

  ended-aborted : (at : ℕ) (v : Option Value) (o : Op) → is_aborted i k (ended_op at v o) ≡ is_aborted i k o
  unfolding is_aborted ended_op
  ended-aborted at v o = refl

  ended-overtaking : (j at : ℕ) (v : Option Value) (submits : List Submit) (ops : List Op)
      → overtaking (aborted_op i k (ended j at v ops)) submits ≡ overtaking (aborted_op i k ops) submits
  unfolding aborted_op ended overtaking
  ended-overtaking j at v submits [] = refl
  ended-overtaking j at v submits (o ∷ ops) =
      on (eqb o.given.member j)
      (λ e. on (is_aborted i k o) (λ f. rw (e, ended-aborted at v o, f) (ended-first at v o submits))
      (λ f. rw (e, ended-aborted at v o, f)))
      (λ e. on (is_aborted i k o) (λ f. rw (e, f)) (λ f. rw (e, f) (ended-overtaking j at v submits ops)))

  ended-none : (j at : ℕ) (v : Option Value) (ops : List Op) → aborted_op i k ops ≡ none → aborted_op i k (ended j at v ops) ≡ none
  unfolding aborted_op ended
  ended-none j at v [] h = refl
  ended-none j at v (o ∷ ops) h =
      on (is_aborted i k o)
      (λ f. absurd (some_or_none (rw f at h)))
      (λ f. on (eqb o.given.member j)
      (λ e. rw (e, ended-aborted at v o, f) (rw f at h))
      (λ e. rw (e, f) (ended-none j at v ops (rw f at h))))

  -- The operation asked for.

  -- the member's phase and the operation that it began last; the operations decided and the submits; what is remembered
  pub data Stage (phase : ℕ) (o : Op) (ops : List Op) (submits : List Submit) (follows : Bool) (slot : ℕ) (first : Overtaker) : Type 0 where
    waits : o.ordinal ≤ k → (o.ordinal ≡ k → phase ≤ 1) → follows ≡ false → first ≡ named none → aborted_op i k ops ≡ none
        → Stage phase o ops submits follows slot first
    runs : o.ordinal ≡ k → 2 ≤ phase → phase ≤ 3 → follows ≡ true → slot ≡ o.given.slot
        → first ≡ named (first_since o.given.slot o.submit_at submits) → aborted_op i k ops ≡ none
        → Stage phase o ops submits follows slot first
    done : k ≤ o.ordinal → (o.ordinal ≡ k → 1 ≤ phase → 4 ≤ phase) → follows ≡ false
        → first ≡ named (overtaking (aborted_op i k ops) submits) → Stage phase o ops submits follows slot first

  none-named : (ops : List Op) (submits : List Submit) {first : Overtaker} → first ≡ named none → aborted_op i k ops ≡ none
      → first ≡ named (overtaking (aborted_op i k ops) submits)
  unfolding overtaking
  none-named ops submits f n = rw n f

  -- what was found stays what it is while no submit comes before a verdict
  past-named : (ops : List Op) (s : Submit) (submits : List Submit) {first : Overtaker} → Every (λ o. o.verdict_at ≤ s.at) ops
      → first ≡ named (overtaking (aborted_op i k ops) submits) → first ≡ named (overtaking (aborted_op i k ops) (s ∷ submits))
  past-named ops s submits h f =
      f ∙ ap named (sym (overtaking_past s submits (aborted_op i k ops)
      (λ o e. (op_found i k ops o e).listed (λ o. o.verdict_at ≤ s.at) h)))

  -- a submit on its slot is the first since its own, if there was none before
  more-named : (x : Option Submit) (first : Overtaker) (s : Submit) → first ≡ named x
      → or_first first (names s.member s.at) ≡ named (earlier x (some s))
  unfolding named earlier
  more-named none first s f = rw f
  more-named (some u) first s f = rw f

  first_more : (o : Op) (submits : List Submit) (slot : ℕ) (first : Overtaker) (s : Submit) → slot ≡ o.given.slot → o.submit_at < s.at
      → first ≡ named (first_since o.given.slot o.submit_at submits)
      → cond (eqb s.slot slot) (or_first first (names s.member s.at)) first
      ≡ named (first_since o.given.slot o.submit_at (s ∷ submits))
  unfolding first_since
  first_more o submits slot first s same late f = rw (same, lt-ltb o.submit_at s.at late)
      (on (eqb s.slot o.given.slot)
      (λ e. rw e (more-named (first_since o.given.slot o.submit_at submits) first s f))
      (λ e. rw e (f ∙ ap named (sym (earlier_none (first_since o.given.slot o.submit_at submits))))))

  module _ {o : Op} {ops : List Op} {submits : List Submit} {follows : Bool} {slot : ℕ} {first : Overtaker} where
    -- Its member begins its next.
    pub stage-begins : (next : Op) → next.ordinal ≡ o.ordinal + 1 → Stage 0 o ops submits follows slot first
        → Stage 1 next ops submits follows slot first
    stage-begins next e (waits l p f s n) = on (eqb o.ordinal k)
        (λ t. let same = eqb-true o.ordinal k t in done (omega arith) (λ d. absurd (omega arith)) f (none-named ops submits s n))
        (λ t. let other = eqb-false o.ordinal k t in waits (omega arith) (λ d. omega arith) f s n)
    stage-begins next e (runs q l m f r s n) = absurd (omega arith)
    stage-begins next e (done l p f s) = done (omega arith) (λ d. absurd (omega arith)) f s

    -- The host takes a submit of its member's.
    pub stage-submits : (j at : ℕ) → Every (λ s. s.at ≤ at) submits → Every (λ o. o.verdict_at ≤ at) ops
        → Stage 1 o ops submits follows slot first
        → Stage 2 (submitted_op at o) ops (submit_of at j o ∷ submits) (eqb o.ordinal k) o.given.slot first
    unfolding submitted_op submit_of
    stage-submits j at early past (waits l p f s n) = on (eqb o.ordinal k)
        (λ t. runs (eqb-true o.ordinal k t) (omega arith) (omega arith) t refl
        (s ∙ ap named (sym (since_none o.given.slot at (submit_of at j o ∷ submits) (omega arith, early)))) n)
        (λ t. waits l (λ e. absurd (eqb-false o.ordinal k t e)) t s n)
    stage-submits j at early past (runs q l m f r s n) = absurd (omega arith)
    stage-submits j at early past (done l p f s) =
        let other : o.ordinal ≡ k → ⊥ = λ e. let d = p e (omega arith) in omega arith in
        done l (λ e. absurd (other e)) (ne_eqb o.ordinal k other) (past-named ops (submit_of at j o) submits past s)

    -- its submit is answered
    pub stage-replies : Stage 2 o ops submits follows slot first → Stage 3 o ops submits follows slot first
    stage-replies (waits l p f s n) = waits l (λ e. let d = p e in absurd (omega arith)) f s n
    stage-replies (runs q l m f r s n) = runs q (omega arith) (omega arith) f r s n
    stage-replies (done l p f s) = done l (λ e z. let d = p e (omega arith) in absurd (omega arith)) f s

    -- An operation of its member's is judged.
    pub stage-judges : (at : ℕ) (a : Bool) → o.given.member ≡ i → Every (λ s. s.at < at) submits
        → Stage 3 o ops submits follows slot first
        → Stage (cond a 4 5) o (decided_op at a o ∷ ops) submits (cond follows false follows) slot
        (cond follows (cond a (named none) first) first)
    unfolding decided_op overtaking
    stage-judges at a m early (waits l p f s n) =
        let other : o.ordinal ≡ k → ⊥ = λ e. let d = p e in omega arith in
        rw f (waits l (λ e. absurd (other e)) refl s (aborted-other (decided_op at a o) ops (λ m e x. other e) ∙ n))
    stage-judges at true m early (runs q l z f r s n) =
        let None-found = aborted-other (decided_op at true o) ops (λ m e x. absurd (apart refl x)) ∙ n in
        rw f (done (omega arith) (λ e h. omega arith) refl (none-named (decided_op at true o ∷ ops) submits refl None-found))
    stage-judges at false m early (runs q l z f r s n) =
        let d = decided_op at false o in
        let found = ap (λ x. overtaking x submits) (aborted-found d ops m q refl) ∙ since_overtaking d submits early in
        rw f (done (omega arith) (λ e h. omega arith) refl (s ∙ ap named (sym found)))
    stage-judges at a m early (done l p f s) =
        let other : o.ordinal ≡ k → ⊥ = λ e. let d = p e (omega arith) in omega arith in
        rw f (done l (λ e. absurd (other e)) refl
        (s ∙ ap (λ x. named (overtaking x submits)) (sym (aborted-other (decided_op at a o) ops (λ m e x. other e)))))

    -- What another member does, whatever the phase is.
    module _ {phase : ℕ} where
      -- the host takes a submit
      pub stage-overtaken : (s : Submit) → o.submit_at < s.at → Every (λ o. o.verdict_at ≤ s.at) ops
          → Stage phase o ops submits follows slot first
          → Stage phase o ops (s ∷ submits) follows slot
          (cond (follows && eqb s.slot slot) (or_first first (names s.member s.at)) first)
      stage-overtaken s late past (waits l p f x n) = rw f (waits l p refl x n)
      stage-overtaken s late past (runs q l m f r x n) = rw f (runs q l m refl r (first_more o submits slot first s r late x) n)
      stage-overtaken s late past (done l p f x) = rw f (done l p refl (past-named ops s submits past x))

      -- an operation is judged
      pub stage-apart : (d : Op) → (d.given.member ≡ i → ⊥) → Stage phase o ops submits follows slot first
          → Stage phase o (d ∷ ops) submits follows slot first
      stage-apart d m (waits l p f s n) = waits l p f s (aborted-other d ops (λ e x y. m e) ∙ n)
      stage-apart d m (runs q l z f r s n) = runs q l z f r s (aborted-other d ops (λ e x y. m e) ∙ n)
      stage-apart d m (done l p f s) =
          done l p f (s ∙ ap (λ x. named (overtaking x submits)) (sym (aborted-other d ops (λ e x y. m e))))

      -- an operation ends: another's, or its own member's
      pub stage-ended : (j at : ℕ) (v : Option Value) → Stage phase o ops submits follows slot first
          → Stage phase o (ended j at v ops) submits follows slot first
      stage-ended j at v (waits l p f s n) = waits l p f s (ended-none j at v ops n)
      stage-ended j at v (runs q l z f r s n) = runs q l z f r s (ended-none j at v ops n)
      stage-ended j at v (done l p f s) = done l p f (s ∙ ap named (sym (ended-overtaking j at v submits ops)))

      pub stage-idle : 4 ≤ phase → Stage phase o ops submits follows slot first → Stage 0 o ops submits follows slot first
      stage-idle h (waits l p f s n) = waits l (λ e. omega arith) f s n
      stage-idle h (runs q l z f r s n) = absurd (omega arith)
      stage-idle h (done l p f s) = done l (λ e z. absurd (omega arith)) f s

      -- The answer is the definition's.
      pub stage-answers : Stage phase o ops submits follows slot first
          → cond follows (named none) first ≡ named (overtaking (aborted_op i k ops) submits)
      stage-answers (waits l p f s n) = rw f (none-named ops submits s n)
      stage-answers (runs q l z f r s n) = rw f (none-named ops submits refl n)
      stage-answers (done l p f s) = rw f s
