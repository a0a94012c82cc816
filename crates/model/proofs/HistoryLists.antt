-- Laws of lists of operations and submits: the accepted ones among them, and the newest of a member ended.
use Prim.Native.Nat.{ℕ, ◌≤◌, ◌<◌}
use mathlib.Core.Path.{◌≡◌, refl, sym, ap, ◌∙◌}
use mathlib.Core.Bool.{false, cond, ◌&&◌, ◌||◌}
use mathlib.Core.List.{List, [], ◌∷◌, map}
use mathlib.Core.Option.{Option, some}
use native.Mathlib.Omega.{arith}
use lib.Dec.{eqb, ltb}
use borrow.Author.Tests.{eqb-true, eqb-false, le-ltb, lt-ltb}
use Rattle.lists.proofs.Functions.{on, fails, split, split-both}
use Rattle.model.specs.Records.{Value, write}
use Rattle.model.specs.History.{Op, Submit, ended_op, ended, accepted_of, last_written, contested}
use Rattle.lists.specs.Every.{Every}
use Rattle.model.specs.Demand3.{Serial, RealTime}
use Rattle.model.proofs.HistoryInvariant.{Right, Reads, Pending}

pub every : {A : Type 0} {P Q : A → Type 0} → ((x : A) → P x → Q x) → (l : List A) → Every P l → Every Q l
every f [] h = tt
every f (x ∷ l) h = (f x h.0, every f l h.1)

-- A submit between an operation's own and its verdict contests it if it is for its slot. One that is not before its verdict does not,
-- and neither do submits none of which is after its own.

pub contested_within : (o : Op) (s : Submit) (submits : List Submit) → o.submit_at < s.at → s.at < o.verdict_at
    → contested o (s ∷ submits) ≡ (eqb s.slot o.given.slot || contested o submits)
unfolding contested
contested_within o s submits p q = on (eqb s.slot o.given.slot)
    (λ e. rw (e, lt-ltb o.submit_at s.at p, lt-ltb s.at o.verdict_at q))
    (λ e. rw e)

pub contested_past : (o : Op) (s : Submit) (submits : List Submit) → o.verdict_at ≤ s.at → contested o (s ∷ submits) ≡ contested o submits
unfolding contested
contested_past o s submits h =
    ap (λ t. t || contested o submits)
    (fails (eqb s.slot o.given.slot) (fails (ltb o.submit_at s.at) (le-ltb s.at o.verdict_at h)))

pub contested_none : (o : Op) (submits : List Submit) → Every (λ s. s.at ≤ o.submit_at) submits → contested o submits ≡ false
unfolding contested
contested_none o [] h = refl
contested_none o (s ∷ submits) h =
    ap (λ t. t || contested o submits) (fails (eqb s.slot o.given.slot) (rw (le-ltb o.submit_at s.at h.0)))
    ∙ contested_none o submits h.1

-- The accepted ones.

-- o did not complete before p began
abbrev Keeps : Op → Op → Type 0
Keeps o p = 0 < o.end_at → o.end_at < p.begin_at → ⊥

every_accepted : (P : Op → Type 0) (ops : List Op) → Every P ops → Every P (accepted_of ops)
unfolding accepted_of
every_accepted P [] h = tt
every_accepted P (o ∷ ops) h = split (Every P) o.accepted
    (λ a. (h.0, every_accepted P ops h.1))
    (λ a. every_accepted P ops h.1)

pub serial_of : (ops : List Op) → Reads ops → Serial (accepted_of ops)
unfolding accepted_of
serial_of [] h = tt
serial_of (o ∷ ops) h = split Serial o.accepted
    (λ a. ((λ t e. h.0 e a t), serial_of ops h.1))
    (λ a. serial_of ops h.1)

pub real_time_of : (ops : List Op) → RealTime ops → RealTime (accepted_of ops)
unfolding accepted_of
real_time_of [] h = tt
real_time_of (o ∷ ops) h = split RealTime o.accepted
    (λ a. (every_accepted (Keeps o) ops h.0, real_time_of ops h.1))
    (λ a. real_time_of ops h.1)

-- The newest operation of member i ended at a step: only its end and what it returned are new.

module _ (i at : ℕ) (v : Option Value) where
  pub every_ended : (P Q : Op → Type 0) → ((o : Op) → o.given.member ≡ i → P o → Q (ended_op at v o)) → ((o : Op) → P o → Q o)
      → (ops : List Op) → Every P ops → Every Q (ended i at v ops)
  unfolding ended
  every_ended P Q f g [] h = tt
  every_ended P Q f g (o ∷ ops) h = split (Every Q) (eqb o.given.member i)
      (λ e. (f o (eqb-true o.given.member i e) h.0, every g ops h.1))
      (λ e. (g o h.0, every_ended P Q f g ops h.1))

  pub contested_ended : (o : Op) (submits : List Submit) → contested (ended_op at v o) submits ≡ contested o submits
  unfolding contested ended_op
  contested_ended o [] = refl
  contested_ended o (s ∷ submits) =
      let within = ltb o.submit_at s.at && ltb s.at o.verdict_at in
      ap (λ t. (eqb s.slot o.given.slot && within) || t) (contested_ended o submits)

  -- so whatever is computed from the accepted ones without looking at these two is as before
  kept : {A : Type 0} (f : List Op → A) → ((o : Op) (l m : List Op) → f l ≡ f m → f (o ∷ l) ≡ f (o ∷ m))
      → ((o : Op) (l : List Op) → f (ended_op at v o ∷ l) ≡ f (o ∷ l))
      → (ops : List Op) → f (accepted_of (ended i at v ops)) ≡ f (accepted_of ops)
  unfolding ended accepted_of ended_op
  kept f p q [] = refl
  kept f p q (o ∷ ops) = split (λ l. f (accepted_of l) ≡ f (accepted_of (o ∷ ops))) (eqb o.given.member i)
      (λ e. split-both (λ l m. f l ≡ f m) o.accepted (λ a. q o (accepted_of ops)) (λ a. refl))
      (λ e. split-both (λ l m. f l ≡ f m) o.accepted
      (λ a. p o (accepted_of (ended i at v ops)) (accepted_of ops) (kept f p q ops))
      (λ a. kept f p q ops))

  pub last_ended : (r : ℕ) (ops : List Op) → last_written r (accepted_of (ended i at v ops)) ≡ last_written r (accepted_of ops)
  unfolding last_written ended_op
  last_ended r = kept (last_written r)
      (λ o l m h. ap (cond (eqb o.given.slot r && eqb o.given.operation write) o.given.value) h)
      (λ o l. refl)

  pub givens_ended : (ops : List Op) → map (λ o. o.given) (accepted_of (ended i at v ops)) ≡ map (λ o. o.given) (accepted_of ops)
  unfolding ended_op
  givens_ended = kept (map (λ o. o.given)) (λ o l m h. ap (λ t. o.given ∷ t) h) (λ o l. refl)

  right-ended : (u : Option Value) (o : Op) (ops : List Op) → Right u o ops → Right u o (ended i at v ops)
  right-ended u o ops h a t = h a t ∙ ap some (sym (last_ended o.given.slot ops))

  pub reads_ended : (ops : List Op) → Pending i v ops → Reads ops → Reads (ended i at v ops)
  unfolding ended ended_op
  reads_ended [] p h = tt
  reads_ended (o ∷ ops) p h = split Reads (eqb o.given.member i)
      (λ e. ((λ z. p.0 (eqb-true o.given.member i e)), h.1))
      (λ e. ((λ z. right-ended o.returned o ops (h.0 z)), reads_ended ops (p.1 (eqb-false o.given.member i e)) h.1))

  pub pending_ended : (k : ℕ) (u : Option Value) (ops : List Op) → Pending k u ops → Pending k u (ended i at v ops)
  unfolding ended ended_op
  pending_ended k u [] p = tt
  pending_ended k u (o ∷ ops) p = split (Pending k u) (eqb o.given.member i)
      (λ e. (p.0, p.1))
      (λ e. ((λ z. right-ended u o ops (p.0 z)), (λ z. pending_ended k u ops (p.1 z))))

  pub real_time-ended : (ops : List Op) → Every (λ o. o.begin_at ≤ at) ops → RealTime ops → RealTime (ended i at v ops)
  unfolding ended ended_op
  real_time-ended [] b h = tt
  real_time-ended (o ∷ ops) b h = split RealTime (eqb o.given.member i)
      (λ e. (every (λ p l y z. omega arith) ops b.1, h.1))
      (λ e. (every_ended (Keeps o) (Keeps o) (λ p m l. l) (λ p l. l) ops h.0, real_time-ended ops b.1 h.1))
