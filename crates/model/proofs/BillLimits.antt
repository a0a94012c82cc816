-- How much there is to bill of a run: each member has spent five calls on each of its accepted operations, but for one that may still have
-- to complete. By induction over the calls, on the reference; then sums over the members.
use Prim.Native.Nat.{ℕ, zero, suc, ◌+◌, ◌-◌, ◌*◌, ◌≤◌}
use mathlib.Core.Path.{◌≡◌, refl, sym, ap, subst, ◌∙◌, fun_ext}
use mathlib.Core.Bool.{Bool, true, false, cond}
use mathlib.Core.List.{List, [], ◌∷◌, reverse, reverse-cons}
use native.Mathlib.Omega.{arith}
use lib.Dec.{eqb, leb}
use lib.ListN.{length, drop, length-drop, length-reverse}
use borrow.Author.Tests.{eq-eqb, ne_eqb, eqb-true, eqb-false, leb-true, leb-false}
use Rattle.lists.specs.Functions.{put, inside}
use Rattle.lists.specs.Every.{Every}
use Rattle.lists.proofs.Functions.{on, apart, put_all, inside_in, inside_low, inside_high, inside_above}
use Rattle.model.specs.Kinds.{Kind}
use Rattle.model.specs.Board.{Board}
use Rattle.model.specs.Runs.{Call, Seen}
use Rattle.model.specs.Reference.{Operation, Reference, ref_idle, ref_opened, ref_after, ref_left}
use Rattle.model.specs.Demand3.{Demand3}
use Rattle.model.specs.Script.{caller}
use Rattle.model.specs.Bill.{of_member, price, prices, free_operations, tenths, rounded_up, bill, total, accepted_in_order}
use Rattle.model.specs.BillClaims.{accepted_by, FewAccepted, SmallBills}
use Rattle.model.proofs.Bill.{of_length, accepted_append, accepted_history}
use Rattle.model.proofs.BillSteps.{Part, parts_of, Goes, submitted, answered, aborted, Billed, starts, goes, joins, completes, marks}
use Rattle.model.proofs.BillSteps.{bill_stepped}

-- The calls that member i made.
calls_by : ℕ → List Call → ℕ
calls_by i [] = 0
calls_by i (call ∷ calls) = cond (eqb (caller call) i) 1 0 + calls_by i calls

-- of a member in phase p with so many accepted operations: the calls that it has spent, with those on the one under way
record Paid (p accepted spent : ℕ) : Type 0 where
  low : p ≤ 3 → 5 * accepted + p ≤ spent
  all : 5 * accepted ≤ spent + 1

more : {p accepted spent : ℕ} → Paid p accepted spent → (k : ℕ) → Paid p accepted (k + spent)
more h k = record { low = λ l. omega (arith, h.low l); all = omega (arith, h.all) }

-- one deliver more
went : {from to accepted spent : ℕ} → Goes from to → Paid from accepted spent → Paid to accepted (1 + spent)
went submitted h = record { low = λ l. omega (arith, h.low (omega arith)); all = omega (arith, h.all) }
went answered h = record { low = λ l. omega (arith, h.low (omega arith)); all = omega (arith, h.all) }
went aborted h = record { low = λ l. absurd (omega arith); all = omega (arith, h.all) }

-- all members have, and only members of the board have accepted operations
record AllPaid (n : ℕ) (p : ℕ → Part) (h : List Operation) (spent : ℕ → ℕ) : Type 0 where
  each : (i : ℕ) → Paid (p i).phase (accepted_by i h) (spent i)
  members : Every (λ o. inside n o.member ≡ true) h

-- a call by member i, counted
spend : ℕ → (ℕ → ℕ) → ℕ → ℕ
spend by spent i = cond (eqb by i) 1 0 + spent i

module _ (n : ℕ) (p : ℕ → Part) (h : List Operation) (spent : ℕ → ℕ) (paid : AllPaid n p h spent) where
  refused-paid : (by : ℕ) → AllPaid n p h (spend by spent)
  unfolding spend
  refused-paid by = record { each = λ i. more (paid.each i) (cond (eqb by i) 1 0); members = paid.members }

  -- the caller's part is new, and it has spent one call more
  own-paid : (i : ℕ) (m : Part) (g : List Operation) → ((k : ℕ) → (k ≡ i → ⊥) → accepted_by k g ≡ accepted_by k h)
      → Paid m.phase (accepted_by i g) (1 + spent i) → (k : ℕ) → Paid (put p i m k).phase (accepted_by k g) (spend i spent k)
  unfolding spend
  own-paid i m g others own = put_all (λ k m. Paid m.phase (accepted_by k g) (cond (eqb i k) 1 0 + spent k)) p i m
      (rw (eq-eqb i i refl) own)
      (λ k d. rw (ne_eqb i k (λ e. d (sym e)), others k d) (more (paid.each k) 0))

  taken-paid : {call : Call} {q : ℕ → Part} {g : List Operation} → Billed n p h call q g → AllPaid n q g (spend (caller call) spent)
  unfolding caller accepted_by
  taken-paid (starts i r t v idle) = record {
    each = own-paid i _ h (λ k d. refl) (record {
      low = λ l. omega (arith, idle, (paid.each i).low (omega arith));
      all = omega (arith, (paid.each i).all);
    });
    members = paid.members;
  }
  taken-paid (goes i to g) = record { each = own-paid i _ h (λ k d. refl) (went g (paid.each i)); members = paid.members }
  taken-paid (joins i o ins three who type) = record {
    each = own-paid i _ (o ∷ h)
        (λ k d. rw (ne_eqb o.member k (λ e. d (sym e ∙ who))) (omega arith))
        (rw (eq-eqb o.member i who) (record {
          low = λ l. absurd (omega arith);
          all = omega (arith, (paid.each i).low (omega arith), three);
        }));
    members = (ap (inside n) who ∙ ins, paid.members);
  }
  taken-paid (completes i l) = record {
    each = own-paid i _ h (λ k d. refl) (record { low = λ z. omega (arith, (paid.each i).all); all = omega (arith, (paid.each i).all) });
    members = paid.members;
  }
  taken-paid (marks i) = refused-paid i

-- Over a list of calls.
module _ (kind : Kind) (n : ℕ) where
  abbrev PaidBy : Reference → (ℕ → ℕ) → Type 0
  PaidBy ref spent = AllPaid n (parts_of ref.members) ref.history spent

  step-paid : (ref : Reference) (call : Call) (spent : ℕ → ℕ) → PaidBy ref spent
      → PaidBy (ref_after kind n ref call) (spend (caller call) spent)
  step-paid ref call spent paid =
      bill_stepped kind n ref call (λ q g. AllPaid n q g (spend (caller call) spent))
      (refused-paid n (parts_of ref.members) ref.history spent paid (caller call))
      (λ q g b. taken-paid n (parts_of ref.members) ref.history spent paid b)

  run-paid : (calls : List Call) (ref : Reference) (spent : ℕ → ℕ) → PaidBy ref spent
      → AllPaid n (parts_of (ref_left kind n ref calls).members) (ref_left kind n ref calls).history (λ i. calls_by i calls + spent i)
  unfolding ref_left calls_by spend
  run-paid [] ref spent paid = subst (PaidBy ref) (fun_ext λ i. omega arith) paid
  run-paid (call ∷ calls) ref spent paid =
      let next = ref_left kind n (ref_after kind n ref call) calls in
      subst (PaidBy next) (fun_ext λ i. omega arith)
      (run-paid calls (ref_after kind n ref call) (spend (caller call) spent) (step-paid ref call spent paid))

-- Sums over the members 1 to n.

inside_more : (n c : ℕ) → (c ≡ suc n → ⊥) → inside (suc n) c ≡ inside n c
inside_more n c d = on (inside n c)
    (λ e. inside_in (suc n) c (inside_low n c e) (omega (arith, inside_high n c e)) ∙ sym e)
    (λ e. on (inside (suc n) c)
    (λ f. absurd (apart (inside_in n c (inside_low (suc n) c f) (omega (arith, inside_high (suc n) c f, d))) e))
    (λ f. f ∙ sym e))

none_inside : (c : ℕ) → inside 0 c ≡ false
none_inside c = on (inside 0 c) (λ e. absurd (omega (arith, inside_low 0 c e, inside_high 0 c e))) (λ e. e)

total_one : (n c : ℕ) (f : ℕ → ℕ) → total n (λ i. cond (eqb c i) 1 0 + f i) ≡ total n f + cond (inside n c) 1 0
unfolding total
total_one zero c f = rw (none_inside c)
total_one (suc n) c f =
    let rest = total_one n c f in
    on (eqb c (suc n))
    (λ e. let here : c ≡ suc n = eqb-true c (suc n) e in
    rw (e, inside_in (suc n) c (omega arith) (omega arith)) (omega (arith, rw (inside_above n c (omega arith)) at rest)))
    (λ e. rw (e, inside_more n c (eqb-false c (suc n) e)) (omega arith))

total_none : (n : ℕ) → total n (λ i. 0) ≡ 0
unfolding total
total_none zero = refl
total_none (suc n) = omega (arith, total_none n)

at_most_one : (b : Bool) → cond b 1 0 ≤ 1
at_most_one true = omega arith
at_most_one false = omega arith

total_calls : (n : ℕ) (calls : List Call) → total n (λ i. calls_by i calls) ≤ length calls
unfolding calls_by
total_calls n [] = omega (arith, total_none n)
total_calls n (call ∷ calls) =
    omega (arith, total_one n (caller call) (λ i. calls_by i calls), total_calls n calls, at_most_one (inside n (caller call)))

calls_by_lem : (i : ℕ) (calls : List Call) → calls_by i calls ≤ length calls
unfolding calls_by
calls_by_lem i [] = omega arith
calls_by_lem i (call ∷ calls) = omega (arith, calls_by_lem i calls, at_most_one (eqb (caller call) i))

total_accepted : (n : ℕ) (h : List Operation) → Every (λ o. inside n o.member ≡ true) h → length h ≡ total n (λ i. accepted_by i h)
unfolding accepted_by
total_accepted n [] m = sym (total_none n)
total_accepted n (o ∷ h) m =
    omega (arith, rw m.0 at (total_one n o.member (λ i. accepted_by i h)), total_accepted n h m.1)

total_five : (n : ℕ) (f g : ℕ → ℕ) → ((i : ℕ) → 5 * f i ≤ g i + 1) → 5 * total n f ≤ total n g + n
unfolding total
total_five zero f g h = omega arith
total_five (suc n) f g h = omega (arith, total_five n f g h, h (suc n))

-- Cents.

prices_most : (l : List Operation) → prices l ≤ 35 * length l
unfolding prices price
prices_most [] = omega arith
prices_most (o ∷ l) = let rest = prices_most l in on (eqb o.operation 2) (λ e. rw e (omega arith)) (λ e. rw e (omega arith))

tenths_most : (i : ℕ) (ops : List Operation) → tenths i ops ≤ 35 * (accepted_by i ops - 100)
unfolding tenths
tenths_most i ops =
    omega (arith, prices_most (drop free_operations (of_member i ops)), length-drop free_operations (of_member i ops), of_length i ops)

-- a sum of bills, of members that spent so many calls together: nothing, or no more than one of them would owe for all
data Owed (cents spent : ℕ) : Type 0 where
  nothing : cents ≡ 0 → Owed cents spent
  some : (accepted : ℕ) → 5 * accepted ≤ spent + 1 → 10 * cents + 3500 ≤ 35 * accepted + 5 → Owed cents spent

owed_one : (t accepted spent : ℕ) → t ≤ 35 * (accepted - 100) → 5 * accepted ≤ spent + 1 → Owed (rounded_up t) spent
unfolding rounded_up
owed_one t accepted spent most paid = on (leb accepted 100)
    (λ e. nothing (omega (arith, leb-true accepted 100 e)))
    (λ e. some accepted paid (omega (arith, leb-false accepted 100 e)))

owed_both : {a b s t : ℕ} → Owed a s → Owed b t → Owed (a + b) (s + t)
owed_both (nothing e) (nothing f) = nothing (omega arith)
owed_both (nothing e) (some k p q) = some k (omega arith) (omega arith)
owed_both (some k p q) (nothing f) = some k (omega arith) (omega arith)
owed_both (some k p q) (some l r s) = some (k + l - 1) (omega arith) (omega arith)

owed_total : (n : ℕ) (bills spent : ℕ → ℕ) → ((i : ℕ) → Owed (bills i) (spent i)) → Owed (total n bills) (total n spent)
unfolding total
owed_total zero bills spent h = nothing refl
owed_total (suc n) bills spent h = owed_both (owed_total n bills spent h) (h (suc n))

owed_most : {cents spent : ℕ} → Owed cents spent → spent ≤ 1000000 → cents ≤ 699650
owed_most (nothing e) s = omega arith
owed_most (some k p q) s = omega arith

-- Of a run.

accepted_reverse : (i : ℕ) (l : List Operation) → accepted_by i (reverse l) ≡ accepted_by i l
unfolding accepted_by
accepted_reverse i [] = refl
accepted_reverse i (o ∷ l) =
    ap (accepted_by i) (reverse-cons o l)
    ∙ omega (arith, accepted_append i (reverse l) (o ∷ []), accepted_reverse i l)

module _ (kind : Kind) (n : ℕ) (calls : List Call) where
  abbrev history : List Operation
  history = (ref_left kind n ref_opened calls).history

  all_paid : AllPaid n (parts_of (ref_left kind n ref_opened calls).members) history (λ i. calls_by i calls + 0)
  unfolding ref_opened ref_idle accepted_by
  all_paid = run-paid kind n calls ref_opened (λ i. 0) (record {
    each = λ i. record { low = λ l. omega arith; all = omega arith };
    members = tt;
  })

  each-paid : (i : ℕ) → 5 * accepted_by i history ≤ calls_by i calls + 1
  each-paid i = omega (arith, (all_paid.each i).all)

  few-accepted : FewAccepted n calls (reverse history)
  few-accepted = record {
    each = λ i. omega (arith, each-paid i, accepted_reverse i history, calls_by_lem i calls);
    all = omega (
      arith,
      length-reverse history,
      total_accepted n history all_paid.members,
      total_five n (λ i. accepted_by i history) (λ i. calls_by i calls) each-paid,
      total_calls n calls,
    );
  }

  small-bills : n ≤ 12 → length calls ≤ 1000000 → SmallBills n (reverse history)
  unfolding bill
  small-bills few short = record {
    each = λ i. omega (arith, few-accepted.each i);
    all = omega (arith, few-accepted.all);
    cents = owed_most (owed_total n (bill (reverse history)) (λ i. calls_by i calls)
        (λ i. owed_one (tenths i (reverse history)) (accepted_by i (reverse history)) (calls_by i calls)
        (tenths_most i (reverse history)) (omega (arith, each-paid i, accepted_reverse i history))))
        (omega (arith, total_calls n calls));
  }

-- Of every run of which demand 3 holds: the accepted operations that the watcher has.
pub run_limits : (kind : Kind) (n : ℕ) (calls : List Call) (boards : List Board) (seen : List Seen) → Demand3 kind n calls boards seen
    → FewAccepted n calls (accepted_in_order calls seen)
    × (n ≤ 12 → length calls ≤ 1000000 → SmallBills n (accepted_in_order calls seen))
run_limits kind n calls boards seen d =
    rw (accepted_history kind n calls boards seen d) (few-accepted kind n calls, small-bills kind n calls)
