-- The log of a run of which demand 3 holds: its rows hold. A begin that was answered 0 gives the ranges, the watcher's positions the order,
-- and the serial history the values that reads show.
use Prim.Native.Nat.{ℕ, ◌-◌}
use mathlib.Core.Path.{◌≡◌, refl, sym, subst, ◌∙◌}
use mathlib.Core.Bool.{cond, ◌&&◌}
use mathlib.Core.List.{List, [], ◌∷◌, map}
use mathlib.Core.Logic.{◌⊎◌, inl, inr, ⊎_elim}
use mathlib.Core.Option.{Option, some}
use native.Mathlib.Omega.{arith}
use lib.Dec.{eqb}
use borrow.Author.Tests.{eqb-true}
use Rattle.lists.specs.Every.{Every}
use Rattle.lists.specs.Functions.{Within}
use Rattle.lists.proofs.Functions.{split, split-both, second}
use Rattle.model.specs.Records.{Value, read, write, zero_value}
use Rattle.model.specs.Kinds.{Kind}
use Rattle.model.specs.Numbers.{begin_answer}
use Rattle.model.specs.Board.{Board}
use Rattle.model.specs.Runs.{Call, begin, deliver, crash, Seen, Step, step}
use Rattle.model.specs.Reference.{Operation, Reference, ref_opened, ref_answer, ref_seen, ref_after, ref_run}
use Rattle.model.specs.History.{Op, watched, accepted_of, last_written}
use Rattle.model.specs.Positions.{step_at, IsBegin, Decided, After, InTurn}
use Rattle.model.specs.Demand3.{Serial, Demand3}
use Rattle.model.proofs.NumberClaims.{numbers_as_listed}
use Rattle.logs.specs.Log.{RowHolds, LogHolds, Rises, row_before, InTurn as RowInTurn, last_written as last_logged}
use Rattle.logs.specs.OwnLog.{returned_or, shown_value, logged_row, own_rows}

-- The operations that begins answered 0 give.

-- if the call is a begin that was answered 0, P holds of the operation that it gives
abbrev pub Gives : (Operation → Type 0) → Call → Seen → Type 0
Gives P (begin i r t v) s =
    s.answer ≡ 0 → P (record { member = i; slot = r; operation = t; value = cond (eqb t write) v zero_value })
Gives P (deliver i) s = Unit {0}
Gives P (crash i) s = Unit {0}

abbrev pub AllGive : (Operation → Type 0) → List Call → List Seen → Type 0
AllGive P [] seen = Unit {0}
AllGive P (call ∷ calls) [] = Unit {0}
AllGive P (call ∷ calls) (s ∷ seen) = Gives P call s × AllGive P calls seen

given_here : (P : Operation → Type 0) (call : Call) (s : Seen) → Gives P call s → (o : Operation) → IsBegin o (some (step call s)) → P o
given_here P (begin i r t v) s g o b = subst P (sym b.1) (g b.0)
given_here P (deliver i) s g o b = absurd b
given_here P (crash i) s g o b = absurd b

-- what holds of all that are given holds of the one that was given at a step
pub given_at : (P : Operation → Type 0) (calls : List Call) (seen : List Seen) → AllGive P calls seen → (o : Operation) (k : ℕ)
    → IsBegin o (step_at calls seen k) → P o
unfolding step_at
given_at P [] seen g o k = λ b. absurd b
given_at P (call ∷ calls) [] g o k = λ b. absurd b
given_at P (call ∷ calls) (s ∷ seen) g o k = split (λ x. IsBegin o x → P o) (eqb k 1)
    (λ e. given_here P call s g.0 o)
    (λ e. given_at P calls seen g.1 o (k - 1))

-- Their ranges, on a board of n: what the numbers 4 to 7 let pass.
pub record Ranges (n : ℕ) (o : Operation) : Type 0 where
  pub member : Within n o.member
  pub slot : Within n o.slot
  pub operation : (o.operation ≡ read) ⊎ (o.operation ≡ write)
  pub own_slot : o.operation ≡ write → o.slot ≡ o.member

begin_ranges : (kind : Kind) (n phase crashed count i r t : ℕ) (v : Value) → begin_answer kind n phase crashed count i r t ≡ 0
    → Ranges n (record { member = i; slot = r; operation = t; value = v })
begin_ranges kind n phase crashed count i r t v h =
    let k = ((numbers_as_listed n).begins kind phase crashed count i r t).done.0 h in
    record {
      member = record { least = k.0.0; most = k.0.1 };
      slot = record { least = k.1.0; most = k.1.1 };
      operation = ⊎_elim (λ w. inr w.0) (λ e. inl e) k.2;
      own_slot = λ w. ⊎_elim (λ own. sym own.1) (λ e. absurd (omega arith)) k.2;
    }

module _ (kind : Kind) (n : ℕ) where
  seen-ranges : (ref : Reference) (call : Call) → Gives (Ranges n) call (ref_seen kind n ref call)
  unfolding ref_seen ref_answer
  seen-ranges ref (begin i r t v) =
      let m = ref.members i in
      begin_ranges kind n m.phase m.crashed (m.begins r) i r t (cond (eqb t write) v zero_value)
  seen-ranges ref (deliver i) = tt
  seen-ranges ref (crash i) = tt

  run-ranges : (ref : Reference) (calls : List Call) → AllGive (Ranges n) calls (ref_run kind n ref calls)
  unfolding ref_run
  run-ranges ref [] = tt
  run-ranges ref (call ∷ calls) = (seen-ranges ref call, run-ranges (ref_after kind n ref call) calls)

-- Accepted operations, among all that reached their verdict.

pub every_accepted : (P : Op → Type 0) (ops : List Op) → Every P ops → Every P (accepted_of ops)
unfolding accepted_of
every_accepted P [] h = tt
every_accepted P (o ∷ ops) h = split (Every P) o.accepted
    (λ a. (h.0, every_accepted P ops h.1))
    (λ a. every_accepted P ops h.1)

in_turn_accepted : (ops : List Op) → InTurn ops → InTurn (accepted_of ops)
unfolding accepted_of
in_turn_accepted [] h = tt
in_turn_accepted (o ∷ ops) h = split InTurn o.accepted
    (λ a. (every_accepted (After o) ops h.0, in_turn_accepted ops h.1))
    (λ a. in_turn_accepted ops h.1)

-- Operations that came one after the other, newest first, and the rows of their log.

rises : (o : Op) (older : List Op) → Every (After o) older → Rises (logged_row o) (map logged_row older)
unfolding logged_row
rises o [] h = tt
rises o (p ∷ older) h = h.0.0

row_before_lem : (o : Op) (older : List Op) → Every (After o) older
    → RowInTurn (logged_row o) (row_before o.given.member (map logged_row older))
unfolding logged_row row_before
row_before_lem o [] h = tt
row_before_lem o (p ∷ older) h = split (RowInTurn (logged_row o)) (eqb p.given.member o.given.member)
    (λ e. h.0.1 (eqb-true p.given.member o.given.member e))
    (λ e. row_before_lem o older h.1)

-- a write shows the value that it was given, so the last write's is the same in the log
last_logged_lem : (r : ℕ) (ops : List Op) → last_logged r (map logged_row ops) ≡ last_written r ops
unfolding logged_row shown_value last_logged last_written
last_logged_lem r [] = refl
last_logged_lem r (o ∷ ops) =
    split-both (λ v w. v ≡ w) (eqb o.given.slot r && eqb o.given.operation write)
    (λ e. rw (second (eqb o.given.slot r) (eqb o.given.operation write) e))
    (λ e. last_logged_lem r ops)

-- an ended read shows what it returned
read_shows : (o : Op) (v : Value) → o.given.operation ≡ read → o.returned ≡ some v → shown_value o ≡ v
unfolding shown_value returned_or
read_shows o v t e = rw (t, e)

module _ (n : ℕ) (look : ℕ → Option Step) (ranges : (o : Operation) (k : ℕ) → IsBegin o (look k) → Ranges n o) where
  row-holds : (o : Op) (older : List Op) → Decided look o → Every (After o) older → Serial (o ∷ older)
      → RowHolds n (logged_row o) (map logged_row older)
  unfolding logged_row
  row-holds o older d after s =
      let g = ranges o.given o.begin_at d.began in
      record {
        member = g.member;
        slot = g.slot;
        operation = g.operation;
        begins = d.in_order.0;
        own_slot = g.own_slot;
        rises = rises o older after;
        begun = omega (arith, d.in_order.1, d.in_order.2);
        ended = d.last;
        in_turn = row_before_lem o older after;
        reads = λ t e. read_shows o (last_written o.given.slot older) t (s.0 t e) ∙ sym (last_logged_lem o.given.slot older);
      }

  log-holds : (ops : List Op) → Every (Decided look) ops → InTurn ops → Serial ops → LogHolds n (map logged_row ops)
  log-holds [] d t s = tt
  log-holds (o ∷ ops) d t s = (row-holds o ops d.0 t.0 s, log-holds ops d.1 t.1 s.1)

-- Of a run.
module _ (kind : Kind) (n : ℕ) (calls : List Call) (boards : List Board) (seen : List Seen) (d : Demand3 kind n calls boards seen) where
  pub own_ranges : (o : Operation) (k : ℕ) → IsBegin o (step_at calls seen k) → Ranges n o
  own_ranges = given_at (Ranges n) calls seen
      (subst (AllGive (Ranges n) calls) (sym d.as_reference) (run-ranges kind n ref_opened calls))

  pub own_rows_lem : LogHolds n (own_rows calls seen)
  unfolding own_rows
  own_rows_lem =
      let decided = (watched calls seen).decided in
      log-holds n (step_at calls seen) own_ranges (accepted_of decided)
      (every_accepted (Decided (step_at calls seen)) decided d.positions.decided)
      (in_turn_accepted decided d.positions.in_turn)
      d.serial
