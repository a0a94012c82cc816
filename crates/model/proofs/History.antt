-- The history's half of demand 3, of the reference alone, for every kind, every n and every list of calls: the watcher and the
-- reference agree after each call (HistorySteps.antt), and what is claimed follows from that.
use Prim.Native.Nat.{ℕ}
use mathlib.Core.Path.{◌≡◌, refl, ap}
use mathlib.Core.Bool.{cond}
use mathlib.Core.List.{List, [], ◌∷◌}
use mathlib.Core.Option.{none}
use native.Mathlib.Omega.{arith}
use lib.Dec.{eqb}
use borrow.Author.Tests.{eqb-true}
use Rattle.lists.proofs.Functions.{split-both}
use Rattle.model.specs.Kinds.{Kind}
use Rattle.model.specs.Board.{Board}
use Rattle.model.specs.Runs.{Call, Seen}
use Rattle.model.specs.Reference.{Reference, ref_idle, ref_opened, ref_answer, ref_done, ref_done_returns, ref_after, ref_seen, ref_run}
use Rattle.model.specs.Reference.{ref_left}
use Rattle.model.specs.History.{Watch, no_op, watch_step, watch_from, nothing_yet, watched, accepted_of, last_written}
use Rattle.lists.specs.Every.{Every}
use Rattle.model.specs.ReplyChecks.{Checked}
use Rattle.model.specs.Demand3.{Demand3}
use Rattle.model.proofs.Steps.{ref_taken}
use Rattle.model.proofs.Phases.{run_moves}
use Rattle.model.proofs.Positions.{positions_of}
use Rattle.model.proofs.HistoryInvariant.{Agrees}
use Rattle.model.proofs.HistoryLists.{every, serial_of, real_time_of}
use Rattle.model.proofs.HistorySteps.{refused_step, agree_taken}

-- at first nobody runs anything, and nothing has happened
agree_opened : Agrees ref_opened nothing_yet
unfolding ref_opened nothing_yet ref_idle no_op accepted_of last_written
agree_opened = record {
  running = λ i. record {
    no_halt = omega arith;
    as_given = λ p. absurd (omega arith);
    began = omega arith;
    submitted = omega arith;
    fresh = λ p. refl;
    contest = λ p. absurd (omega arith);
  };
  pending = λ i p. tt;
  past = record { taken = tt; judged = tt; reads = tt; real_time = tt };
  book = record { written = λ r. refl; accepted = refl };
}

module _ (kind : Kind) (n : ℕ) where
  agree_after : (ref : Reference) (w : Watch) → Agrees ref w → (call : Call)
      → Agrees (ref_after kind n ref call) (watch_step w call (ref_seen kind n ref call))
  unfolding ref_after watch_step ref_seen
  agree_after ref w h call = split-both Agrees (eqb (ref_answer kind n ref call) 0)
      (λ e. agree_taken (ref_taken kind n ref call (eqb-true (ref_answer kind n ref call) 0 e)) w h (ref_seen kind n ref call)
      (λ k. ap (λ t. ((cond t (ref_done ref call) ref).members k).phase) e)
      (ap (λ t. cond t (ref_done_returns ref call) none) e))
      (λ e. refused_step ref w h)

  agree_left : (ref : Reference) (w : Watch) → Agrees ref w → (calls : List Call)
      → Agrees (ref_left kind n ref calls) (watch_from w calls (ref_run kind n ref calls))
  unfolding ref_left watch_from ref_run
  agree_left ref w h [] = h
  agree_left ref w h (call ∷ calls) =
      agree_left (ref_after kind n ref call) (watch_step w call (ref_seen kind n ref call)) (agree_after ref w h call) calls

  no-halt : (ref : Reference) (w : Watch) → Agrees ref w → (calls : List Call)
      → Every (λ s. (k : ℕ) → s.phases k ≡ 6 → ⊥) (ref_run kind n ref calls)
  unfolding ref_run ref_seen
  no-halt ref w h [] = tt
  no-halt ref w h (call ∷ calls) =
      let x = agree_after ref w h call in (
        (λ k e. let p = (x.running k).no_halt in omega arith),
        no-halt (ref_after kind n ref call) (watch_step w call (ref_seen kind n ref call)) x calls,
      )

-- so demand 3 holds of the reference's own run, and of every run that is seen as the reference's is, if its replies passed the checks
history_of_reference : (kind : Kind) (n : ℕ) (calls : List Call) (boards : List Board)
    → Checked n calls boards (ref_run kind n ref_opened calls) → Demand3 kind n calls boards (ref_run kind n ref_opened calls)
unfolding watched ref_opened ref_idle
history_of_reference kind n calls boards c =
    let seen = ref_run kind n ref_opened calls in
    let w = watched calls seen in
    let h = agree_left kind n ref_opened nothing_yet agree_opened calls in
    record {
      as_reference = refl;
      no_halt = no-halt kind n ref_opened nothing_yet agree_opened calls;
      checked = c;
      history = h.book.accepted;
      serial = serial_of w.decided h.past.reads;
      real_time = real_time_of w.decided h.past.real_time;
      aborts = every (λ o j. j.verdict) w.decided h.past.judged;
      positions = positions_of calls seen (run_moves kind n ref_opened calls);
    }

pub demand3_as_reference : (kind : Kind) (n : ℕ) (calls : List Call) (boards : List Board) (seen : List Seen)
    → seen ≡ ref_run kind n ref_opened calls → Checked n calls boards seen → Demand3 kind n calls boards seen
demand3_as_reference kind n calls boards seen e c = rw e (history_of_reference kind n calls boards (rw e at c))
