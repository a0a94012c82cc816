-- Laws of the states that the lent words and bytes hold: by each test of the definitions, at the end of a line, and of bytes fed in pieces.
use Prim.Native.Nat.{ℕ, ◌+◌, ◌-◌, ◌≤◌, ◌<◌}
use native.Mathlib.Numerals.{add-one}
use native.Mathlib.Omega.{arith}
use mathlib.Core.Path.{◌≡◌, refl, sym, ap, subst, ◌∙◌}
use mathlib.Core.Bool.{Bool, true, false, cond, not, ◌||◌, ◌&&◌}
use mathlib.Core.List.{List, [], ◌∷◌, ◌++◌, append-nil}
use mathlib.Core.Option.{none, some}
use lib.Dec.{eqb, ltb}
use lib.ListN.{length, take, drop, set, length-append, length-drop}
use lib.Seq.{take-add, take-take, take_all, take-append_seam, length-take-le, take-suc, take-suc-set}
use borrow.Author.Tests.{eq-eqb, ne_eqb, eqb-true, eqb-false, lt-ltb, le-ltb}
use Rattle.lists.specs.Functions.{inside}
use Rattle.lists.specs.Parts.{words}
use Rattle.lists.proofs.Functions.{on, fails}
use Rattle.model.specs.Kinds.{concur}
use Rattle.model.specs.Board.{opened}
use Rattle.model.specs.Table.{table_words}
use Rattle.model.specs.Script.{first_of, step_line, most_steps}
use Rattle.script.specs.Meaning.{longest_printed}
use Rattle.script_run.specs.Feeding.{State, Event, refuses, opens, steps, Fed, most_kept, over_step, over, start, keep, ended}
use Rattle.script_run.specs.Feeding.{first_run, step_run, line_run, silent, byte_fed, fed, last_events, printed_events}
use Rattle.std.specs.Prelude.{Some, None}
use Rattle.script_run.specs.Meaning.{EventHeld, EventsHeld, Whole, most_words, state_of, Ready, Ran, Took, Wrote, FedInto}
use Rattle.script_run.specs.declared.Progress.{Progress}
use Rattle.script_run.specs.declared.Event.TheVariants.{Refused}
use Rattle.script_run.specs.declared.Ended.{Ended}
use Rattle.script_run.specs.declared.Fed.{Fed as FedSeen}
use Rattle.script_run.specs.declared.Written.{Written}
use Rattle.script_run.proofs.Streams.{fed_append, printed_append}
use Rattle.script_run.proofs.Held.{wrote_front}

-- The definitions by their tests.

pub first_inside : (table : List ℕ) (n : ℕ) → inside 12 n ≡ true
    → first_run concur table (some n) ≡ ended 1 (table_words n (opened n)) (opens n)
unfolding first_run
first_inside table n h = rw h

pub first_outside : (table : List ℕ) (n : ℕ) → inside 12 n ≡ false → first_run concur table (some n) ≡ ended over_step table (refuses 1)
unfolding first_run
first_outside table n h = rw h

pub first_none : (table : List ℕ) → first_run concur table none ≡ ended over_step table (refuses 17)
unfolding first_run
first_none table = refl

module _ (p : Progress) (table kept : List ℕ) where
  pub line_first : p.step ≡ 0
      → line_run concur (state_of p table kept) ≡ first_run concur (take p.size table) (first_of (take p.kept kept))
  unfolding line_run state_of
  line_first h = rw (eq-eqb p.step 0 h)

  pub line_step : (p.step ≡ 0 → ⊥)
      → line_run concur (state_of p table kept) ≡ ended (p.step + 1)
      (step_line concur (take p.size table) (take p.kept kept)).table
      (steps p.step (step_line concur (take p.size table) (take p.kept kept)).happened)
  unfolding line_run step_run state_of
  line_step h = rw (ne_eqb p.step 0 h)

  pub byte_ends : (b : ℕ) → p.step ≤ most_steps → b ≡ 10 → byte_fed concur (state_of p table kept) b ≡ line_run concur
      (state_of p table kept)
  unfolding byte_fed state_of
  byte_ends b h e = rw (le-ltb most_steps p.step h, eq-eqb b 10 e)

  pub byte_kept : (b : ℕ) → p.step ≤ most_steps → (b ≡ 10 → ⊥) → byte_fed concur (state_of p table kept) b
      ≡ silent (record { step = p.step; table = take p.size table; kept = keep (take p.kept kept) b })
  unfolding byte_fed state_of
  byte_kept b h e = rw (le-ltb most_steps p.step h, ne_eqb b 10 e)

  -- the end of the input

  pub last_over : most_steps < p.step → last_events concur (state_of p table kept) ≡ []
  unfolding last_events state_of
  last_over h = rw (lt-ltb most_steps p.step h)

  pub last_begun_lem : p.step ≤ most_steps → p.kept ≤ length kept → (begun : Bool) → begun ≡ (eqb p.step 0 || ltb 0 p.kept)
      → last_events concur (state_of p table kept) ≡ cond begun (line_run concur (state_of p table kept)).events []
  unfolding last_events state_of
  last_begun_lem h l begun e = rw (le-ltb most_steps p.step h, length-take-le p.kept kept l, e)

-- One byte more of a line.

pub keep_full : (kept : List ℕ) (count b : ℕ) → length kept ≡ most_kept → count ≡ most_kept → keep (take count kept) b ≡ take count kept
unfolding keep
keep_full kept count b l h = rw (le-ltb (length (take count kept)) most_kept (rw (length-take-le count kept (omega arith)) (omega arith)))

pub keep_more : (kept : List ℕ) (count b : ℕ) → length kept ≡ most_kept → count < most_kept
    → take (count + 1) (set kept count b) ≡ keep (take count kept) b
unfolding keep
keep_more kept count b l h =
    rw (add-one, lt-ltb (length (take count kept)) most_kept (rw (length-take-le count kept (omega arith)) h))
    (take-suc-set kept count b (omega arith))

-- A byte that is kept: the state holds one byte more of the line.

pub kept_state : (p : Progress) (table kept : List ℕ) (b count : ℕ) (kept' : List ℕ) → p.step ≤ most_steps → (b ≡ 10 → ⊥)
    → take count kept' ≡ keep (take p.kept kept) b
    → byte_fed concur (state_of p table kept) b ≡ silent (state_of (record { step = p.step; size = p.size; kept = count }) table kept')
unfolding state_of
kept_state p table kept b count kept' h e k =
    byte_kept p table kept b h e ∙ ap (λ l. silent (record { step = p.step; table = take p.size table; kept = l })) (sym k)

-- What the code leaves at the end of a line.

module _ (p : Progress) (table kept : List ℕ) (ready : Ready p table kept) (run : Fed) (r : Ended) where
  pub refused_ran : (number : ℕ) → run ≡ ended over_step (take p.size table) (refuses number)
      → r ≡ record { progress = record { step = over_step; size = p.size; kept = 0 }; event = Refused number } → Ran run r table kept
  unfolding state_of
  refused_ran number e g = record {
    ready =
        rw g
        (record { room = ready.room; keeps = ready.keeps; line = omega arith; size = ready.size; whole = λ a b. absurd (omega arith) });
    state = ap (λ q. state_of q.progress table kept) g ∙ ap (λ f. f.state) (sym e);
    events = rw (g, e) (refuses number, refl, refl);
  }

  -- the table's part was lent and came back as `part`
  module _ (next size : ℕ) (part : List ℕ) (long : length part ≡ size) (fits : size ≤ most_words) (whole : Whole part) where
    front : take size (part ++ drop size table) ≡ part
    front = ap (λ k. take k (part ++ drop size table)) (sym long) ∙ take-append_seam part (drop size table)

    pub ended-ran : (event : Event) → run ≡ ended next part event → r.progress ≡ record { step = next; size = size; kept = 0 }
        → EventHeld r.event event → Ran run r (part ++ drop size table) kept
    unfolding state_of
    ended-ran event e g h = record {
      ready =
          rw g
          (record {
            room = simp (length-append, length-drop) (omega (arith, ready.room));
            keeps = ready.keeps;
            line = omega arith;
            size = fits;
            whole = λ a b. rw front whole;
          });
      state =
          ap (λ q. state_of q (part ++ drop size table) kept) g
          ∙ ap (λ t. record { step = next; table = t; kept = [] }) front
          ∙ ap (λ f. f.state) (sym e);
      events = rw e (event, refl, h);
    }

-- One byte more of those that are fed: a line that goes on, and one that ends.

fed_one : (s : State) (l : List ℕ) (t : State) (b : ℕ) → fed concur s l ≡ silent t → fed concur s (l ++ (b ∷ [])) ≡ byte_fed concur t b
unfolding fed
fed_one s l t b e =
    fed_append concur s l (b ∷ [])
    ∙ ap (λ f. record { state = (byte_fed concur f.state b).state; events = f.events ++ ((byte_fed concur f.state b).events ++ []) }) e
    ∙ ap (λ m. record { state = (byte_fed concur t b).state; events = m }) (append-nil (byte_fed concur t b).events)

pub fed_more : (s : State) (bytes : List ℕ) (i : ℕ) (t : State) → i < length bytes → fed concur s (take i bytes) ≡ silent t
    → fed concur s (take (i + 1) bytes) ≡ byte_fed concur t (words bytes i)
fed_more s bytes i t h e =
    ap (fed concur s) (ap (λ k. take k bytes) (add-one i) ∙ take-suc bytes i 0 h) ∙ fed_one s (take i bytes) t (words bytes i) e

-- What `take_line` leaves, p being what it was given and q what holds the state in the end.
module _ (p : Progress) (table kept bytes : List ℕ) (q : Progress) (table' kept' : List ℕ) where
  -- no line ended
  pub none_took : Ready q table' kept' → fed concur (state_of p table kept) bytes ≡ silent (state_of q table' kept')
      → Took p table kept bytes (record { progress = q; taken = length bytes; event = None }) table' kept'
  none_took ready whole =
      let all : fed concur (state_of p table kept) (take (length bytes) bytes) ≡ silent (state_of q table' kept') =
      ap (fed concur (state_of p table kept)) (take_all (length bytes) bytes (omega arith)) ∙ whole in
      record {
        within = omega arith;
        some = λ h. h;
        all = λ h. absurd (omega arith);
        ready = ready;
        state = ap (λ f. f.state) (sym all);
        events = ap (λ f. f.events) all;
      }

  -- the byte at i ended the line that q held
  pub line_took : (i : ℕ) → i < length bytes → fed concur (state_of p table kept) (take i bytes) ≡ silent (state_of q table' kept')
      → q.step ≤ most_steps → words bytes i ≡ 10
      → (r : Ended) (table'' : List ℕ) → Ran (line_run concur (state_of q table' kept')) r table'' kept'
      → Took p table kept bytes (record { progress = r.progress; taken = i + 1; event = Some r.event }) table'' kept'
  line_took i h e going feed r table'' ran =
      let s = state_of q table' kept' in
      let all : fed concur (state_of p table kept) (take (i + 1) bytes) ≡ line_run concur s =
      fed_more (state_of p table kept) bytes i s h e ∙ byte_ends q table' kept' (words bytes i) going feed in
      record {
        within = omega arith;
        some = λ f. omega arith;
        all = λ f. refl;
        ready = ran.ready;
        state = ran.state ∙ ap (λ f. f.state) (sym all);
        events = subst (EventsHeld (Some r.event)) (ap (λ f. f.events) (sym all)) ran.events;
      }

-- what is left of the bytes, as it is lent
pub rest_long : (l : List ℕ) (a : ℕ) → a ≤ length l → length (take (length l - a) (drop a l)) ≡ length l - a
rest_long l a h = length-take-le (length l - a) (drop a l) (rw length-drop (omega arith))

-- Bytes that were fed, i of them, and then j of the rest as it is lent.

lent_more : (bytes : List ℕ) (i j : ℕ) → i + j ≤ length bytes
    → take (i + j) bytes ≡ take i bytes ++ take j (take (length bytes - i) (drop i bytes))
lent_more bytes i j h =
    take-add i j bytes ∙ ap (λ l. take i bytes ++ l) (sym (take-take j (length bytes - i) (drop i bytes) (omega arith)))

pub fed_then : (s : State) (bytes : List ℕ) (i j : ℕ) (t : State) → i + j ≤ length bytes → t ≡ (fed concur s (take i bytes)).state
    → fed concur s (take (i + j) bytes) ≡ record {
      state = (fed concur t (take j (take (length bytes - i) (drop i bytes)))).state;
      events = (fed concur s (take i bytes)).events ++ (fed concur t (take j (take (length bytes - i) (drop i bytes)))).events;
    }
fed_then s bytes i j t h e =
    let rest = take j (take (length bytes - i) (drop i bytes)) in
    ap (fed concur s) (lent_more bytes i j h)
    ∙ fed_append concur s (take i bytes) rest
    ∙ ap (λ u. record { state = (fed concur u rest).state; events = (fed concur s (take i bytes)).events ++ (fed concur u rest).events })
    (sym e)

-- a line more, and what it prints behind what was printed
pub fed_into_more : (p : Progress) (table₀ kept₀ bytes : List ℕ) (w : Written) (table kept out : List ℕ)
    → FedInto p table₀ kept₀ bytes w table kept out
    → (r : FedSeen) (table' kept' out' : List ℕ) (next : ℕ)
    → Took w.progress table kept (take (length bytes - w.taken) (drop w.taken bytes)) r table' kept'
    → ((l : List Event) → EventsHeld r.event l → Wrote out out' w.written (printed_events l) next)
    → FedInto p table₀ kept₀ bytes (record { progress = r.progress; taken = w.taken + r.taken; written = next }) table' kept' out'
fed_into_more p table₀ kept₀ bytes w table kept out f r table' kept' out' next t print =
    let rest = take (length bytes - w.taken) (drop w.taken bytes) in
    let long : length rest ≡ length bytes - w.taken = rest_long bytes w.taken f.within in
    let within : w.taken + r.taken ≤ length bytes = omega (arith, t.within, f.within) in
    let s = state_of p table₀ kept₀ in
    let happened = (fed concur (state_of w.progress table kept) (take r.taken rest)).events in
    let all = fed_then s bytes w.taken r.taken (state_of w.progress table kept) within f.state in
    let wrote = print happened t.events in
    record {
      within = within;
      room = wrote.room;
      ready = t.ready;
      state = t.state ∙ ap (λ g. g.state) (sym all);
      printed =
          wrote_front wrote f.room
          ∙ ap (λ l. l ++ printed_events happened) f.printed
          ∙ sym (printed_append (fed concur s (take w.taken bytes)).events happened)
          ∙ ap (λ g. printed_events g.events) (sym all);
    }

-- A script that has not begun, on lent words and bytes of the right lengths.

pub start_ready : (table kept : List ℕ) → length table ≡ most_words → length kept ≡ most_kept
    → Ready (record { step = 0; size = 0; kept = 0 }) table kept
start_ready table kept l m = record { room = l; keeps = m; line = omega arith; size = omega arith; whole = λ a b. absurd (omega arith) }

-- a script that is over
pub over_ready : (table kept : List ℕ) → length table ≡ most_words → length kept ≡ most_kept
    → Ready (record { step = over_step; size = 0; kept = 0 }) table kept
over_ready table kept l m = record { room = l; keeps = m; line = omega arith; size = omega arith; whole = λ a b. absurd (omega arith) }

pub over_held : (table kept : List ℕ) → over (state_of (record { step = over_step; size = 0; kept = 0 }) table kept) ≡ true
unfolding state_of
over_held table kept = refl

-- after which there is nothing more to read, whether some was read or not
pub no_more : (read : Bool) (s : State) → over s ≡ true → (read && not (over s)) ≡ false
no_more read s h = rw h (fails read refl)

pub start_held : (table kept : List ℕ) → state_of (record { step = 0; size = 0; kept = 0 }) table kept ≡ start
unfolding state_of start
start_held table kept = refl

-- Where there is room for a line, something is taken: nothing taken prints nothing.
pub took_some : {p : Progress} {table kept bytes : List ℕ} {r : Written} {table' kept' out : List ℕ}
    → FedInto p table kept bytes r table' kept' out
    → (r.taken < length bytes → length out < r.written + longest_printed) → longest_printed ≤ length out → 0 < length bytes → 0 < r.taken
unfolding fed printed_events
took_some {p} {table} {kept} {bytes} {r} {table'} {kept'} {out} t full room filled = on (eqb r.taken 0)
    (λ z. let none_taken : r.taken ≡ 0 = eqb-true r.taken 0 z in
    let printed : printed_events (fed concur (state_of p table kept) (take r.taken bytes)).events ≡ [] =
    ap (λ k. printed_events (fed concur (state_of p table kept) (take k bytes)).events) none_taken in
    let none_written : r.written ≡ 0 = sym (length-take-le r.written out t.room) ∙ ap length (t.printed ∙ printed) in
    let less = full (omega arith) in
    absurd (omega arith))
    (λ z. let n : r.taken ≡ 0 → ⊥ = eqb-false r.taken 0 z in omega arith)
