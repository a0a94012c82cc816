-- Laws of feeding: in pieces, and that at all bytes fed, and at the end, what the definition of whole scripts says happens and is
-- printed. By
-- induction over the bytes: what happens at them is what is still to happen of the lines that they write.
use Prim.Native.Nat.{ℕ, suc, ◌+◌, ◌-◌, ◌≤◌, ◌<◌}
use native.Mathlib.Omega.{arith}
use mathlib.Core.Path.{◌≡◌, refl, sym, ap, ◌∙◌}
use mathlib.Core.Bool.{true, false, cond, ◌||◌}
use mathlib.Core.List.{List, [], ◌∷◌, ◌++◌, append_assoc, append-nil}
use mathlib.Core.Option.{Option, none, some}
use lib.Dec.{eqb, ltb}
use lib.ListN.{length, take, length-append, length-take}
use lib.Seq.{take_all, take-nil, take-append-le}
use borrow.Author.Tests.{ne_eqb, eqb-false, lt-ltb, le-ltb, ltb-true, ltb-false}
use Rattle.lists.specs.Functions.{inside}
use Rattle.lists.proofs.Functions.{on}
use Rattle.model.specs.Kinds.{Kind}
use Rattle.model.specs.Board.{opened}
use Rattle.model.specs.Table.{table_words}
use Rattle.model.specs.Runs.{Step}
use Rattle.model.specs.Script.{starts_with, line_feed, first_of, step_line, steps_from, most_steps, with_byte, lines_of, Run, refused, ran}
use Rattle.model.specs.Script.{board_run, lines_run, script_run, board_line, refused_line, printed_step, printed_steps}
use Rattle.model.specs.Script.{printed_run, script_output}
use Rattle.script.proofs.Lines.{line_kept, members_kept}
use Rattle.script_run.specs.Feeding.{State, Event, refuses, opens, Fed, most_kept, over_step, over, start, keep, ended, first_run}
use Rattle.script_run.specs.Feeding.{step_run, line_run}
use Rattle.script_run.specs.Feeding.{silent, byte_fed, fed, last_events, step_events, run_events, printed_event, printed_events}

-- In pieces.

pub fed_append : (kind : Kind) (s : State) (l m : List ℕ)
    → fed kind s (l ++ m) ≡ record {
      state = (fed kind (fed kind s l).state m).state;
      events = (fed kind s l).events ++ (fed kind (fed kind s l).state m).events;
    }
unfolding fed
fed_append kind s [] m = refl
fed_append kind s (b ∷ l) m =
    let one = byte_fed kind s b in
    rw (fed_append kind one.state l m, append_assoc)

-- Whole scripts.

-- the lines of what is left, of which the first has begun with p
begun : List ℕ → List (List ℕ) → List (List ℕ)
begun [] lines = lines
begun (b ∷ p) lines = with_byte b (begun p lines)

begun_more : (p : List ℕ) (b : ℕ) (lines : List (List ℕ)) → begun p (with_byte b lines) ≡ begun (p ++ (b ∷ [])) lines
unfolding begun
begun_more [] b lines = refl
begun_more (a ∷ p) b lines = ap (with_byte a) (begun_more p b lines)

begun_ended : (p : List ℕ) (lines : List (List ℕ)) → begun p ([] ∷ lines) ≡ p ∷ lines
unfolding begun with_byte
begun_ended [] lines = refl
begun_ended (b ∷ p) lines = ap (with_byte b) (begun_ended p lines)

begun_none : (b : ℕ) (p : List ℕ) → begun (b ∷ p) [] ≡ (b ∷ p) ∷ []
unfolding begun with_byte
begun_none b [] = refl
begun_none b (a ∷ p) = ap (with_byte b) (begun_none a p)

-- the first bytes of a line with one byte more
keep_take : (p : List ℕ) (b : ℕ) → keep (take most_kept p) b ≡ take most_kept (p ++ (b ∷ []))
unfolding keep
keep_take p b = on (ltb (length p) most_kept)
    (λ h. let q : length p < most_kept = ltb-true (length p) most_kept h in
    let whole : take most_kept p ≡ p = take_all most_kept p (omega arith) in
    rw (whole, h) (sym (take_all most_kept (p ++ (b ∷ [])) (simp length-append (omega arith)))))
    (λ h. let q : most_kept ≤ length p = ltb-false (length p) most_kept h in
    let full : ltb (length (take most_kept p)) most_kept ≡ false =
    le-ltb (length (take most_kept p)) most_kept (simp length-take (omega arith)) in
    rw full (sym (take-append-le most_kept p (b ∷ []) q)))

-- what is still to happen from a line on
left_events : Kind → State → List (List ℕ) → List Event
left_events kind s lines =
    cond (eqb s.step 0) (run_events (lines_run kind lines))
    (step_events s.step (steps_from kind s.table (take (over_step - s.step) lines)))

module _ (kind : Kind) where
  left_over : (s : State) (lines : List (List ℕ)) → over s ≡ true → left_events kind s lines ≡ []
  unfolding left_events step_events steps_from
  left_over s lines h =
      let p : most_steps < s.step = ltb-true most_steps s.step h in
      let none_left : over_step - s.step ≡ 0 = omega arith in
      rw (ne_eqb s.step 0 (omega arith), none_left)

  left-none : (s : State) → 0 < s.step → left_events kind s [] ≡ []
  unfolding left_events step_events steps_from
  left-none s p = rw (ne_eqb s.step 0 (omega arith), take-nil)

  left-kept : (s : State) (kept : List ℕ) (lines : List (List ℕ))
      → left_events kind (record { step = s.step; table = s.table; kept = kept }) lines ≡ left_events kind s lines
  unfolding left_events
  left-kept s kept lines = refl

  -- a line is ended

  refused-ends : (table : List ℕ) (number : ℕ) (lines : List (List ℕ))
      → run_events (refused number) ≡ refuses number ∷ left_events kind (ended over_step table (refuses number)).state lines
  unfolding run_events
  refused-ends table number lines = ap (λ l. refuses number ∷ l) (sym (left_over (ended over_step table (refuses number)).state lines refl))

  opened-ends : (n : ℕ) (table : List ℕ) (lines : List (List ℕ))
      → run_events (ran n (steps_from kind table (take most_steps lines))) ≡ opens n ∷ left_events kind
      (ended 1 table (opens n)).state lines
  unfolding left_events run_events
  opened-ends n table lines = refl

  first_ends : (table : List ℕ) (o : Option ℕ) (lines : List (List ℕ))
      → run_events (board_run kind o lines) ≡ (first_run kind table o).events ++ left_events kind (first_run kind table o).state lines
  unfolding board_run first_run
  first_ends table none lines = refused-ends table 17 lines
  first_ends table (some n) lines = on (inside kind.most n)
      (λ h. rw h (opened-ends n (table_words n (opened n)) lines))
      (λ h. rw h (refused-ends table 1 lines))

  step-ends : (s : State) (p : List ℕ) (lines : List (List ℕ)) → over s ≡ false → 0 < s.step → s.kept ≡ take most_kept p
      → left_events kind s (p ∷ lines) ≡ (step_run kind s).events ++ left_events kind (step_run kind s).state lines
  unfolding left_events step_run step_events steps_from step_line
  step-ends s p lines h counts e =
      let q : s.step ≤ most_steps = ltb-false most_steps s.step h in
      let more : over_step - s.step ≡ suc (over_step - (s.step + 1)) = omega arith in
      rw (ne_eqb s.step 0 (omega arith), ne_eqb (s.step + 1) 0 (omega arith), more, e, line_kept)

  left-first : (s : State) (p : List ℕ) (lines : List (List ℕ)) → eqb s.step 0 ≡ true
      → left_events kind s (p ∷ lines) ≡ run_events (board_run kind (first_of p) lines)
  unfolding left_events lines_run
  left-first s p lines z = rw z

  line-ends : (s : State) (p : List ℕ) (lines : List (List ℕ)) → over s ≡ false → s.kept ≡ take most_kept p
      → left_events kind s (p ∷ lines) ≡ (line_run kind s).events ++ left_events kind (line_run kind s).state lines
  unfolding line_run
  line-ends s p lines h e = on (eqb s.step 0)
      (λ z. rw z (left-first s p lines z
      ∙ ap (λ o. run_events (board_run kind o lines)) (sym (members_kept p) ∙ ap first_of (sym e))
      ∙ first_ends s.table (first_of s.kept) lines))
      (λ z. let nz : s.step ≡ 0 → ⊥ = eqb-false s.step 0 z in rw z (step-ends s p lines h (omega arith) e))

  first-counts : (table : List ℕ) (o : Option ℕ) → 0 < (first_run kind table o).state.step
  unfolding first_run
  first-counts table none = omega arith
  first-counts table (some n) = on (inside kind.most n) (λ h. rw h (omega arith)) (λ h. rw h (omega arith))

  line-counts : (s : State) → 0 < (line_run kind s).state.step
  unfolding line_run step_run
  line-counts s = on (eqb s.step 0)
      (λ z. rw z (first-counts s.table (first_of s.kept)))
      (λ z. rw z (omega arith))

  first-fresh : (table : List ℕ) (o : Option ℕ) → (first_run kind table o).state.kept ≡ []
  unfolding first_run
  first-fresh table none = refl
  first-fresh table (some n) = on (inside kind.most n) (λ h. rw h) (λ h. rw h)

  line-fresh : (s : State) → (line_run kind s).state.kept ≡ []
  unfolding line_run step_run
  line-fresh s = on (eqb s.step 0)
      (λ z. rw z (first-fresh s.table (first_of s.kept)))
      (λ z. rw z)

  -- the input is over

  last_none : (s : State) → over s ≡ false → s.kept ≡ [] → last_events kind s ≡ left_events kind s []
  unfolding last_events line_run first_run first_of starts_with left_events lines_run run_events step_events steps_from
  last_none s h e = on (eqb s.step 0)
      (λ z. rw (h, z, e))
      (λ z. rw (h, z, e, take-nil))

  last_some : (s : State) (b : ℕ) (p : List ℕ) → over s ≡ false → s.kept ≡ take most_kept (b ∷ p)
      → last_events kind s ≡ left_events kind s ((b ∷ p) ∷ [])
  unfolding last_events
  last_some s b p h e =
      let begun : ltb 0 (length s.kept) ≡ true = rw e (lt-ltb 0 (length (take most_kept (b ∷ p))) (simp length-take (omega arith))) in
      let any : (eqb s.step 0 || ltb 0 (length s.kept)) ≡ true = on (eqb s.step 0) (λ z. rw z) (λ z. rw (z, begun)) in
      rw (h, any)
      (sym (line-ends s (b ∷ p) [] h e
      ∙ ap (λ l. (line_run kind s).events ++ l) (left-none (line_run kind s).state (line-counts s))
      ∙ append-nil (line_run kind s).events))

  last-left : (s : State) (p : List ℕ) → s.kept ≡ take most_kept p → over s ≡ false → last_events kind s ≡ left_events kind s (begun p [])
  unfolding begun
  last-left s [] e h = last_none s h e
  last-left s (b ∷ p) e h = last_some s b p h e ∙ ap (left_events kind s) (sym (begun_none b p))

  -- byte by byte

  pub over_fed : (s : State) (l : List ℕ) → over s ≡ true → fed kind s l ≡ silent s
  unfolding fed byte_fed
  over_fed s [] h = refl
  over_fed s (b ∷ l) h = rw (h, over_fed s l h)

  pub over_last : (s : State) → over s ≡ true → last_events kind s ≡ []
  unfolding last_events
  over_last s h = rw h

  byte_kept : (s : State) (b : ℕ) → over s ≡ false → eqb b line_feed ≡ false
      → byte_fed kind s b ≡ silent (record { step = s.step; table = s.table; kept = keep s.kept b })
  unfolding byte_fed
  byte_kept s b h z = rw (h, z)

  byte_ends : (s : State) (b : ℕ) → over s ≡ false → eqb b line_feed ≡ true → byte_fed kind s b ≡ line_run kind s
  unfolding byte_fed
  byte_ends s b h z = rw (h, z)

  over-streamed : (l p : List ℕ) (s : State) → over s ≡ true
      → (fed kind s l).events ++ last_events kind (fed kind s l).state ≡ left_events kind s (begun p (lines_of l))
  over-streamed l p s h = rw (over_fed s l h) (over_last s h ∙ sym (left_over s (begun p (lines_of l)) h))

  -- all that happens at some bytes, and at the end behind them
  all-events : Fed → List Event
  all-events f = f.events ++ last_events kind f.state

  fed-step : (s : State) (b : ℕ) (l : List ℕ) (one : Fed) → byte_fed kind s b ≡ one
      → all-events (fed kind s (b ∷ l)) ≡ one.events ++ all-events (fed kind one.state l)
  unfolding fed all-events
  fed-step s b l one e =
      append_assoc (byte_fed kind s b).events (fed kind (byte_fed kind s b).state l).events
      (last_events kind (fed kind (byte_fed kind s b).state l).state)
      ∙ ap (λ f. f.events ++ all-events (fed kind f.state l)) e

  -- of the bytes l, the line having begun with p
  streamed-from : (l p : List ℕ) (s : State) → s.kept ≡ take most_kept p
      → all-events (fed kind s l) ≡ left_events kind s (begun p (lines_of l))
  unfolding fed lines_of begun all-events
  streamed-from [] p s e = on (over s)
      (λ h. over-streamed [] p s h)
      (λ h. last-left s p e h)
  streamed-from (b ∷ l) p s e = on (over s)
      (λ h. over-streamed (b ∷ l) p s h)
      (λ h. on (eqb b line_feed)
      (λ z. fed-step s b l (line_run kind s) (byte_ends s b h z)
      ∙ ap (λ t. (line_run kind s).events ++ t) (streamed-from l [] (line_run kind s).state (line-fresh s))
      ∙ sym (line-ends s p (lines_of l) h e)
      ∙ rw (z, begun_ended))
      (λ z. let next : State = record { step = s.step; table = s.table; kept = keep s.kept b } in
      fed-step s b l (silent next) (byte_kept s b h z)
      ∙ streamed-from l (p ++ (b ∷ [])) next (ap (λ k. keep k b) e ∙ keep_take p b)
      ∙ left-kept s (keep s.kept b) (begun (p ++ (b ∷ [])) (lines_of l))
      ∙ rw (z, begun_more)))

-- All bytes fed, and the input ended: what happens is what the definition of whole scripts says.
pub streamed_events : (kind : Kind) (input : List ℕ)
    → (fed kind start input).events ++ last_events kind (fed kind start input).state ≡ run_events (script_run kind input)
unfolding start script_run left_events begun all-events
streamed_events kind input = streamed-from kind input [] start refl

-- What is printed of events in pieces, and of those of a whole run.

pub printed_append : (l m : List Event) → printed_events (l ++ m) ≡ printed_events l ++ printed_events m
unfolding printed_events
printed_append [] m = refl
printed_append (e ∷ l) m = rw (printed_append l m, append_assoc)

printed_steps_lem : (k : ℕ) (l : List (Option Step)) → printed_events (step_events k l) ≡ printed_steps k l
unfolding printed_events printed_event step_events printed_steps
printed_steps_lem k [] = refl
printed_steps_lem k (s ∷ l) = ap (λ t. printed_step k s ++ t) (printed_steps_lem (k + 1) l)

printed_run_lem : (r : Run) → printed_events (run_events r) ≡ printed_run r
unfolding printed_events printed_event run_events printed_run
printed_run_lem (refused number) = append-nil (refused_line number)
printed_run_lem (ran n l) = ap (λ t. board_line n ++ t) (printed_steps_lem 1 l)

-- So is what is printed.
pub streamed : (kind : Kind) (input : List ℕ)
    → printed_events (fed kind start input).events ++ printed_events
    (last_events kind (fed kind start input).state) ≡ script_output kind input
unfolding script_output
streamed kind input =
    sym (printed_append (fed kind start input).events (last_events kind (fed kind start input).state))
    ∙ ap printed_events (streamed_events kind input)
    ∙ printed_run_lem (script_run kind input)
