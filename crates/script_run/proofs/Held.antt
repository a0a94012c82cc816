-- Laws of how the code holds lines, calls, steps, events and texts: each by the cases of its definition.
use Prim.Native.Nat.{ℕ, ◌+◌, ◌≤◌, ◌<◌}
use native.Mathlib.Omega.{arith}
use mathlib.Core.Path.{◌≡◌, refl, sym, ap, ◌∙◌}
use mathlib.Core.Bool.{true, cond}
use mathlib.Core.List.{List, [], ◌∷◌, ◌++◌, append-nil}
use mathlib.Core.Option.{Option, none, some}
use lib.Dec.{eqb}
use lib.ListN.{length, take, drop, replicate, take-append-drop}
use lib.Seq.{take-append-add, take-append_seam, length-take-le}
use borrow.Author.Tests.{eq-eqb}
use Rattle.lists.specs.Functions.{put, inside, numbered}
use Rattle.lists.specs.Parts.{words, tabulate}
use Rattle.lists.proofs.Functions.{on}
use Rattle.lists.proofs.Parts.{tabulate-at, length-replaced}
use Rattle.model.specs.Kinds.{concur}
use Rattle.model.specs.Records.{Value, zero_value}
use Rattle.model.specs.RecordWords.{value_of}
use Rattle.model.specs.Board.{Board, opened}
use Rattle.model.specs.Runs.{Call, begin, crash, Step, step, done, done_returns}
use Rattle.model.specs.Table.{table_size, table_words}
use Rattle.model.specs.TableCalls.{open_number, open_words, board_in, table_answer, table_after, table_returns, phase_words, table_seen}
use Rattle.model.specs.Script.{Line, writes, reads, delivers, crashes, malformed, line_of, call_of, caller, stepped, step_line}
use Rattle.model.specs.Script.{printed_line, last_word, printed_step, board_line, refused_line}
use Rattle.laws.proofs.Records.{value_of_same}
use Rattle.laws.proofs.Tables.{length-table, table_zero}
use Rattle.runs.proofs.Words.{last_held}
use Rattle.records.proofs.Laws.{zero_value_lem}
use Rattle.member_block.specs.Results.{returned_in, returned_of}
use Rattle.std.specs.Prelude.{Option as CodeOption, Some, None, Result, Ok, Err, IsOk}
use Rattle.rules.specs.Refusals.{number, answer}
use Rattle.rules.proofs.Refusals.{refuses}
use Rattle.rules.specs.declared.refusal.Refusal.{Refusal}
use Rattle.script.specs.declared.Line.{Line as LineRead}
use Rattle.script.specs.declared.Line.TheVariants.{Write, Read, Deliver, Crash}
use Rattle.script.specs.Meaning.{held_line, line_member, Printed}
use Rattle.script_run.specs.Feeding.{Event, printed_event, printed_events}
use Rattle.script_run.specs.Meaning.{call_by, Shows, StepHeld, EventsHeld, Whole, Wrote}
use Rattle.script_run.specs.declared.Done.{Done}
use Rattle.script_run.specs.declared.Event.{Event as EventSeen}
use Rattle.script_run.specs.declared.Event.TheVariants.{Refused, Opened, Step as StepSeen}

-- Lines.

pub no_call : (l : Line) → None ≡ held_line l → call_of l ≡ none
unfolding call_of
no_call (writes m v) h = cc
no_call (reads m r) h = cc
no_call (delivers m) h = cc
no_call (crashes m) h = cc
no_call malformed h = refl

pub some_call : (l : Line) (read : LineRead) → Some read ≡ held_line l → call_of l ≡ some (call_by read)
unfolding call_of
some_call (writes m v) read h = let e : Write m v ≡ read = cc in ap (λ r. some (call_by r)) e
some_call (reads m r) read h = let e : Read m r ≡ read = cc in ap (λ r. some (call_by r)) e
some_call (delivers m) read h = let e : Deliver m ≡ read = cc in ap (λ r. some (call_by r)) e
some_call (crashes m) read h = let e : Crash m ≡ read = cc in ap (λ r. some (call_by r)) e
some_call malformed read h = cc

pub caller_by : (line : LineRead) → caller (call_by line) ≡ line_member line
unfolding caller
caller_by (Write m v) = refl
caller_by (Read m r) = refl
caller_by (Deliver m) = refl
caller_by (Crash m) = refl

-- Values.

pub value_last : (v : ℕ) → value_of (words (0 ∷ 0 ∷ 0 ∷ 0 ∷ 0 ∷ 0 ∷ 0 ∷ v ∷ [])) ≡ put zero_value 8 v
unfolding tabulate put zero_value
value_last v =
    value_of_same (words (0 ∷ 0 ∷ 0 ∷ 0 ∷ 0 ∷ 0 ∷ 0 ∷ v ∷ [])) (λ i. put zero_value 8 v (i + 1))
    (tabulate-at 8 (λ i. put zero_value 8 v (i + 1)))
    ∙ last_held v

-- The calls that the code makes: each returns no value but deliver.

pub call_write : (m v : ℕ) → call_by (Write m v) ≡ begin m m 2 (value_of (words (0 ∷ 0 ∷ 0 ∷ 0 ∷ 0 ∷ 0 ∷ 0 ∷ v ∷ [])))
call_write m v = ap (begin m m 2) (sym (value_last v))

pub call_read : (m r : ℕ) → call_by (Read m r) ≡ begin m r 1 (value_of (words (replicate 8 0)))
call_read m r = ap (begin m r 1) (sym zero_value_lem)

pub begin_silent : (m r t : ℕ) (v : Value) (b : Board) → done_returns b (begin m r t v) ≡ none
unfolding done_returns
begin_silent m r t v b = refl

pub crash_silent : (m : ℕ) (b : Board) → done_returns b (crash m) ≡ none
unfolding done_returns
crash_silent m b = refl

silent_returns : (l : List ℕ) (call : Call) → ((b : Board) → done_returns b call ≡ none) → table_returns concur l call ≡ none
unfolding table_returns
silent_returns l call h = on (eqb (table_answer concur l call) 0) (λ p. rw p (h (board_in l))) (λ p. rw p)

-- a call that is done without a value, or refused: nothing is returned
pub call_plain : (l : List ℕ) (call : Call) → ((b : Board) → done_returns b call ≡ none)
    → (r : Result (CodeOption (List ℕ)) Refusal) → returned_of r ≡ none → returned_of r ≡ table_returns concur l call
call_plain l call h r e = e ∙ sym (silent_returns l call h)

-- A step, by what its call answers.

module _ (table line : List ℕ) where
  pub step_malformed : None ≡ held_line (line_of line) → step_line concur table line ≡ record { table = table; happened = none }
  unfolding step_line stepped
  step_malformed h = rw (no_call (line_of line) h)

  pub step_made : (read : LineRead) → Some read ≡ held_line (line_of line) → step_line concur table line
      ≡ record {
        table = table_after concur table (call_by read);
        happened = some (step (call_by read) (table_seen concur table (call_by read)));
      }
  unfolding step_line stepped
  step_made read h = rw (some_call (line_of line) read h)

-- What was seen at the call of a line, as it is held.
pub call_shown : (table : List ℕ) (d : Done) (after : List ℕ) →
    let call = call_by d.line in
    d.answer ≡ table_answer concur table call → returned_in d.returned ≡ table_returns concur table call
    → after ≡ table_after concur table call → d.phase ≡ phase_words after (line_member d.line)
    → Shows d call (table_seen concur table call)
unfolding table_seen
call_shown table d after a r t p = record {
  made = refl;
  answer = sym a;
  phase = ap (λ l. phase_words l (line_member d.line)) (sym t) ∙ sym p;
  returned = sym r;
}

-- What is printed of a step that is held.

pub last_word_lem : (w : List ℕ) → last_word (some (value_of (words w))) ≡ some (words w 7)
unfolding last_word value_of numbered inside
last_word_lem w = refl

pub malformed_shown : (k : ℕ) (s : Option Step) → StepHeld None s → printed_step k s ≡ printed_line k 17 none none
unfolding printed_step
malformed_shown k none h = refl
malformed_shown k (some s) h = absurd h

pub step_shown : (k : ℕ) (d : Done) (s : Option Step) → StepHeld (Some d) s
    → printed_step k s ≡ printed_line k d.answer (cond (eqb d.answer 4) none (some d.phase)) (last_word (returned_in d.returned))
unfolding printed_step
step_shown k d none h = absurd h
step_shown k d (some (step call s)) h = rw (h.answer, ap caller h.made ∙ caller_by d.line, h.phase, h.returned)

-- What is printed of the events that are held.

pub nothing_shown : (l : List Event) → EventsHeld None l → printed_events l ≡ []
unfolding printed_events
nothing_shown l h = rw h

module _ (e : EventSeen) (l : List Event) (h : EventsHeld (Some e) l) where
  pub one_shown : printed_events l ≡ printed_event h.0
  unfolding printed_events
  one_shown = rw (h.1, append-nil)

pub refused_shown : (number : ℕ) (l : List Event) → EventsHeld (Some (Refused number)) l → printed_events l ≡ refused_line number
unfolding printed_event
refused_shown number l h = one_shown (Refused number) l h ∙ rw h.2

pub opened_shown : (n : ℕ) (l : List Event) → EventsHeld (Some (Opened n)) l → printed_events l ≡ board_line n
unfolding printed_event
opened_shown n l h = one_shown (Opened n) l h ∙ rw h.2.0

pub stepped_shown : (k : ℕ) (done : CodeOption Done) (l : List Event) (h : EventsHeld (Some (StepSeen k done)) l)
    → printed_events l ≡ printed_step k h.2.happened
unfolding printed_event
stepped_shown k done l h = one_shown (StepSeen k done) l h ∙ rw h.2.is

-- Tables.

pub whole_words : (n : ℕ) (b : Board) → 1 ≤ n → n ≤ 12 → Whole (table_words n b)
whole_words n b p q = rw (table_zero n b) (record { least = p; most = q; long = length-table n b; size = table_zero n b })

pub whole_some : (l : List ℕ) → Whole l → 0 < length l
whole_some [] w = w.least
whole_some (x ∷ l) w = omega arith

pub whole_after : (l : List ℕ) (call : Call) → Whole l → Whole (table_after concur l call)
unfolding table_after
whole_after l call w = on (eqb (table_answer concur l call) 0)
    (λ p. rw p (whole_words (words l 0) (done (words l 0) (board_in l) call) w.least w.most))
    (λ p. rw p w)

whole_stepped : (l : List ℕ) (call : Option Call) → Whole l → Whole (stepped concur l call).table
unfolding stepped
whole_stepped l none w = w
whole_stepped l (some call) w = whole_after l call w

pub step_whole : (l line : List ℕ) → Whole l → Whole (step_line concur l line).table
unfolding step_line
step_whole l line w = whole_stepped l (call_of (line_of line)) w

pub opened_words : (n : ℕ) (l : List ℕ) → inside 12 n ≡ true → length l ≡ table_size n → open_words concur n l ≡ table_words n (opened n)
unfolding open_words open_number
opened_words n l p q = rw (p, eq-eqb (length l) (table_size n) q)

-- nothing refuses that opening
pub opened_done : (n : ℕ) (l : List ℕ) → inside 12 n ≡ true → length l ≡ table_size n
    → (r : Result Unit Refusal) → answer r ≡ open_number concur n l → IsOk r
unfolding open_number
opened_done n l p q (Ok x) e = refl
opened_done n l p q (Err refusal) e =
    let z : number refusal ≡ 0 = e ∙ rw (p, eq-eqb (length l) (table_size n) q) in
    let d = sym (eq-eqb (number refusal) 0 z) ∙ refuses refusal in cc

-- Texts.

pub wrote : {before after : List ℕ} {place : ℕ} {text : List ℕ} {next : ℕ} → Printed before after place text next
    → place + length text ≤ length before → Wrote before after place text next
wrote {before} {after} {place} {text} {next} p h = record {
  printed = p;
  room = let long : length after ≡ length before = ap length p.bytes ∙ length-replaced before place text h in omega (arith, p.behind);
}

-- what stands at the front of the output after a text was written behind what stood there
pub wrote_front : {before after : List ℕ} {place : ℕ} {text : List ℕ} {next : ℕ} → Wrote before after place text next
    → place ≤ length before
    → take next after ≡ take place before ++ text
wrote_front {before} {after} {place} {text} {next} w h =
    let head : length (take place before) ≡ place = length-take-le place before h in
    let rest = text ++ drop (length text) (drop place before) in
    ap (λ k. take k after) (w.printed.behind ∙ ap (λ k. k + length text) (sym head))
    ∙ ap (take (length (take place before) + length text)) w.printed.bytes
    ∙ take-append-add (take place before) rest (length text)
    ∙ ap (λ t. take place before ++ t) (take-append_seam text (drop (length text) (drop place before)))

pub wrote_nothing : (l : List ℕ) (place : ℕ) → place ≤ length l → Wrote l l place [] place
wrote_nothing l place h = record {
  printed = record { behind = omega arith; bytes = sym (take-append-drop place l) };
  room = h;
}
