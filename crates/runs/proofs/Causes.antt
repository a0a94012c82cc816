-- Both answers about a cause hold of every script: its lines without one are again lines that are all steps, so that of each of these runs
-- demand 3 holds, and the model's theorem of such runs.
use Prim.Native.Nat.{ℕ, ◌-◌, ◌≤◌}
use mathlib.Core.Path.{◌≡◌, refl, sym, ap, subst, ◌∙◌, fun_ext}
use mathlib.Core.Bool.{true, cond}
use mathlib.Core.List.{List, [], ◌∷◌}
use mathlib.Core.Option.{Option, none, some}
use native.Mathlib.Omega.{arith}
use lib.Dec.{eqb, ltb}
use lib.ListN.{length}
use borrow.Author.Tests.{ltb-false}
use Rattle.lists.specs.Functions.{inside}
use Rattle.lists.proofs.Functions.{on, both, first, second, split, apart}
use Rattle.model.specs.Kinds.{concur}
use Rattle.model.specs.Board.{Board, opened}
use Rattle.model.specs.Runs.{Call, Seen, Step}
use Rattle.model.specs.History.{Submit, watched}
use Rattle.model.specs.Positions.{step_at}
use Rattle.model.specs.Demand3.{Demand3}
use Rattle.model.specs.Table.{table_words}
use Rattle.model.specs.TableCalls.{table_run, table_boards}
use Rattle.model.specs.Script.{line_call, with_call, calls_of, lines_of, first_of}
use Rattle.model.specs.Overtaker.{named, overtaker_in, is_call, well_formed, lines_overtaker, members_overtaker}
use Rattle.model.specs.Overtaker.{most_bytes}
use Rattle.model.specs.OvertakerClaims.{Answered, NotAborted}
use Rattle.model.specs.Cause.{without, accepted_without, cause_in, answered, unless_refused, lines_cause, most_lines}
use Rattle.model.specs.Cause.{script_cause, cause}
use Rattle.model.specs.CauseClaims.{OfAnother}
use Rattle.model.proofs.Overtaker.{overtaker_answered}
use Rattle.model.proofs.AcceptedOps.{Told}
use Rattle.model.proofs.Cause.{without_none, cause_answered, left_out, accepted_or_overtaken}
use Rattle.runs.specs.Causes.{steps_without, OfLines, Caused, ScriptCaused}
use Rattle.runs.proofs.Scripts.{steps_run}
use Rattle.runs.proofs.Overtakers.{numbered_calls, script_steps}

-- Lines that are all steps, without one.

pub formed_without : (s : ℕ) (lines : List (List ℕ)) → well_formed lines ≡ true → well_formed (without s lines) ≡ true
unfolding well_formed without
formed_without s [] f = refl
formed_without s (line ∷ lines) f =
    let here = first (is_call (line_call line)) (well_formed lines) f in
    let rest = second (is_call (line_call line)) (well_formed lines) f in
    split (λ l. well_formed l ≡ true) (eqb s 1) (λ e. rest) (λ e. both here (formed_without (s - 1) lines rest))

-- each makes one call
call_without : (s : ℕ) (call : Option Call) (calls rest : List Call) → is_call call ≡ true → rest ≡ without (s - 1) calls
    → cond (eqb s 1) calls (with_call call rest) ≡ without s (with_call call calls)
unfolding is_call with_call without
call_without s none calls rest f e = absurd (apart f refl)
call_without s (some call) calls rest f e = ap (λ l. cond (eqb s 1) calls (call ∷ l)) e

pub calls_without : (s : ℕ) (lines : List (List ℕ)) → well_formed lines ≡ true → calls_of (without s lines) ≡ without s (calls_of lines)
unfolding well_formed calls_of without
calls_without s [] f = refl
calls_without s (line ∷ lines) f =
    let here = first (is_call (line_call line)) (well_formed lines) f in
    let rest = second (is_call (line_call line)) (well_formed lines) f in
    let others = calls_of (without (s - 1) lines) in
    let either : calls_of (cond (eqb s 1) lines (line ∷ without (s - 1) lines))
    ≡ cond (eqb s 1) (calls_of lines) (with_call (line_call line) others) =
    on (eqb s 1) (λ e. rw e) (λ e. rw e) in
    either ∙ call_without s (line_call line) (calls_of lines) others here (calls_without (s - 1) lines rest)

-- The lines after the first, on a board of n members.
module _ (n : ℕ) (size : inside 12 n ≡ true) (lines : List (List ℕ)) (formed : well_formed lines ≡ true) (i k : ℕ) where
  abbrev anew : List Call → List Seen
  anew = table_run concur (table_words n (opened n))

  abbrev calls : List Call
  calls = calls_of lines

  abbrev boards : ℕ → List Board
  boards s = table_boards concur (table_words n (opened n)) (without s calls)

  -- demand 3 holds without any one of the calls
  holds : (s : ℕ) → Demand3 concur n (without s calls) (boards s) (anew (without s calls))
  holds s =
      let run = steps_run concur n size (without s lines) in
      subst (λ c. Demand3 concur n c (table_boards concur (table_words n (opened n)) c) (anew c)) (calls_without s lines formed)
      (rw run.run at run.holds)

  steps-at : (λ s. step_at (without s calls) (anew (without s calls))) ≡ steps_without n lines
  steps-at = fun_ext λ s. fun_ext λ t.
      ap (λ c. step_at c (anew c) t) (sym (calls_without s lines formed))
      ∙ sym (numbered_calls (without s lines) (table_words n (opened n)) t (formed_without s lines formed))

  -- an aborted operation is accepted without another's step, or somebody overtakes it there
  pub accepted_or_named : (z : Submit) → overtaker_in (watched calls (anew calls)) i k ≡ some z → (s : ℕ)
      → OfAnother i (step_at calls (anew calls) s)
      → Told (accepted_without anew calls i k s)
      (overtaker_in (watched (calls_of (without s lines)) (anew (calls_of (without s lines)))) i k)
  accepted_or_named z e s other =
      let whole = without_none calls in
      rw (calls_without s lines formed)
      (accepted_or_overtaken concur n anew calls boards holds i k z
      (subst (λ c. overtaker_in (watched c (anew c)) i k ≡ some z) (sym whole) e) s
      (subst (λ c. OfAnother i (step_at c (anew c) s)) (sym whole) other))

  -- Both answers, where somebody overtook the operation in the whole run.
  calls-caused : (z : Submit) → overtaker_in (watched calls (anew calls)) i k ≡ some z
      → Caused i k (cause_in anew calls i k) (steps_without n lines)
  calls-caused z e =
      let there = subst (λ c. overtaker_in (watched c (anew c)) i k ≡ some z) (sym (without_none calls)) e in
      let found = subst (Answered (step_at (without 0 calls) (anew (without 0 calls))) i k) there
      (overtaker_answered concur n (without 0 calls) (boards 0) (anew (without 0 calls)) (holds 0) i k) in
      subst (Caused i k (cause_in anew calls i k)) steps-at (record {
        submit_at = found.submit_at;
        verdict_at = found.verdict_at;
        aborted = found.aborted;
        answered = cause_answered concur n anew calls boards holds i k;
        same = left_out concur n anew calls boards holds i k;
      })

  -- and 31 where nobody did
  calls-not-aborted : overtaker_in (watched calls (anew calls)) i k ≡ none → NotAborted (steps_without n lines 0) i k
  calls-not-aborted e =
      let there = subst (λ c. overtaker_in (watched c (anew c)) i k ≡ none) (sym (without_none calls)) e in
      subst (λ at. NotAborted (at 0) i k) steps-at
      (subst (Answered (step_at (without 0 calls) (anew (without 0 calls))) i k) there
      (overtaker_answered concur n (without 0 calls) (boards 0) (anew (without 0 calls)) (holds 0) i k))

-- Lines whose first names n.
module _ (input line : List ℕ) (lines : List (List ℕ)) (n : ℕ) (split-so : lines_of input ≡ line ∷ lines)
    (named_so : first_of line ≡ some n)
    (short : length input ≤ most_bytes) (i k : ℕ) where
  module _ (size : inside 12 n ≡ true) (formed : well_formed lines ≡ true) where
    of-lines : (P : (ℕ → ℕ → Option Step) → Type 0) → P (steps_without n lines) → OfLines input P
    of-lines P h = record {
      n = n;
      first = line;
      lines = lines;
      split = split-so;
      named = named_so;
      runs = rw (without_none lines) (script_steps input line lines n split-so named_so short size formed i k);
      holds = h;
    }

    by-overtaker : (x : Option Submit)
        → overtaker_in (watched (calls_of lines) (table_run concur (table_words n (opened n)) (calls_of lines))) i k ≡ x
        → ScriptCaused input i k (unless_refused (named x) (lines_cause (some n) lines i k))
    unfolding named unless_refused lines_cause
    by-overtaker none e = λ z. of-lines (λ at. NotAborted (at 0) i k) (calls-not-aborted n size lines formed i k e)
    by-overtaker (some s) e = of-lines _ (calls-caused n size lines formed i k s e)

  lines-caused : ScriptCaused input i k (unless_refused (lines_overtaker n lines i k) (lines_cause (some n) lines i k))
  unfolding lines_overtaker unless_refused
  lines-caused = on (well_formed lines)
      (λ formed. on (inside 12 n)
      (λ size. rw (formed, size) (by-overtaker size formed _ refl))
      (λ size. rw (formed, size) (λ z. absurd (omega arith))))
      (λ malformed. rw malformed (λ z. absurd (omega arith)))

-- The other answers are refusals with another number.

members_caused : (input line : List ℕ) (lines : List (List ℕ)) (o : Option ℕ) → lines_of input ≡ line ∷ lines → first_of line ≡ o
    → length input ≤ most_bytes → (i k : ℕ)
    → ScriptCaused input i k (unless_refused (members_overtaker o lines i k) (lines_cause o lines i k))
unfolding members_overtaker unless_refused
members_caused input line lines none e f short i k = λ z. absurd (omega arith)
members_caused input line lines (some n) e f short i k = lines-caused input line lines n e f short i k

script_caused : (input : List ℕ) (lines : List (List ℕ)) → lines_of input ≡ lines → length input ≤ most_bytes → (i k : ℕ)
    → ScriptCaused input i k (script_cause lines i k)
unfolding script_cause
script_caused input [] e short i k = λ z. absurd (omega arith)
script_caused input (line ∷ lines) e short i k = on (ltb most_lines (length lines))
    (λ many. rw many (λ z. absurd (omega arith)))
    (λ few. rw few (members_caused input line lines (first_of line) e refl short i k))

-- Of every script, member and ordinal.
pub cause_of_script : (input : List ℕ) (i k : ℕ) → ScriptCaused input i k (cause input i k)
unfolding cause
cause_of_script input i k = on (ltb most_bytes (length input))
    (λ long. rw long (λ z. absurd (omega arith)))
    (λ short. rw short (script_caused input (lines_of input) refl (ltb-false most_bytes (length input) short) i k))
