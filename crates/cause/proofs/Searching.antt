-- The search for the first step that cost an operation which somebody overtook: what the line at a place says of the answer. It is the
-- member's own and is passed; or the run without it answers 31, and it is the step; or it is passed.
use Prim.Native.Nat.{ℕ, zero, suc, ◌+◌, ◌-◌}
use mathlib.Core.Path.{◌≡◌, refl, sym, ap, subst, ◌∙◌}
use mathlib.Core.Bool.{Bool, true, false, cond, not, ◌&&◌}
use mathlib.Core.List.{List, [], ◌∷◌}
use mathlib.Core.Option.{Option, none, some}
use Rattle.std.specs.Prelude.{Option as Held, Some, None}
use native.Mathlib.Omega.{arith}
use lib.Dec.{eqb}
use lib.ListN.{drop}
use lib.Seq.{drop-drop}
use borrow.Author.Tests.{ne_eqb, eqb-false}
use Rattle.lists.specs.Functions.{inside}
use Rattle.lists.proofs.Functions.{on, first, second, apart}
use Rattle.model.specs.Kinds.{concur}
use Rattle.model.specs.Board.{opened}
use Rattle.model.specs.Runs.{Call, Seen}
use Rattle.model.specs.History.{Submit, watched}
use Rattle.model.specs.Positions.{step_at}
use Rattle.model.specs.Table.{table_words}
use Rattle.model.specs.TableCalls.{table_after, table_run}
use Rattle.model.specs.Script.{Line, writes, reads, delivers, crashes, malformed, line_of, call_of, line_call, with_call, calls_of, caller}
use Rattle.model.specs.Overtaker.{Overtaker, refuses, names, named, overtaker_in, is_call, well_formed, lines_overtaker}
use Rattle.model.specs.Cause.{without, accepted_without, first_cause, cause_in, lines_cause}
use Rattle.model.specs.CauseClaims.{OfAnother}
use Rattle.model.proofs.AcceptedOps.{Told, accepts, aborts}
use Rattle.runs.proofs.Causes.{formed_without, accepted_or_named}
use Rattle.script.specs.Meaning.{held_line, line_member}
use Rattle.script.specs.declared.Line.{Line as LineRead}
use Rattle.overtaker.proofs.Answers.{lines-malformed, no_size}
use Rattle.cause.specs.Meaning.{Named}

-- is a line that was read member i's?
abbrev pub is_own : ℕ → Held LineRead → Bool
is_own i None = false
is_own i (Some line) = eqb (line_member line) i

-- is nobody named?
abbrev pub is_spared : Overtaker → Bool
is_spared (refuses number) = true
is_spared (names member at) = false

-- Lists of calls.

none_or_more : {A : Type 0} {x : A} {l : List A} → ◌≡◌ {A = List A} [] (x ∷ l) → ⊥
none_or_more e = let z : ◌≡◌ {A = ℕ} 0 1 = cc in omega arith

-- the call behind the first `number` is that of the next step
another_next : (calls : List Call) (number : ℕ) (table : List ℕ) (i : ℕ) (call : Call) (rest : List Call) → drop number calls ≡ call ∷ rest
    → (caller call ≡ i → ⊥) → OfAnother i (step_at calls (table_run concur table calls) (number + 1))
unfolding step_at table_run
another_next [] zero table i call rest e d = absurd (none_or_more e)
another_next [] (suc number) table i call rest e d = absurd (none_or_more e)
another_next (c ∷ calls) zero table i call rest e d = let same : c ≡ call = cc in λ o. d (ap caller (sym same) ∙ o)
another_next (c ∷ calls) (suc number) table i call rest e d =
    let behind : suc number + 1 - 1 ≡ number + 1 = omega arith in
    rw (ne_eqb (suc number + 1) 1 (λ x. omega arith), behind)
    (another_next calls number (table_after concur table c) i call rest e d)

rest_next : (calls : List Call) (number : ℕ) (call : Call) (rest : List Call) → drop number calls ≡ call ∷ rest
    → drop (number + 1) calls ≡ rest
rest_next calls number call rest e = sym (drop-drop 1 number calls) ∙ ap (drop 1) e

-- The call of a line.
record CallOf (l : Line) : Type 0 where
  call : Call
  made : call_of l ≡ some call
  whose : (i : ℕ) → is_own i (held_line l) ≡ eqb (caller call) i

call_of_lem : (l : Line) → is_call (call_of l) ≡ true → CallOf l
unfolding is_call call_of caller
call_of_lem (writes m v) f = record { call = _; made = refl; whose = λ i. refl }
call_of_lem (reads m r) f = record { call = _; made = refl; whose = λ i. refl }
call_of_lem (delivers m) f = record { call = _; made = refl; whose = λ i. refl }
call_of_lem (crashes m) f = record { call = _; made = refl; whose = λ i. refl }
call_of_lem malformed f = absurd (apart f refl)

-- Somebody overtook the operation: so the lines are all steps of a board.
module _ (n : ℕ) (lines : List (List ℕ)) (i k : ℕ) (overtaken : Named (lines_overtaker n lines i k)) where
  formed : well_formed lines ≡ true
  formed = on (well_formed lines) (λ e. e) (λ e. absurd (subst Named (lines-malformed i k n lines e) overtaken))

  pub size : inside 12 n ≡ true
  size = on (inside 12 n) (λ e. e) (λ e. absurd (subst Named (no_size i k n lines e formed) overtaken))

  abbrev anew : List Call → List Seen
  anew = table_run concur (table_words n (opened n))

  abbrev calls : List Call
  calls = calls_of lines

  abbrev test : ℕ → Bool
  test = accepted_without anew calls i k

  -- the definition's answer to lines that are all steps
  by-overtaker : (l : List (List ℕ)) → well_formed l ≡ true
      → lines_overtaker n l i k ≡ named (overtaker_in (watched (calls_of l) (anew (calls_of l))) i k)
  unfolding lines_overtaker
  by-overtaker l f = rw (f, size)

  record Overtaken (x : Option Submit) : Type 0 where
    submit : Submit
    is : x ≡ some submit

  named-submit : (x : Option Submit) → Named (named x) → Overtaken x
  unfolding named
  named-submit none h = absurd h
  named-submit (some z) h = record { submit = z; is = refl }

  overtaker-found : Overtaken (overtaker_in (watched calls (anew calls)) i k)
  overtaker-found = named-submit _ (subst Named (by-overtaker lines formed) overtaken)

  -- the answer without a line: nobody is named where the operation is accepted
  told-spared : (accepted : Bool) (x : Option Submit) → Told accepted x → accepted ≡ is_spared (named x)
  unfolding named
  told-spared accepted x (accepts a e) = rw (a, e)
  told-spared accepted x (aborts a z e) = rw (a, e)

  left_spared : (s : ℕ) → OfAnother i (step_at calls (anew calls) s)
      → test s ≡ is_spared (lines_overtaker n (without s lines) i k)
  left_spared s other =
      let found = overtaker-found in
      told-spared (test s) _ (accepted_or_named n size lines formed i k found.submit found.is s other)
      ∙ ap is_spared (sym (by-overtaker (without s lines) (formed_without s lines formed)))

  -- Of the lines, `number` are passed, and the others are left.
  pub record Searching (left : List (List ℕ)) (number : ℕ) : Type 0 where
    formed : well_formed left ≡ true
    rest : drop number calls ≡ calls_of left
    answer : lines_cause (some n) lines i k ≡ first_cause i test (number + 1) (calls_of left)

  pub searching_first : Searching lines 0
  unfolding lines_cause cause_in
  searching_first = record { formed = formed; rest = refl; answer = refl }

  module _ (line : List ℕ) (behind : List (List ℕ)) (number : ℕ) (s : Searching (line ∷ behind) number) where
    all-formed : (is_call (line_call line) && well_formed behind) ≡ true
    unfolding well_formed
    all-formed = s.formed

    here : CallOf (line_of line)
    here = call_of_lem (line_of line) (first (is_call (line_call line)) (well_formed behind) all-formed)

    calls-here : calls_of (line ∷ behind) ≡ here.call ∷ calls_of behind
    unfolding calls_of with_call
    calls-here = ap (λ c. with_call c (calls_of behind)) here.made

    answer-here : lines_cause (some n) lines i k
        ≡ cond (not (eqb (caller here.call) i) && test (number + 1)) (some (number + 1))
        (first_cause i test (number + 1 + 1) (calls_of behind))
    unfolding first_cause
    answer-here = s.answer ∙ ap (first_cause i test (number + 1)) calls-here

    abbrev own : Bool
    own = is_own i (held_line (line_of line))

    another : own ≡ false → OfAnother i (step_at calls (anew calls) (number + 1))
    another d = another_next calls number (table_words n (opened n)) i here.call (calls_of behind) (s.rest ∙ calls-here)
        (eqb-false (caller here.call) i (sym (here.whose i) ∙ d))

    abbrev spared : Bool
    spared = is_spared (lines_overtaker n (without (number + 1) lines) i k)

    -- the line is passed
    passes : (not (eqb (caller here.call) i) && test (number + 1)) ≡ false → Searching behind (number + 1)
    passes e = record {
      formed = second (is_call (line_call line)) (well_formed behind) all-formed;
      rest = rest_next calls number here.call (calls_of behind) (s.rest ∙ calls-here);
      answer = rw e at answer-here;
    }

    pub passes-own : own ≡ true → Searching behind (number + 1)
    passes-own e = passes (rw (sym (here.whose i) ∙ e))

    test-here : own ≡ false → (not (eqb (caller here.call) i) && test (number + 1)) ≡ spared
    test-here d = rw (sym (here.whose i) ∙ d) (left_spared (number + 1) (another d))

    pub passes-other : own ≡ false → spared ≡ false → Searching behind (number + 1)
    passes-other d e = passes (test-here d ∙ e)

    pub finds : own ≡ false → spared ≡ true → lines_cause (some n) lines i k ≡ some (number + 1)
    finds d e = answer-here ∙ rw (test-here d ∙ e)

  pub finds_none : (number : ℕ) → Searching [] number → lines_cause (some n) lines i k ≡ none
  unfolding first_cause calls_of
  finds_none number s = s.answer
