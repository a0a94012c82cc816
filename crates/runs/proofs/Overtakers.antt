-- Both answers hold of every script: its lines are all steps, so that a step's number is its call's, and of the run of these calls the
-- model's theorem holds.
use Prim.Native.Nat.{ℕ, ◌+◌, ◌-◌, ◌≤◌}
use mathlib.Core.Path.{◌≡◌, refl, sym, ap, subst, fun_ext}
use mathlib.Core.Bool.{true}
use mathlib.Core.List.{List, [], ◌∷◌}
use mathlib.Core.Option.{Option, none, some}
use native.Mathlib.Omega.{arith}
use lib.Dec.{eqb, ltb}
use lib.ListN.{length, take}
use lib.Seq.{take_all}
use borrow.Author.Tests.{ltb-false}
use Rattle.lists.specs.Functions.{inside}
use Rattle.lists.proofs.Functions.{on, first, second, apart}
use Rattle.model.specs.Kinds.{concur}
use Rattle.model.specs.Board.{opened}
use Rattle.model.specs.Runs.{Call, Step}
use Rattle.model.specs.History.{Submit, watched}
use Rattle.model.specs.Positions.{step_at}
use Rattle.model.specs.Table.{table_words}
use Rattle.model.specs.TableCalls.{table_run}
use Rattle.model.specs.Script.{line_feed, line_call, with_call, calls_of, stepped, step_line, steps_from, with_byte, lines_of}
use Rattle.model.specs.Script.{first_of, most_steps}
use Rattle.model.specs.Script.{ran, board_run, lines_run, script_run}
use Rattle.model.specs.Overtaker.{refuses, named, overtaker_in, is_call, well_formed, lines_overtaker, members_overtaker}
use Rattle.model.specs.Overtaker.{script_overtaker, most_bytes, overtaker}
use Rattle.model.specs.OvertakerClaims.{Answered}
use Rattle.model.proofs.Overtaker.{overtaker_answered}
use Rattle.runs.specs.Overtakers.{step_numbered, ScriptAnswered}
use Rattle.runs.proofs.Scripts.{steps_run}

-- A step's number is its call's where every line makes one.

numbered_call : (table : List ℕ) (call : Option Call) (steps : List (Option Step)) (calls : List Call) (k : ℕ) → is_call call ≡ true
    → step_numbered steps (k - 1) ≡ step_at calls (table_run concur (stepped concur table call).table calls) (k - 1)
    → step_numbered ((stepped concur table call).happened ∷ steps) k
    ≡ step_at (with_call call calls) (table_run concur table (with_call call calls)) k
unfolding is_call stepped step_numbered step_at with_call table_run
numbered_call table none steps calls k f e = absurd (apart f refl)
numbered_call table (some call) steps calls k f e = on (eqb k 1) (λ h. rw h) (λ h. rw h e)

pub numbered_calls : (lines : List (List ℕ)) (table : List ℕ) (k : ℕ) → well_formed lines ≡ true
    → step_numbered (steps_from concur table lines) k ≡ step_at (calls_of lines) (table_run concur table (calls_of lines)) k
unfolding well_formed steps_from step_line calls_of step_numbered step_at
numbered_calls [] table k f = refl
numbered_calls (line ∷ lines) table k f =
    let call = line_call line in
    numbered_call table call (steps_from concur (stepped concur table call).table lines) (calls_of lines) k
    (first (is_call call) (well_formed lines) f)
    (numbered_calls lines (stepped concur table call).table (k - 1) (second (is_call call) (well_formed lines) f))

-- There are no more lines than bytes.

with_byte_lem : (b : ℕ) (lines : List (List ℕ)) (n : ℕ) → length lines ≤ n → length (with_byte b lines) ≤ n + 1
unfolding with_byte
with_byte_lem b [] n h = omega arith
with_byte_lem b (line ∷ lines) n h = omega arith

pub few_lines : (l : List ℕ) → length (lines_of l) ≤ length l
unfolding lines_of
few_lines [] = omega arith
few_lines (b ∷ l) = on (eqb b line_feed)
    (λ e. rw e (omega (arith, few_lines l)))
    (λ e. rw e (omega (arith, with_byte_lem b (lines_of l) (length l) (few_lines l))))

-- Lines whose first names n.
module _ (input line : List ℕ) (lines : List (List ℕ)) (n : ℕ) (split-so : lines_of input ≡ line ∷ lines)
    (named_so : first_of line ≡ some n)
    (short : length input ≤ most_bytes) (size : inside 12 n ≡ true) (formed : well_formed lines ≡ true) (i k : ℕ) where
  abbrev steps : List (Option Step)
  steps = steps_from concur (table_words n (opened n)) lines

  all-steps : take most_steps lines ≡ lines
  all-steps = take_all most_steps lines (omega (arith, few_lines input, ap length split-so))

  pub script_steps : script_run concur input ≡ ran n steps
  unfolding script_run lines_run board_run
  script_steps = rw (split-so, named_so, size) (ap (λ l. ran n (steps_from concur (table_words n (opened n)) l)) all-steps)

  calls-answered : Answered (step_numbered steps) i k
      (overtaker_in (watched (calls_of lines) (table_run concur (table_words n (opened n)) (calls_of lines))) i k)
  calls-answered =
      let run = steps_run concur n size lines in
      let calls = calls_of lines in
      let seen = table_run concur (table_words n (opened n)) calls in
      subst (λ at. Answered at i k (overtaker_in (watched calls seen) i k))
      (fun_ext λ t. sym (numbered_calls lines (table_words n (opened n)) t formed))
      (overtaker_answered concur n calls _ seen (rw run.run at run.holds) i k)

  of-submit : (x : Option Submit) → Answered (step_numbered steps) i k x → ScriptAnswered input i k (named x)
  unfolding named
  of-submit none a = λ e. record { n = n; steps = steps; runs = script_steps; holds = a }
  of-submit (some s) a = record { n = n; steps = steps; runs = script_steps; holds = a }

  lines-so : ScriptAnswered input i k (lines_overtaker n lines i k)
  unfolding lines_overtaker
  lines-so = rw (formed, size) (of-submit _ calls-answered)

-- The other answers are refusals with another number.

refused_17 : (input : List ℕ) (i k : ℕ) → ScriptAnswered input i k (refuses 17)
refused_17 input i k = λ e. absurd (omega arith)

members_answered : (input line : List ℕ) (lines : List (List ℕ)) (o : Option ℕ) → lines_of input ≡ line ∷ lines → first_of line ≡ o
    → length input ≤ most_bytes → (i k : ℕ) → ScriptAnswered input i k (members_overtaker o lines i k)
unfolding members_overtaker lines_overtaker
members_answered input line lines none e f short i k = refused_17 input i k
members_answered input line lines (some n) e f short i k = on (well_formed lines)
    (λ formed. on (inside 12 n)
    (λ size. lines-so input line lines n e f short size formed i k)
    (λ size. rw (formed, size) (λ z. absurd (omega arith))))
    (λ malformed. rw malformed (refused_17 input i k))

script_answered : (input : List ℕ) (lines : List (List ℕ)) → lines_of input ≡ lines → length input ≤ most_bytes
    → (i k : ℕ) → ScriptAnswered input i k (script_overtaker lines i k)
unfolding script_overtaker
script_answered input [] e short i k = refused_17 input i k
script_answered input (line ∷ lines) e short i k = members_answered input line lines (first_of line) e refl short i k

-- Of every script, member and ordinal.
pub overtaker_of_script : (input : List ℕ) (i k : ℕ) → ScriptAnswered input i k (overtaker input i k)
unfolding overtaker
overtaker_of_script input i k = on (ltb most_bytes (length input))
    (λ long. rw long (refused_17 input i k))
    (λ short. rw short (script_answered input (lines_of input) refl (ltb-false most_bytes (length input) short) i k))
