-- The bill of every script is that of the reference's history: the calls that its steps made are its lines', and of their run demand 3
-- holds.
use Prim.Native.Nat.{ℕ, suc, ◌≤◌}
use native.Mathlib.Omega.{arith}
use mathlib.Core.Path.{◌≡◌, refl, ap, ◌∙◌}
use mathlib.Core.Bool.{true}
use mathlib.Core.List.{List, [], ◌∷◌}
use mathlib.Core.Option.{Option, none, some}
use lib.ListN.{length, take, length-take}
use Rattle.lists.specs.Functions.{inside}
use Rattle.lists.proofs.Functions.{inside_high}
use Rattle.model.specs.Kinds.{concur}
use Rattle.model.specs.Board.{opened}
use Rattle.model.specs.Runs.{Call, Step}
use Rattle.model.specs.Table.{table_words}
use Rattle.model.specs.Script.{line_call, with_call, calls_of, stepped, step_line, steps_from, made_by, seen_of, lines_of}
use Rattle.model.specs.Script.{first_of, most_steps}
use Rattle.model.specs.Script.{ran, board_run, lines_run, script_run, script_output, printed_run}
use Rattle.model.specs.Bill.{bill, accepted_in_order, accepted_in, printed_bill, bill_of_run, bill_output}
use Rattle.model.specs.BillClaims.{SmallBills}
use Rattle.model.proofs.Bill.{accepted_history}
use Rattle.model.proofs.BillLimits.{run_limits}
use Rattle.runs.specs.Bills.{history_of, StepsBilled, ScriptBilled, RefusedLikewise}
use Rattle.runs.proofs.Scripts.{stepped_call, steps_run}

pub steps_calls : (table : List ℕ) (lines : List (List ℕ)) → made_by (steps_from concur table lines) ≡ calls_of lines
unfolding steps_from step_line made_by calls_of
steps_calls table [] = refl
steps_calls table (line ∷ lines) =
    let s = stepped concur table (line_call line) in
    ap (λ call. with_call call (made_by (steps_from concur s.table lines))) (stepped_call concur table (line_call line))
    ∙ ap (with_call (line_call line)) (steps_calls s.table lines)

-- a line makes one call at most
with_call_lem : (call : Option Call) (calls : List Call) (k : ℕ) → length calls ≤ k → length (with_call call calls) ≤ suc k
unfolding with_call
with_call_lem none calls k h = omega arith
with_call_lem (some call) calls k h = omega arith

few_calls : (lines : List (List ℕ)) → length (calls_of lines) ≤ length lines
unfolding calls_of
few_calls [] = omega arith
few_calls (line ∷ lines) = with_call_lem (line_call line) (calls_of lines) (length lines) (few_calls lines)

module _ (n : ℕ) (size : inside 12 n ≡ true) (lines : List (List ℕ)) where
  abbrev steps : List (Option Step)
  steps = steps_from concur (table_words n (opened n)) lines

  accepted-so : accepted_in steps ≡ history_of n lines
  accepted-so =
      let run = steps_run concur n size lines in
      ap (λ calls. accepted_in_order calls (seen_of steps)) (steps_calls (table_words n (opened n)) lines)
      ∙ accepted_history concur n (calls_of lines) _ (seen_of steps) run.holds

  pub steps_billed : StepsBilled n lines steps
  steps_billed = record { run = steps_run concur n size lines; history = accepted-so }

  small-so : length lines ≤ most_steps → SmallBills n (history_of n lines)
  small-so short =
      let run = steps_run concur n size lines in
      rw (accepted_history concur n (calls_of lines) _ (seen_of steps) run.holds) at
      ((run_limits concur n (calls_of lines) _ (seen_of steps) run.holds).1 (inside_high 12 n size) (omega (arith, few_calls lines)))

module _ (input first : List ℕ) (lines : List (List ℕ)) (n : ℕ) (split-so : lines_of input ≡ first ∷ lines)
    (named_so : first_of first ≡ some n) (size : inside 12 n ≡ true) where
  abbrev taken : List (List ℕ)
  taken = take most_steps lines

  pub script_ran : script_run concur input ≡ ran n (steps n size taken)
  unfolding script_run lines_run board_run
  script_ran = rw (split-so, named_so, size)

  prints-so : bill_output concur input ≡ printed_bill n (bill (history_of n taken))
  unfolding bill_output bill_of_run
  prints-so = ap bill_of_run script_ran ∙ ap (λ ops. printed_bill n (bill ops)) (accepted-so n size taken)

  pub bill_of_script : ScriptBilled input n lines
  bill_of_script = record {
    steps = steps n size taken;
    runs = script_ran;
    billed = steps_billed n size taken;
    prints = prints-so;
    small = small-so n size taken (omega (arith, length-take most_steps lines));
  }

pub refused_likewise : (input : List ℕ) → RefusedLikewise input
unfolding bill_output bill_of_run script_output printed_run
refused_likewise input number e = rw e (refl, refl)
