-- A script is a run of demand 3's theorem: by induction over its lines, the k-th step makes the k-th line's call on the
-- table that the one before left.
use Prim.Native.Nat.{ℕ}
use mathlib.Core.Path.{◌≡◌, refl, ap, ◌∙◌}
use mathlib.Core.Bool.{true}
use mathlib.Core.List.{List, [], ◌∷◌, map}
use mathlib.Core.Option.{Option, none, some}
use lib.ListN.{take, length}
use borrow.Author.Tests.{eq-eqb}
use Rattle.lists.specs.Functions.{inside}
use Rattle.model.specs.Kinds.{Kind}
use Rattle.model.specs.Board.{opened}
use Rattle.model.specs.Runs.{Call}
use Rattle.lists.specs.Every.{Every}
use Rattle.model.specs.Table.{table_size, table_words}
use Rattle.model.specs.TableCalls.{open_number, open_words, table_run}
use Rattle.model.specs.Script.{Line, writes, reads, delivers, crashes, malformed, line_of, call_of, line_call, with_call, calls_of}
use Rattle.model.specs.Script.{stepped, step_line, steps_from, lines_of, first_of, most_steps, board_run, lines_run, script_run}
use Rattle.model.specs.Script.{printed_run}
use Rattle.model.specs.Script.{script_output, step_call, made_by, with_seen, seen_of}
use Rattle.laws.proofs.Tables.{length-table}
use Rattle.runs.specs.Scripts.{StepsRun, ScriptRun}
use Rattle.runs.proofs.Held.{CallHeld}
use Rattle.runs.proofs.Words.{zero_held, last_held}
use Rattle.runs.proofs.Tables.{demand3_on_tables}

-- Lines and their steps, on any table.

pub stepped_call : (kind : Kind) (table : List ℕ) (call : Option Call) → step_call (stepped kind table call).happened ≡ call
unfolding stepped step_call
stepped_call kind table none = refl
stepped_call kind table (some call) = refl

pub steps_made : (kind : Kind) (table : List ℕ) (lines : List (List ℕ)) → map step_call (steps_from kind table lines) ≡ map line_call lines
unfolding steps_from step_line
steps_made kind table [] = refl
steps_made kind table (line ∷ lines) =
    (λ i. stepped_call kind table (line_call line) i ∷ steps_made kind (step_line kind table line).table lines i)

-- the step of a line before those of the others, whose calls are made on the table that it leaves
stepped_seen : (kind : Kind) (table : List ℕ) (call : Option Call) (calls : List Call)
    → with_seen (stepped kind table call).happened (table_run kind (stepped kind table call).table calls)
    ≡ table_run kind table (with_call call calls)
unfolding stepped with_seen with_call table_run
stepped_seen kind table none calls = refl
stepped_seen kind table (some call) calls = refl

pub steps_seen : (kind : Kind) (table : List ℕ) (lines : List (List ℕ))
    → seen_of (steps_from kind table lines) ≡ table_run kind table (calls_of lines)
unfolding steps_from step_line seen_of calls_of table_run
steps_seen kind table [] = refl
steps_seen kind table (line ∷ lines) =
    let s = stepped kind table (line_call line) in
    ap (with_seen s.happened) (steps_seen kind s.table lines) ∙ stepped_seen kind table (line_call line) (calls_of lines)

-- The values of a script's calls have 8 words.

with_held : (line : Line) (calls : List Call) → Every CallHeld calls → Every CallHeld (with_call (call_of line) calls)
unfolding call_of with_call
with_held (writes m v) calls h = (last_held v, h)
with_held (reads m r) calls h = (zero_held, h)
with_held (delivers m) calls h = (tt, h)
with_held (crashes m) calls h = (tt, h)
with_held malformed calls h = h

calls_held : (lines : List (List ℕ)) → Every CallHeld (calls_of lines)
unfolding calls_of
calls_held [] = tt
calls_held (line ∷ lines) = with_held (line_of line) (calls_of lines) (calls_held lines)

-- Whole scripts.

module _ (kind : Kind) (n : ℕ) (size : inside kind.most n ≡ true) where
  open-taken : open_number kind n (table_words n (opened n)) ≡ 0
  unfolding open_number
  open-taken = rw (size, eq-eqb (length (table_words n (opened n))) (table_size n) (length-table n (opened n)))

  open-left : open_words kind n (table_words n (opened n)) ≡ table_words n (opened n)
  unfolding open_words
  open-left = rw open-taken

  pub steps_run : (lines : List (List ℕ)) → StepsRun kind n lines (steps_from kind (table_words n (opened n)) lines)
  steps_run lines =
      let table = table_words n (opened n) in
      record {
        made = steps_made kind table lines;
        run = steps_seen kind table lines;
        holds = rw steps_seen
            (rw open-left at (demand3_on_tables kind n table open-taken (calls_of lines) (calls_held lines)));
      }

  pub script_run_lem : (input first : List ℕ) (lines : List (List ℕ)) → lines_of input ≡ first ∷ lines → first_of first ≡ some n
      → ScriptRun kind n lines (script_run kind input) (script_output kind input)
  unfolding script_output script_run lines_run board_run printed_run
  script_run_lem input first lines split named = record {
    steps = steps_from kind (table_words n (opened n)) (take most_steps lines);
    ran = rw (split, named, size);
    run = steps_run (take most_steps lines);
    prints = rw (split, named, size);
  }
