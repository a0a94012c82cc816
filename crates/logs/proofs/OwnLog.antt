-- The log of every run of our own board passes the check of document 02, (l): of every kind, from what opening leaves, whatever the calls.
use Prim.Native.Nat.{ℕ, ◌/◌, ◌%◌, ◌≤◌}
use mathlib.Core.Path.{◌≡◌, refl, ap, ◌∙◌}
use mathlib.Core.Bool.{Bool, true}
use mathlib.Core.List.{List, [], ◌∷◌}
use native.Mathlib.Omega.{arith}
use lib.ListN.{length}
use borrow.Author.Tests.{eq-eqb, le-ltb}
use Rattle.lists.specs.Every.{Every}
use Rattle.lists.specs.Functions.{inside}
use Rattle.lists.proofs.Functions.{inside_in, inside_low, inside_high}
use Rattle.model.specs.Kinds.{Kind, is_size, most_members}
use Rattle.model.specs.Board.{Board}
use Rattle.model.specs.Runs.{Call, Seen}
use Rattle.model.specs.History.{watched, accepted_of}
use Rattle.model.specs.Positions.{step_at, Decided}
use Rattle.model.specs.Demand3.{Demand3}
use Rattle.model.specs.TableCalls.{open_number, open_words, table_run, table_boards}
use Rattle.runs.proofs.Held.{CallHeld}
use Rattle.runs.proofs.Tables.{open_size, demand3_on_tables}
use Rattle.logs.specs.Log.{LogRow, LogHolds, log_of, row_size, most_rows, log_number, Says, holding, failing, verdict_word, LogChecked}
use Rattle.logs.specs.OwnLog.{own_rows, log_words, own_log, OwnLogPasses}
use Rattle.logs.proofs.OwnRows.{every_accepted, own_ranges, own_rows_lem}
use Rattle.logs.proofs.LogWords.{length-log, words_hold}
use Rattle.logs.proofs.OwnFits.{log_fits}

-- nothing refuses a log of whole rows that are not too many
no_refusal : (n : ℕ) → is_size n ≡ true → (rows : List LogRow) → length rows ≤ most_rows → (room : ℕ) → room ≡ 1
    → log_number n (length (log_words rows)) room ≡ 0
unfolding log_number
no_refusal n size rows few room one =
    let long = length-log rows in
    rw (
      size,
      eq-eqb (length (log_words rows) % row_size) 0 (omega arith),
      one,
      le-ltb most_rows (length (log_words rows) / row_size) (omega arith),
    )

-- of what holds the answer is yes
says_yes : {Holds : Type 0} → Holds → (v : Bool) → Says Holds v → v ≡ true
says_yes h v (holding x) = refl
says_yes h v (failing f) = absurd (f h)

-- a log that holds is passed
passed : (n : ℕ) (log before after : List ℕ) (number : ℕ) → LogHolds n (log_of log) → log_number n (length log) (length before) ≡ 0
    → LogChecked n log before number after → (number ≡ 0) × (after ≡ 1 ∷ [])
passed n log before after number h zero c =
    let done : number ≡ 0 = c.number ∙ zero in
    let told = c.verdict done in
    (done, told.1 ∙ ap (λ v. verdict_word v ∷ []) (says_yes h told.0 told.2))

pub own_log_lem : (kind : Kind) (n : ℕ) → inside kind.most n ≡ true → (calls : List Call) (boards : List Board) (seen : List Seen)
    → Demand3 kind n calls boards seen → OwnLogPasses n calls seen
unfolding own_log own_rows
own_log_lem kind n size calls boards seen d =
    let most = kind.sized in
    let high = inside_high kind.most n size in
    let few : n ≤ most_members = omega arith in
    let decided = (watched calls seen).decided in
    let rows = own_rows_lem kind n calls boards seen d in
    let holds = words_hold n (own_rows calls seen) rows in
    record {
      rows = rows;
      holds = holds;
      fit = λ short given. log_fits n few calls seen short given (own_ranges kind n calls boards seen d) (accepted_of decided)
          (every_accepted (Decided (step_at calls seen)) decided d.positions.decided) d.serial;
      passes = λ rows_few before after number one. passed n (own_log calls seen) before after number holds
          (no_refusal n (inside_in most_members n (inside_low kind.most n size) few) (own_rows calls seen) rows_few (length before) one);
    }

-- Of every table that opening took, every kind and every list of calls whose values have 8 words.
pub own_log_passes : (kind : Kind) (n : ℕ) (l : List ℕ) → open_number kind n l ≡ 0 → (calls : List Call) → Every CallHeld calls
    → OwnLogPasses n calls (table_run kind (open_words kind n l) calls)
own_log_passes kind n l o calls v =
    let words = open_words kind n l in
    own_log_lem kind n (open_size kind n l o) calls (table_boards kind words calls) (table_run kind words calls)
    (demand3_on_tables kind n l o calls v)
