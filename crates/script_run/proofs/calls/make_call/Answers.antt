-- `make_call` meets its contract: by the cases of the line, its call; all but deliver return no value.
use Prim.Native.Nat.{ℕ}
use mathlib.Core.Path.{◌≡◌, ◌∙◌}
use mathlib.Core.List.{[], ◌∷◌}
use lib.ListN.{replicate}
use Rattle.lists.specs.Parts.{words}
use Rattle.model.specs.RecordWords.{value_of}
use Rattle.model.specs.Runs.{Call, begin, crash}
use Rattle.script_run.specs.Meaning.{call_by}
use Rattle.script_run.proofs.Held.{call_write, call_read, begin_silent, crash_silent, call_plain}
use Rattle.script_run.proofs.calls.make_call.Goals as goal
use Rattle.script_run.proofs.calls.make_call.Goals.{After-no_value, After-no_value-in-Read, After-no_value-in-Crash}

-- the calls

abbrev write_call : ℕ → ℕ → Call
write_call m v = begin m m 2 (value_of (words (0 ∷ 0 ∷ 0 ∷ 0 ∷ 0 ∷ 0 ∷ 0 ∷ v ∷ [])))

abbrev read_call : ℕ → ℕ → Call
read_call m slot = begin m slot 1 (value_of (words (replicate 8 0)))

written : (c : After-no_value) → call_by c.args.line ≡ write_call c.in-Write.member c.in-Write.value
written c = rw c.in-Write.is (call_write c.in-Write.member c.in-Write.value)

read : (c : After-no_value-in-Read) → call_by c.args.line ≡ read_call c.in-Read.member c.in-Read.slot
read c = rw c.in-Read.is (call_read c.in-Read.member c.in-Read.slot)

-- The goals.

pub returns-in-Write : goal.returns-in-Write
returns-in-Write c =
    let none = c.no_value.ensures in
    let call = c.begin.ensures in
    rw (written c)
    record {
      number_value = none.number_value ∙ call.value;
      result_value = call_plain c.args.table.now _ (begin_silent _ _ _ _) c.no_value.result none.result_value;
      table_after = call.table_after;
    }

pub returns-in-Read : goal.returns-in-Read
returns-in-Read c =
    let none = c.no_value-in-Read.ensures in
    let call = c.begin-in-Read.ensures in
    rw (read c)
    record {
      number_value = none.number_value ∙ call.value;
      result_value = call_plain c.args.table.now _ (begin_silent _ _ _ _) c.no_value-in-Read.result none.result_value;
      table_after = call.table_after;
    }

pub returns-in-Crash-clause-result_value : goal.returns-in-Crash-clause-result_value
returns-in-Crash-clause-result_value c =
    let none = c.no_value-in-Crash.ensures in
    rw c.in-Crash.is
    (call_plain c.args.table.now (crash c.in-Crash.member) (crash_silent c.in-Crash.member) c.no_value-in-Crash.result none.result_value)
