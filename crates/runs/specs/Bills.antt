-- The bill of a script: what it bills are the accepted operations of a run of which demand 3 holds.
use Rattle.std.specs.Prelude.{ℕ, ◌≡◌, List, reverse, take}
use Rattle.std.proofs.Math.Option.{Option}
use Rattle.model.specs.Kinds.{concur}
use Rattle.model.specs.Runs.{Step}
use Rattle.model.specs.Reference.{Operation, ref_opened, ref_left}
use Rattle.model.specs.Script.{calls_of, most_steps, refused, ran, script_run, refused_line, script_output}
use Rattle.model.specs.Bill.{bill, accepted_in, printed_bill, bill_output}
use Rattle.model.specs.BillClaims.{SmallBills}
use Rattle.runs.specs.Scripts.{StepsRun}

-- the reference's history of the calls that lines make, in order of acceptance
abbrev pub history_of : ℕ → List (List ℕ) → List Operation
history_of n lines = reverse (ref_left concur n ref_opened (calls_of lines)).history

-- The accepted operations of some lines' steps on an opened board of n members.
pub record StepsBilled (n : ℕ) (lines : List (List ℕ)) (steps : List (Option Step)) : Type 0 where
  pub run : StepsRun concur n lines steps
  pub history : accepted_in steps ≡ history_of n lines

-- A whole script whose first line names n: the bill is that of the history of its lines, 1,000,000 at most, and 32 bits are enough for it.
pub record ScriptBilled (input : List ℕ) (n : ℕ) (lines : List (List ℕ)) : Type 0 where
  pub steps : List (Option Step)
  pub runs : script_run concur input ≡ ran n steps
  pub billed : StepsBilled n (take most_steps lines) steps
  pub prints : bill_output concur input ≡ printed_bill n (bill (history_of n (take most_steps lines)))
  pub small : SmallBills n (history_of n (take most_steps lines))

-- "refuses it likewise"
abbrev pub RefusedLikewise : List ℕ → Type 0
RefusedLikewise input = (number : ℕ) → script_run concur input ≡ refused number
    → (bill_output concur input ≡ refused_line number) × (bill_output concur input ≡ script_output concur input)
