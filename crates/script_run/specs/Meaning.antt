-- How the code holds what the definitions speak of, and what its functions require and promise each other.
use Rattle.std.specs.Prelude.{ℕ, ◌≤◌, ◌<◌, ◌≡◌, true, List, [], ◌∷◌, length, take, Option, Some, None, IsSome, Result, Ok, Err}
use Rattle.std.proofs.Math.Option.{Option as Given, none, some}
use Rattle.lists.specs.Functions.{put, Within}
use Rattle.lists.specs.Parts.{words}
use Rattle.model.specs.Records.{zero_value, read, write}
use Rattle.model.specs.Runs.{Call, begin, deliver, crash, Seen, Step, step}
use Rattle.model.specs.Board.{opened}
use Rattle.model.specs.Kinds.{concur}
use Rattle.model.specs.Table.{table_words}
use Rattle.model.specs.Script.{first_of, most_steps}
use Rattle.rules.specs.Refusals.{number}
use Rattle.rules.specs.declared.refusal.Refusal.{Refusal}
use Rattle.member_block.specs.Results.{returned_in}
use Rattle.script.specs.Meaning.{line_member, Printed}
use Rattle.script.specs.declared.Line.{Line as LineRead}
use Rattle.script.specs.declared.Line.TheVariants.{Write, Read, Deliver, Crash}
use Rattle.tables.specs.Needs.{Table}
use Rattle.script_run.specs.Feeding.{State, Event, refuses, opens, steps, Fed, most_kept, over_step, over, ended}
use Rattle.script_run.specs.Feeding.{first_run, fed, last_events, printed_events}
use Rattle.script_run.specs.declared.Progress.{Progress}
use Rattle.script_run.specs.declared.Done.{Done}
use Rattle.script_run.specs.declared.Event.{Event as EventSeen}
use Rattle.script_run.specs.declared.Event.TheVariants.{Refused, Opened, Step as StepSeen}
use Rattle.script_run.specs.declared.Ended.{Ended}
use Rattle.script_run.specs.declared.Fed.{Fed as FedSeen}
use Rattle.script_run.specs.declared.Written.{Written}

-- What a line did.

-- the call of a line as the code holds it
abbrev pub call_by : LineRead → Call
call_by (Write m v) = begin m m write (put zero_value 8 v)
call_by (Read m r) = begin m r read zero_value
call_by (Deliver m) = deliver m
call_by (Crash m) = crash m

-- a call as the code holds it, and what was seen at it: the answer, the caller's phase, and the value returned
pub record Shows (d : Done) (call : Call) (s : Seen) : Type 0 where
  pub made : call ≡ call_by d.line
  pub answer : s.answer ≡ d.answer
  pub phase : s.phases (line_member d.line) ≡ d.phase
  pub returned : s.returned ≡ returned_in d.returned

-- a step as the code holds it: a malformed line makes no call
abbrev pub StepHeld : Option Done → Given Step → Type 0
StepHeld None none = Unit {0}
StepHeld None (some s) = ⊥
StepHeld (Some d) none = ⊥
StepHeld (Some d) (some (step call s)) = Shows d call s

-- a step whose answer is 0 is one of a member's
abbrev pub Made : Option Done → Type 0
Made None = Unit {0}
Made (Some d) = d.answer ≡ 0 → Within 12 (line_member d.line)

-- an event as the code holds it: a board that was opened has 12 members at most
pub record StepIs (k : ℕ) (done : Option Done) (event : Event) : Type 0 where
  pub happened : Given Step
  pub is : event ≡ steps k happened
  pub held : StepHeld done happened
  pub made : Made done

abbrev pub EventHeld : EventSeen → Event → Type 0
EventHeld (Refused number) event = event ≡ refuses number
EventHeld (Opened n) event = (event ≡ opens n) × (n ≤ 12)
EventHeld (StepSeen k done) event = StepIs k done event

-- the events that the code holds, none or one
abbrev pub EventsHeld : Option EventSeen → List Event → Type 0
EventsHeld None l = l ≡ []
EventsHeld (Some e) l = (event : Event) × (l ≡ event ∷ []) × EventHeld e event

-- what is known of the step among them
abbrev pub MadeIn : Option EventSeen → Type 0
MadeIn None = Unit {0}
MadeIn (Some (Refused number)) = Unit {0}
MadeIn (Some (Opened n)) = Unit {0}
MadeIn (Some (StepSeen k done)) = Made done

-- States.

-- a table of its own n
abbrev pub Whole : List ℕ → Type 0
Whole l = Table (words l 0) l

-- the words of a table of 12 members
abbrev pub most_words : ℕ
most_words = 9781

-- the state that the words and the bytes lent hold: the table at their front, and the line
unfoldable pub state_of : Progress → List ℕ → List ℕ → State
state_of p table kept = record { step = p.step; table = take p.size table; kept = take p.kept kept }

-- lent words and bytes that hold a state: a table of 12 members has room, and while steps are left the table is whole
pub record Ready (p : Progress) (table kept : List ℕ) : Type 0 where
  pub room : length table ≡ most_words
  pub keeps : length kept ≡ most_kept
  pub line : p.kept ≤ most_kept
  pub size : p.size ≤ most_words
  pub whole : 0 < p.step → p.step ≤ most_steps → Whole (take p.size table)

-- Runs.

-- the end of a line as the code leaves it: the state held, and what happened by value
pub record Ran (run : Fed) (r : Ended) (table kept : List ℕ) : Type 0 where
  pub ready : Ready r.progress table kept
  pub state : state_of r.progress table kept ≡ run.state
  pub events : EventsHeld (Some r.event) run.events

-- the run of the first line that the lent words and bytes hold
abbrev pub first_line : Progress → List ℕ → List ℕ → Fed
first_line p table kept = first_run concur (take p.size table) (first_of (take p.kept kept))

-- where the first line ends: it is refused, or opens a board of n members
abbrev pub first_ended : List ℕ → Result ℕ Refusal → Fed
first_ended table (Err refusal) = ended over_step table (refuses (number refusal))
first_ended table (Ok n) = ended 1 (table_words n (opened n)) (opens n)

-- bytes that were fed, from the first on: all of them, unless a line ended before
pub record Took (p : Progress) (table kept bytes : List ℕ) (r : FedSeen) (table' kept' : List ℕ) : Type 0 where
  pub within : r.taken ≤ length bytes
  pub some : 0 < length bytes → 0 < r.taken
  pub all : r.taken < length bytes → IsSome r.event
  pub ready : Ready r.progress table' kept'
  pub state : state_of r.progress table' kept' ≡ (fed concur (state_of p table kept) (take r.taken bytes)).state
  pub events : EventsHeld r.event (fed concur (state_of p table kept) (take r.taken bytes)).events

-- Printing.

-- a text was written from a place on, and the next place is still within the output
pub record Wrote (before after : List ℕ) (place : ℕ) (text : List ℕ) (next : ℕ) : Type 0 where
  pub printed : Printed before after place text next
  pub room : next ≤ length after

-- bytes that were fed, from the first on: what is printed of those taken stands at the front of the output
pub record FedInto (p : Progress) (table kept bytes : List ℕ) (r : Written) (table' kept' out : List ℕ) : Type 0 where
  pub within : r.taken ≤ length bytes
  pub room : r.written ≤ length out
  pub ready : Ready r.progress table' kept'
  pub state : state_of r.progress table' kept' ≡ (fed concur (state_of p table kept) (take r.taken bytes)).state
  pub printed : take r.written out ≡ printed_events (fed concur (state_of p table kept) (take r.taken bytes)).events

-- the end of the input: what is printed of it stands at the front of the output
pub record Finished (p : Progress) (table kept : List ℕ) (written : ℕ) (out : List ℕ) : Type 0 where
  pub room : written ≤ length out
  pub printed : take written out ≡ printed_events (last_events concur (state_of p table kept))

-- a piece of a script was fed: the state is the one that it leaves, or what it prints could not be written, and the script is over
pub data FedAll (p : Progress) (table kept bytes : List ℕ) (r : Progress) (table' kept' : List ℕ) : Type 0 where
  went : state_of r table' kept' ≡ (fed concur (state_of p table kept) bytes).state → FedAll p table kept bytes r table' kept'
  failed : over (state_of r table' kept') ≡ true → FedAll p table kept bytes r table' kept'
