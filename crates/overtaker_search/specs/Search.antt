-- One pass over the steps of a run: what is remembered of the operation asked for, member i's k-th, and what each step does to that.
-- That it ends with the answer which the watcher's lists give is a theorem (proofs/Searched.antt).
use Rattle.std.specs.Prelude.{ℕ, ◌+◌, Bool, false, cond, ◌&&◌, ◌||◌, List, [], ◌∷◌, eqb}
use Rattle.std.specs.Prelude.{Result, Ok, Err}
use Rattle.std.proofs.Math.Option.{Option, none, some}
use Rattle.lists.specs.Functions.{put, numbered}
use Rattle.lists.specs.Parts.{words}
use Rattle.model.specs.Kinds.{concur}
use Rattle.model.specs.Runs.{Call, begin, deliver, crash, Seen, Step, step}
use Rattle.model.specs.Script.{step_line}
use Rattle.model.specs.Overtaker.{Overtaker, refuses, names}
use Rattle.overtaker_search.specs.declared.Overtaker.{Overtaker as OvertakerStruct}
use Rattle.overtaker_search.specs.declared.steps.Search.{Search as SearchStruct}

-- the steps so far; the slot of the operation that each member began last; how many operations member i has begun; of the one asked for,
-- whether its submit was taken and its commit was not, its slot, and the first submit on that slot since, or 31
pub record Search : Type 0 where
  pub steps : ℕ
  pub slots : ℕ → ℕ
  pub begun : ℕ
  pub follows : Bool
  pub slot : ℕ
  pub first : Overtaker

-- as the code holds it

abbrev pub told_first : Result OvertakerStruct ℕ → Overtaker
told_first (Ok o) = names o.member o.step
told_first (Err number) = refuses number

abbrev pub search_of : SearchStruct → Search
search_of s = record {
  steps = s.steps;
  slots = numbered 12 0 (words s.slots);
  begun = s.begun;
  follows = s.follows;
  slot = s.slot;
  first = told_first s.first;
}

unfoldable pub search_start : Search
search_start = record { steps = 0; slots = λ j. 0; begun = 0; follows = false; slot = 0; first = refuses 31 }

-- member j began an operation on slot r
unfoldable pub search_begin : ℕ → Search → ℕ → ℕ → Search
search_begin i s j r = record {
  steps = s.steps;
  slots = put s.slots j r;
  begun = s.begun + cond (eqb j i) 1 0;
  follows = s.follows;
  slot = s.slot;
  first = s.first;
}

-- the first that was found stays
abbrev pub or_first : Overtaker → Overtaker → Overtaker
or_first (names m at) later = names m at
or_first (refuses number) later = later

-- the host took a submit of member i: if it is that of the operation asked for, submits on its slot count from now on
abbrev pub search_own : ℕ → Search → ℕ → Search
search_own k s i = record {
  steps = s.steps;
  slots = s.slots;
  begun = s.begun;
  follows = eqb s.begun k;
  slot = s.slots i;
  first = s.first;
}

-- the host took a submit of another member j
abbrev pub search_other : Search → ℕ → Search
search_other s j = record {
  steps = s.steps;
  slots = s.slots;
  begun = s.begun;
  follows = s.follows;
  slot = s.slot;
  first = cond (s.follows && eqb (s.slots j) s.slot) (or_first s.first (names j s.steps)) s.first;
}

unfoldable pub search_submit : ℕ → ℕ → Search → ℕ → Search
search_submit i k s j = cond (eqb j i) (search_own k s j) (search_other s j)

-- the host judged the operation asked for
abbrev pub search_judged : Search → Bool → Search
search_judged s accepted = record {
  steps = s.steps;
  slots = s.slots;
  begun = s.begun;
  follows = false;
  slot = s.slot;
  first = cond accepted (refuses 31) s.first;
}

unfoldable pub search_verdict : ℕ → Search → ℕ → Bool → Search
search_verdict i s j accepted = cond (eqb j i && s.follows) (search_judged s accepted) s

-- a deliver of member j, told by its phase after it
unfoldable pub search_deliver : ℕ → ℕ → Search → ℕ → ℕ → Search
search_deliver i k s j phase =
    cond (eqb phase 2) (search_submit i k s j)
    (cond (eqb phase 4 || eqb phase 5) (search_verdict i s j (eqb phase 4))
    s)

-- a call that was answered 0
unfoldable pub search_call : ℕ → ℕ → Search → Call → Seen → Search
search_call i k s (begin j r t v) seen = search_begin i s j r
search_call i k s (deliver j) seen = search_deliver i k s j (seen.phases j)
search_call i k s (crash j) seen = s

abbrev pub search_next : Search → Search
search_next s = record {
  steps = s.steps + 1;
  slots = s.slots;
  begun = s.begun;
  follows = s.follows;
  slot = s.slot;
  first = s.first;
}

-- any other is a step and nothing more
unfoldable pub search_step : ℕ → ℕ → Search → Call → Seen → Search
search_step i k s call seen = cond (eqb seen.answer 0) (search_call i k (search_next s) call seen) (search_next s)

-- nobody is named before the verdict
unfoldable pub search_answer : Search → Overtaker
search_answer s = cond s.follows (refuses 31) s.first

-- The lines of a script, each on the table that the one before left: one of another form is refused at once.

unfoldable pub unless_malformed : Option Step → (Call → Seen → Overtaker) → Overtaker
unless_malformed none next = refuses 17
unless_malformed (some (step call seen)) next = next call seen

unfoldable pub lines_searched : ℕ → ℕ → List ℕ → Search → List (List ℕ) → Overtaker
lines_searched i k table s [] = search_answer s
lines_searched i k table s (line ∷ lines) =
    let done = step_line concur table line in
    unless_malformed done.happened (λ call seen. lines_searched i k done.table (search_step i k s call seen) lines)
