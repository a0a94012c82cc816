-- The history of a run, as one who watches it collects it: from the calls and from what is seen at each, and from nothing inside the
-- board. Positions are step numbers from 1, 0 where a thing has not happened.
use Rattle.std.specs.Prelude.{ℕ, ◌+◌, Bool, false, cond, ◌&&◌, ◌||◌, List, [], ◌∷◌, eqb, ltb}
use Rattle.std.proofs.Math.Option.{Option, none}
use Rattle.lists.specs.Functions.{put}
use Rattle.model.specs.Records.{Value, write, zero_value}
use Rattle.model.specs.Runs.{Call, begin, deliver, crash, Seen}
use Rattle.model.specs.Reference.{Operation}

-- an operation: what begin gave (for a read the value is zero), which one it is among those that its member has begun, from 1, when it
-- began, when the host took its submit and its commit, the verdict, when it completed, and what it returned
pub record Op : Type 0 where
  pub given : Operation
  pub ordinal : ℕ
  pub begin_at : ℕ
  pub submit_at : ℕ
  pub verdict_at : ℕ
  pub accepted : Bool
  pub end_at : ℕ
  pub returned : Option Value

-- a submit that the host took, and whose it was
pub record Submit : Type 0 where
  pub at : ℕ
  pub member : ℕ
  pub slot : ℕ

-- the steps so far, the operation that each member began last, as it was before its verdict, the submits taken and the operations that
-- have reached their verdict, both newest first: so the accepted ones stand in the order of acceptance
pub record Watch : Type 0 where
  pub steps : ℕ
  pub running : ℕ → Op
  pub submits : List Submit
  pub decided : List Op

-- that of a member which has begun none
unfoldable pub no_op : Op
no_op = record {
  given = record { member = 0; slot = 0; operation = 0; value = zero_value };
  ordinal = 0;
  begin_at = 0;
  submit_at = 0;
  verdict_at = 0;
  accepted = false;
  end_at = 0;
  returned = none;
}

-- its next, `before` being the one that it began last
unfoldable pub begun_op : ℕ → ℕ → ℕ → ℕ → Value → Op → Op
begun_op at i r t v before = record {
  given = record { member = i; slot = r; operation = t; value = cond (eqb t write) v zero_value };
  ordinal = before.ordinal + 1;
  begin_at = at;
  submit_at = 0;
  verdict_at = 0;
  accepted = false;
  end_at = 0;
  returned = none;
}

unfoldable pub submitted_op : ℕ → Op → Op
submitted_op at o = record {
  given = o.given;
  ordinal = o.ordinal;
  begin_at = o.begin_at;
  submit_at = at;
  verdict_at = 0;
  accepted = false;
  end_at = 0;
  returned = none;
}

unfoldable pub submit_of : ℕ → ℕ → Op → Submit
submit_of at i o = record { at = at; member = i; slot = o.given.slot }

unfoldable pub decided_op : ℕ → Bool → Op → Op
decided_op at accepted o = record {
  given = o.given;
  ordinal = o.ordinal;
  begin_at = o.begin_at;
  submit_at = o.submit_at;
  verdict_at = at;
  accepted = accepted;
  end_at = 0;
  returned = none;
}

unfoldable pub ended_op : ℕ → Option Value → Op → Op
ended_op at returned o = record {
  given = o.given;
  ordinal = o.ordinal;
  begin_at = o.begin_at;
  submit_at = o.submit_at;
  verdict_at = o.verdict_at;
  accepted = o.accepted;
  end_at = at;
  returned = returned;
}

-- the newest decided operation of member i is the one that ends
unfoldable pub ended : ℕ → ℕ → Option Value → List Op → List Op
ended i at returned [] = []
ended i at returned (o ∷ ops) =
    cond (eqb o.given.member i) (ended_op at returned o ∷ ops) (o ∷ ended i at returned ops)

-- a deliver that was answered 0, told by the member's phase after it: 2 its submit was taken, 4 and 5 its commit, 0 it has completed
unfoldable pub watch_deliver : Watch → ℕ → ℕ → Seen → Watch
watch_deliver w at i s =
    let o = w.running i in
    let phase = s.phases i in
    cond (eqb phase 2) (record {
      steps = at;
      running = put w.running i (submitted_op at o);
      submits = submit_of at i o ∷ w.submits;
      decided = w.decided;
    })
    (cond (eqb phase 4 || eqb phase 5) (record {
      steps = at;
      running = w.running;
      submits = w.submits;
      decided = decided_op at (eqb phase 4) o ∷ w.decided;
    })
    (cond (eqb phase 0) (record {
      steps = at;
      running = w.running;
      submits = w.submits;
      decided = ended i at s.returned w.decided;
    })
    (record { steps = at; running = w.running; submits = w.submits; decided = w.decided })))

unfoldable pub watch_call : Watch → ℕ → Call → Seen → Watch
watch_call w at (begin i r t v) s =
    let o = begun_op at i r t v (w.running i) in
    record { steps = at; running = put w.running i o; submits = w.submits; decided = w.decided }
watch_call w at (deliver i) s = watch_deliver w at i s
watch_call w at (crash i) s = record { steps = at; running = w.running; submits = w.submits; decided = w.decided }

-- a call that was refused is a step and nothing more
unfoldable pub watch_step : Watch → Call → Seen → Watch
watch_step w call s =
    let at = w.steps + 1 in
    cond (eqb s.answer 0) (watch_call w at call s)
    (record { steps = at; running = w.running; submits = w.submits; decided = w.decided })

unfoldable pub watch_from : Watch → List Call → List Seen → Watch
watch_from w [] seen = w
watch_from w (call ∷ calls) [] = w
watch_from w (call ∷ calls) (s ∷ seen) = watch_from (watch_step w call s) calls seen

unfoldable pub nothing_yet : Watch
nothing_yet = record { steps = 0; running = λ i. no_op; submits = []; decided = [] }

unfoldable pub watched : List Call → List Seen → Watch
watched calls seen = watch_from nothing_yet calls seen

-- the accepted operations, newest first
unfoldable pub accepted_of : List Op → List Op
accepted_of [] = []
accepted_of (o ∷ ops) = cond o.accepted (o ∷ accepted_of ops) (accepted_of ops)

-- the value of the last write to slot r among operations that stand newest first, or the opening one
unfoldable pub last_written : ℕ → List Op → Value
last_written r [] = zero_value
last_written r (o ∷ ops) =
    cond (eqb o.given.slot r && eqb o.given.operation write) o.given.value (last_written r ops)

-- whether a submit was for the operation's slot, and taken between its own submit and its commit
abbrev pub overtakes : Submit → Op → Bool
overtakes s o = eqb s.slot o.given.slot && (ltb o.submit_at s.at && ltb s.at o.verdict_at)

-- whether the host took another submit for the operation's slot between its submit and its commit
unfoldable pub contested : Op → List Submit → Bool
contested o [] = false
contested o (s ∷ submits) = overtakes s o || contested o submits
