-- The reference of a run: document 01's "book of a run". It is fed n and the calls alone, no answer and nothing from a table, and knows
-- no timestamps.
use Rattle.std.specs.Prelude.{ℕ, ◌+◌, Bool, true, false, cond, ◌&&◌, ◌||◌, List, [], ◌∷◌, eqb}
use Rattle.std.proofs.Math.Option.{Option, none, some}
use Rattle.lists.specs.Functions.{put}
use Rattle.model.specs.Records.{Value, read, write, zero_value}
use Rattle.model.specs.Kinds.{Kind}
use Rattle.model.specs.Numbers.{begin_answer, deliver_answer, crash_answer}
use Rattle.model.specs.Runs.{Call, begin, deliver, crash, Seen}

-- an operation as begin gave it: for a write with its value, for a read with none (zero)
pub record Operation : Type 0 where
  pub member : ℕ
  pub slot : ℕ
  pub operation : ℕ
  pub value : Value

-- "each member's phase, crash mark, running operation and number of begins on each slot". The running operation is overtaken or not,
-- and an accepted read has noted a value.
pub record RefMember : Type 0 where
  pub phase : ℕ
  pub crashed : ℕ
  pub begins : ℕ → ℕ
  pub slot : ℕ
  pub operation : ℕ
  pub value : Value
  pub overtaken : Bool
  pub noted : Value

-- "It holds a sheet per slot, zero at first; each member's ..; and the history, empty at first": the accepted operations, newest first
pub record Reference : Type 0 where
  pub values : ℕ → Value
  pub members : ℕ → RefMember
  pub history : List Operation

unfoldable pub ref_idle : RefMember
ref_idle = record {
  phase = 0;
  crashed = 0;
  begins = λ r. 0;
  slot = 0;
  operation = 0;
  value = zero_value;
  overtaken = false;
  noted = zero_value;
}

unfoldable pub ref_opened : Reference
ref_opened = record { values = λ r. zero_value; members = λ i. ref_idle; history = [] }

-- the reference with one member's part replaced
abbrev pub ref_with : Reference → ℕ → RefMember → Reference
ref_with ref i m = record { values = ref.values; members = put ref.members i m; history = ref.history }

-- "Begin: the operation runs, not overtaken, with its slot, type and, for a write, the given sheet."
unfoldable pub ref_begun : RefMember → ℕ → ℕ → Value → RefMember
ref_begun m r t v = record {
  phase = 1;
  crashed = m.crashed;
  begins = put m.begins r (m.begins r + 1);
  slot = r;
  operation = t;
  value = cond (eqb t write) v zero_value;
  overtaken = false;
  noted = zero_value;
}

-- m with another phase, crash mark, overtaken or noted value
abbrev pub changed : RefMember → ℕ → ℕ → Bool → Value → RefMember
changed m phase crashed overtaken noted = record {
  phase = phase;
  crashed = crashed;
  begins = m.begins;
  slot = m.slot;
  operation = m.operation;
  value = m.value;
  overtaken = overtaken;
  noted = noted;
}

-- the running operation moved on to a phase
unfoldable pub ref_moved : RefMember → ℕ → RefMember
ref_moved m phase = changed m phase m.crashed m.overtaken m.noted

unfoldable pub ref_overtaken : RefMember → RefMember
ref_overtaken m = changed m m.phase m.crashed true m.noted

-- a running operation on slot r "past its first deliver and not its third"
unfoldable pub submitted_on : ℕ → RefMember → Bool
submitted_on r m = eqb m.slot r && (eqb m.phase 2 || eqb m.phase 3)

-- "First: the host takes its submit; every other running operation on that slot past its first deliver and not its third is overtaken."
unfoldable pub ref_submit : Reference → ℕ → Reference
ref_submit ref i =
    let m = ref.members i in
    record {
      values = ref.values;
      members = put (λ k. cond (submitted_on m.slot (ref.members k)) (ref_overtaken (ref.members k)) (ref.members k)) i (ref_moved m 2);
      history = ref.history;
    }

-- "Second: nothing."
unfoldable pub ref_reply : Reference → ℕ → Reference
ref_reply ref i = ref_with ref i (ref_moved (ref.members i) 3)

-- "Third: the host takes its commit, the verdict. If overtaken it is aborted; else it is accepted and joins the history's end, a write's
-- sheet becomes the slot's, a read notes the slot's."
unfoldable pub ref_accepted : RefMember → Value → RefMember
ref_accepted m v = changed m 4 m.crashed m.overtaken v

unfoldable pub operation_of : ℕ → RefMember → Operation
operation_of i m = record { member = i; slot = m.slot; operation = m.operation; value = m.value }

unfoldable pub ref_accept : Reference → ℕ → Reference
ref_accept ref i =
    let m = ref.members i in
    let r = m.slot in
    record {
      values = cond (eqb m.operation write) (put ref.values r m.value) ref.values;
      members = put ref.members i (ref_accepted m (ref.values r));
      history = operation_of i m ∷ ref.history;
    }

unfoldable pub ref_abort : Reference → ℕ → Reference
ref_abort ref i = ref_with ref i (ref_moved (ref.members i) 5)

unfoldable pub ref_commit : Reference → ℕ → Reference
ref_commit ref i = cond (ref.members i).overtaken (ref_abort ref i) (ref_accept ref i)

-- "Fourth: it is completed and runs no more"
unfoldable pub ref_ended : RefMember → RefMember
ref_ended m = record {
  phase = 0;
  crashed = m.crashed;
  begins = m.begins;
  slot = 0;
  operation = 0;
  value = zero_value;
  overtaken = false;
  noted = zero_value;
}

unfoldable pub ref_end : Reference → ℕ → Reference
ref_end ref i = ref_with ref i (ref_ended (ref.members i))

-- ".. an accepted read returns the noted sheet, any other operation none."
unfoldable pub ref_returned : RefMember → Option Value
ref_returned m = cond (eqb m.phase 4 && eqb m.operation read) (some m.noted) none

-- "the member's next four delivers answered 0"
unfoldable pub ref_delivered : Reference → ℕ → Reference
ref_delivered ref i =
    let phase = (ref.members i).phase in
    cond (eqb phase 1) (ref_submit ref i)
    (cond (eqb phase 2) (ref_reply ref i)
    (cond (eqb phase 3) (ref_commit ref i)
    (ref_end ref i)))

-- "A crash answered 0 sets the mark only."
unfoldable pub ref_marked : RefMember → RefMember
ref_marked m = changed m m.phase 1 m.overtaken m.noted

-- "It answers a call by the numbers further below, read with its own phase and mark and with its begins on that slot for the own count;
-- 2 and 3 never hold."
unfoldable pub ref_answer : Kind → ℕ → Reference → Call → ℕ
ref_answer kind n ref (begin i r t v) =
    let m = ref.members i in
    begin_answer kind n m.phase m.crashed (m.begins r) i r t
ref_answer kind n ref (deliver i) = let m = ref.members i in deliver_answer n m.phase m.crashed i
ref_answer kind n ref (crash i) = let m = ref.members i in crash_answer n m.phase m.crashed i

unfoldable pub ref_done : Reference → Call → Reference
ref_done ref (begin i r t v) = ref_with ref i (ref_begun (ref.members i) r t v)
ref_done ref (deliver i) = ref_delivered ref i
ref_done ref (crash i) = ref_with ref i (ref_marked (ref.members i))

unfoldable pub ref_done_returns : Reference → Call → Option Value
ref_done_returns ref (begin i r t v) = none
ref_done_returns ref (deliver i) = ref_returned (ref.members i)
ref_done_returns ref (crash i) = none

-- "A call that it does not answer 0 changes nothing in it."
unfoldable pub ref_after : Kind → ℕ → Reference → Call → Reference
ref_after kind n ref call = cond (eqb (ref_answer kind n ref call) 0) (ref_done ref call) ref

unfoldable pub ref_seen : Kind → ℕ → Reference → Call → Seen
ref_seen kind n ref call = record {
  answer = ref_answer kind n ref call;
  phases = λ k. ((ref_after kind n ref call).members k).phase;
  returned = cond (eqb (ref_answer kind n ref call) 0) (ref_done_returns ref call) none;
}

unfoldable pub ref_run : Kind → ℕ → Reference → List Call → List Seen
ref_run kind n ref [] = []
ref_run kind n ref (call ∷ calls) = ref_seen kind n ref call ∷ ref_run kind n (ref_after kind n ref call) calls

-- the reference that a list of calls leaves
unfoldable pub ref_left : Kind → ℕ → Reference → List Call → Reference
ref_left kind n ref [] = ref
ref_left kind n ref (call ∷ calls) = ref_left kind n (ref_after kind n ref call) calls
