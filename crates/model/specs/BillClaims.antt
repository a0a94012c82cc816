-- What is claimed of the bill: each sentence of the tariff, of every list of accepted operations; and how much there is to bill of a run.
use Rattle.std.specs.Prelude.{ℕ, zero, suc, ◌+◌, ◌*◌, ◌≤◌, ◌<◌, ◌≡◌, cond, List, [], ◌∷◌, ◌++◌, eqb, length}
use Rattle.model.specs.Records.{read, write, zero_value}
use Rattle.model.specs.Runs.{Call}
use Rattle.model.specs.Reference.{Operation}
use Rattle.model.specs.Script.{text}
use Rattle.model.specs.Bill.{tenths, bill, total, printed_bill}

-- how many of the operations are member i's
unfoldable pub accepted_by : ℕ → List Operation → ℕ
accepted_by i [] = 0
accepted_by i (o ∷ ops) = cond (eqb o.member i) 1 0 + accepted_by i ops

-- Member i's bill, of any accepted operations and one more that is accepted after them.
pub record BilledAsAsked (i : ℕ) (ops : List Operation) (o : Operation) : Type 0 where
  -- "The first 100 accepted operations of a member in a run are free, in order of acceptance."
  pub free : accepted_by i ops ≤ 100 → tenths i ops ≡ 0
  -- "After them a write costs 35 tenths of a cent and a read 4."
  pub write : o.member ≡ i → 100 ≤ accepted_by i ops → o.operation ≡ write → tenths i (ops ++ o ∷ []) ≡ tenths i ops + 35
  pub read : o.member ≡ i → 100 ≤ accepted_by i ops → o.operation ≡ read → tenths i (ops ++ o ∷ []) ≡ tenths i ops + 4
  -- another's costs it nothing
  pub another : (o.member ≡ i → ⊥) → tenths i (ops ++ o ∷ []) ≡ tenths i ops
  -- "A member's sum is rounded up once to a whole cent."
  pub rounded : (tenths i ops ≤ 10 * bill ops i) × (10 * bill ops i < tenths i ops + 10)

-- A run has at least five steps for each accepted operation, but for one that may still have to complete, of each member.
pub record FewAccepted (n : ℕ) (calls : List Call) (ops : List Operation) : Type 0 where
  pub each : (i : ℕ) → 5 * accepted_by i ops ≤ length calls + 1
  pub all : 5 * length ops ≤ length calls + n

-- So 32 bits are enough for 1,000,000 steps: the largest total is that of one member alone that only writes, 199,900 times 3.5 cents.
pub record SmallBills (n : ℕ) (ops : List Operation) : Type 0 where
  pub each : (i : ℕ) → accepted_by i ops ≤ 200000
  pub all : length ops ≤ 200002
  pub cents : total n (bill ops) ≤ 699650

-- A bill by hand, for the words above. Member 1 writes 99 times, reads its own slot, and writes 3 times more: the read is its 100th, and
-- the three cost 105 tenths, 11 cents. Member 2 reads 101 times, the last after all others: 4 tenths, 1 cent. Member 3 does nothing.

abbrev pub sample_operation : ℕ → ℕ → ℕ → Operation
sample_operation i r t = record { member = i; slot = r; operation = t; value = zero_value }

unfoldable pub times : ℕ → Operation → List Operation → List Operation
times zero o ops = ops
times (suc k) o ops = o ∷ times k o ops

unfoldable pub sample_accepted : List Operation
sample_accepted =
    times 99 (sample_operation 1 1 write)
    (times 100 (sample_operation 2 1 read)
    (times 1 (sample_operation 1 1 read)
    (times 3 (sample_operation 1 1 write)
    (times 1 (sample_operation 2 1 read) []))))

pub record SampleBilled : Type 0 where
  pub accepted : (accepted_by 1 sample_accepted ≡ 103) × ((accepted_by 2 sample_accepted ≡ 101) × (accepted_by 3 sample_accepted ≡ 0))
  pub tenths : (tenths 1 sample_accepted ≡ 105) × ((tenths 2 sample_accepted ≡ 4) × (tenths 3 sample_accepted ≡ 0))
  -- the total of the sums before they are rounded would be 109 tenths, 11 cents
  pub printed : printed_bill 3 (bill sample_accepted) ≡ text "1 11\n2 1\n3 0\n12\n"
