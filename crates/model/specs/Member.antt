-- The member half: its state and its steps. Numbers such as 3.8 are lines of Algorithm 3 in document 000; the sentences are document
-- 01's. Member i is the one whose state m is, r its slot.
use Rattle.std.specs.Prelude.{ℕ, ◌+◌, Bool, cond, not, ◌&&◌, ◌||◌, eqb, leb}
use Rattle.std.proofs.Math.Option.{Option, none, some}
use Rattle.lists.specs.Functions.{put, each}
use Rattle.model.specs.Rows.{Matrix, matrix_below, comparable, larger, zero_matrix}
use Rattle.model.specs.Records.{Value, Rec, read, write, zero_value, zero_record}

-- "Member block: phase, crash mark, halt number, slot, type, own counts (n), accepted counts (n), last accepted own sheet, pending
-- sheet, known matrix, first and second message record." Phases: 0 idle, 1 submit sent, 2 reply sent, 3 commit sent, 4 accepted
-- sent, 5 aborted sent, 6 halted. Phase and crash mark are the table's own numbers.
pub record Member : Type 0 where
  pub phase : ℕ
  pub crashed : ℕ
  pub halt : ℕ
  pub slot : ℕ
  pub operation : ℕ
  -- op_cnt[1..n] and ts_suc[1..n] of Algorithm 3
  pub own : ℕ → ℕ
  pub accepted : ℕ → ℕ
  -- value_suc, and the value of the running operation
  pub last : Value
  pub pending : Value
  -- tsm_comp
  pub known : Matrix
  -- lso and x_op of a reply, then op and x_op
  pub first : Rec
  pub second : Rec

-- "Opening sets every word zero"
unfoldable pub idle : Member
idle = record {
  phase = 0;
  crashed = 0;
  halt = 0;
  slot = 0;
  operation = 0;
  own = λ r. 0;
  accepted = λ r. 0;
  last = zero_value;
  pending = zero_value;
  known = zero_matrix;
  first = zero_record;
  second = zero_record;
}

-- a step within an operation: m in another phase, with another halt number and other message records
abbrev pub moved : Member → ℕ → ℕ → Rec → Rec → Member
moved m phase halt first second = record {
  phase = phase;
  crashed = m.crashed;
  halt = halt;
  slot = m.slot;
  operation = m.operation;
  own = m.own;
  accepted = m.accepted;
  last = m.last;
  pending = m.pending;
  known = m.known;
  first = first;
  second = second;
}

-- Begin (3.1 to 3.5, 3.16): "the slot's own count rises by one; slot and type are noted; pending sheet is the given one for a write,
-- the last accepted own sheet for a read; phase 1."
unfoldable pub begun : Member → ℕ → ℕ → Value → Member
begun m r t v = record {
  phase = 1;
  crashed = m.crashed;
  halt = m.halt;
  slot = r;
  operation = t;
  own = put m.own r (m.own r + 1);
  accepted = m.accepted;
  last = m.last;
  pending = cond (eqb t write) v m.last;
  known = m.known;
  first = m.first;
  second = m.second;
}

-- The host has taken the submit and answered with its newest and its stored record of the slot (5.6). Phase 2.
unfoldable pub answered : Member → Rec → Rec → Member
answered m newest stored = moved m 2 m.halt newest stored

-- The checks of a reply, in order.

-- 21 (3.7) "a seal did not hold": bit 0 for the newest record, bit 1 for the stored one, so both held at 3
unfoldable pub check21 : ℕ → Bool
check21 seals = eqb seals 3

-- 22 (3.8, first part) "for some k other than m, known row r exceeds the newest record's at k"
abbrev pub entry22 : ℕ → ℕ → Matrix → Matrix → ℕ → Bool
entry22 i r known newest k = eqb k i || leb (known r k) (newest r k)

unfoldable pub check22 : ℕ → ℕ → ℕ → Matrix → Matrix → Bool
check22 n i r known newest = each n (entry22 i r known newest)

-- 23 (3.8, second part) "the newest record's row r at m is not the accepted count"
unfoldable pub check23 : ℕ → ℕ → (ℕ → ℕ) → Matrix → Bool
check23 i r accepted newest = eqb (newest r i) (accepted r)

-- 24 (3.9) "the stored record's member is not r"
unfoldable pub check24 : ℕ → Rec → Bool
check24 r stored = eqb stored.member r

-- 25 (3.10) "the stored matrix is not below the newest, or they differ in row r at r"
unfoldable pub check25 : ℕ → ℕ → Matrix → Matrix → Bool
check25 n r stored newest = matrix_below n stored newest && eqb (stored r r) (newest r r)

-- 26 (3.11, 3.12) "in another row, known and newest are not comparable"
abbrev pub row26 : ℕ → ℕ → Matrix → Matrix → ℕ → Bool
row26 n r known newest j = eqb j r || comparable n (known j) (newest j)

unfoldable pub check26 : ℕ → ℕ → Matrix → Matrix → Bool
check26 n r known newest = each n (row26 n r known newest)

-- 27, amendment 2: "in another row, the newest record's entry for m exceeds m's accepted count there"
abbrev pub row27 : ℕ → ℕ → (ℕ → ℕ) → Matrix → ℕ → Bool
row27 i r accepted newest j = eqb j r || leb (newest j i) (accepted j)

unfoldable pub check27 : ℕ → ℕ → ℕ → (ℕ → ℕ) → Matrix → Bool
check27 n i r accepted newest = each n (row27 i r accepted newest)

-- the number of the first check that fails, 0 where all pass
unfoldable pub halt_number : ℕ → ℕ → Member → Rec → Rec → ℕ → ℕ
halt_number n i m newest stored seals =
    cond (not (check21 seals)) 21
    (cond (not (check22 n i m.slot m.known newest.matrix)) 22
    (cond (not (check23 i m.slot m.accepted newest.matrix)) 23
    (cond (not (check24 m.slot stored)) 24
    (cond (not (check25 n m.slot stored.matrix newest.matrix)) 25
    (cond (not (check26 n m.slot m.known newest.matrix)) 26
    (cond (not (check27 n i m.slot m.accepted newest.matrix)) 27
    0))))))

-- The operation's matrix (3.13 to 3.15): "the slot's row is the newest record's, the member's own entry replaced by the own count;
-- every other row is the larger of known and newest."
unfoldable pub joined : ℕ → ℕ → ℕ → ℕ → Matrix → Matrix → Matrix
joined n i r count known newest j = cond (eqb j r) (put (newest r) i count) (larger n (known j) (newest j))

-- the record that the member commits (3.4, 3.16): "its own record (member, slot, type, own count, pending sheet, matrix)"
unfoldable pub own_record : ℕ → ℕ → Member → Rec → Rec
own_record n i m newest = record {
  member = i;
  slot = m.slot;
  operation = m.operation;
  count = m.own m.slot;
  value = m.pending;
  matrix = joined n i m.slot (m.own m.slot) m.known newest.matrix;
}

-- "Else the first message record becomes its own record and phase 3. The second message record stays."
unfoldable pub passed : ℕ → ℕ → Member → Rec → Rec → Member
passed n i m newest stored = moved m 3 m.halt (own_record n i m newest) stored

-- "On a failure: phase 6, the halt number, both message records zeroed."
unfoldable pub failed : Member → ℕ → Member
failed m number = moved m 6 number zero_record zero_record

-- Taking a reply (3.6 to 3.19): the newest and the stored record, and the seals value.
unfoldable pub replied : ℕ → ℕ → Member → Rec → Rec → ℕ → Member
replied n i m newest stored seals =
    let number = halt_number n i m newest stored seals in
    cond (eqb number 0) (passed n i m newest stored) (failed m number)

-- The host has taken the commit and sent its verdict: phase 4 accepted, 5 aborted.
unfoldable pub judged : Member → Bool → Member
judged m won = moved m (cond won 4 5) m.halt m.first m.second

-- the end of an operation: "Phase 0; slot, type, pending sheet and messages zeroed", and the matrix that is known then
abbrev pub rested : Member → Matrix → Member
rested m known = record {
  phase = 0;
  crashed = m.crashed;
  halt = m.halt;
  slot = 0;
  operation = 0;
  own = m.own;
  accepted = m.accepted;
  last = m.last;
  pending = zero_value;
  known = known;
  first = zero_record;
  second = zero_record;
}

-- Taking the outcome aborted (3.22 to 3.24): "as 4's zeroing, phase 0, and nothing else." Amendment 1: line 3.21 takes over the matrix of
-- an
-- aborted operation too; here only an accepted one's is taken over.
unfoldable pub dropped : Member → Member
dropped m = rested m m.known

-- what an accepted operation leaves the member (3.21, 3.26, 3.27): "the known matrix becomes the record's, the accepted count the own
-- count, for a write the last own sheet the pending one."
unfoldable pub took_over : Member → Member
took_over m = record {
  phase = m.phase;
  crashed = m.crashed;
  halt = m.halt;
  slot = m.slot;
  operation = m.operation;
  own = m.own;
  accepted = put m.accepted m.slot (m.own m.slot);
  last = cond (eqb m.operation write) m.pending m.last;
  pending = m.pending;
  known = m.first.matrix;
  first = m.first;
  second = m.second;
}

-- Taking the outcome accepted (3.20, 3.25): that, and the same zeroing.
unfoldable pub completed : Member → Member
completed m = dropped (took_over m)

unfoldable pub outcome : Member → Bool → Member
outcome m won = cond won (completed m) (dropped m)

-- What the outcome hands back (3.28): "A read returns the stored record's sheet", that is, an accepted one; anything else none.
unfoldable pub returned_by : Member → Bool → Option Value
returned_by m won = cond (won && eqb m.operation read) (some m.second.value) none

-- "Crash sets the mark only."
unfoldable pub crashed_of : Member → Member
crashed_of m = record {
  phase = m.phase;
  crashed = 1;
  halt = m.halt;
  slot = m.slot;
  operation = m.operation;
  own = m.own;
  accepted = m.accepted;
  last = m.last;
  pending = m.pending;
  known = m.known;
  first = m.first;
  second = m.second;
}
