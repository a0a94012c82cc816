-- The log of a run of which demand 3 holds fits into words, where the calls' values do and there are fewer than 2^32 calls: its positions
-- are numbers of steps, and what a read returned is what some write was given, or zeros.
use Prim.Native.Nat.{ℕ, zero, suc, ◌+◌, ◌-◌, ◌≤◌, ◌<◌, ◌^◌}
use mathlib.Core.Path.{◌≡◌, refl, sym, subst}
use mathlib.Core.Bool.{cond, ◌&&◌}
use mathlib.Core.List.{List, [], ◌∷◌, ◌++◌, map}
use mathlib.Core.Logic.{⊎_elim}
use mathlib.Core.Option.{Option, none}
use native.Mathlib.Omega.{arith}
use lib.Dec.{eqb, ltb}
use lib.ListN.{length}
use borrow.Author.Tests.{eqb-true, eqb-false, ltb-true, ltb-false}
use Rattle.lists.specs.Every.{Every}
use Rattle.lists.specs.Parts.{tabulate, listed}
use Rattle.lists.proofs.Functions.{◌and◌, on, split}
use Rattle.model.specs.Records.{Value, read, write, zero_value}
use Rattle.model.specs.Runs.{Call, begin, deliver, crash, Seen, Step}
use Rattle.model.specs.Reference.{Operation}
use Rattle.model.specs.History.{Op, last_written}
use Rattle.model.specs.Positions.{step_at, IsBegin, IsDeliver, Decided}
use Rattle.model.specs.Demand3.{Serial}
use Rattle.model.proofs.HistoryLists.{every}
use Rattle.logs.specs.Log.{LogRow}
use Rattle.logs.specs.OwnLog.{returned_or, shown_value, logged_row, row_words, log_words, Word, WordsGiven}
use Rattle.logs.proofs.OwnRows.{Gives, AllGive, given_at, Ranges}

-- What holds of each element of a list that was made.

every_append : {A : Type 0} (P : A → Type 0) (l m : List A) → Every P l → Every P m → Every P (l ++ m)
every_append P [] m h k = k
every_append P (x ∷ l) m h k = (h.0, every_append P l m h.1 k)

every_tabulate : (P : ℕ → Type 0) (n : ℕ) (f : ℕ → ℕ) → ((i : ℕ) → P (f i)) → Every P (tabulate n f)
unfolding tabulate
every_tabulate P zero f h = tt
every_tabulate P (suc n) f h = (h zero, every_tabulate P n (λ i. f (suc i)) (λ i. h (suc i)))

-- a value of words
abbrev WordsIn : Value → Type 0
WordsIn v = (k : ℕ) → Word (v k)

zero_words : WordsIn zero_value
unfolding zero_value
zero_words k = omega arith

-- The words of a row, and of a log.

record RowFits (row : LogRow) : Type 0 where
  member : Word row.member
  operation : Word row.operation
  slot : Word row.slot
  value : WordsIn row.value
  begin_at : Word row.begin_at
  accepted_at : Word row.accepted_at
  end_at : Word row.end_at

row_words_lem : (row : LogRow) → RowFits row → Every Word (row_words row)
unfolding row_words
row_words_lem row h =
    let positions = row.begin_at ∷ row.accepted_at ∷ row.end_at ∷ [] in
    h.member
    and h.operation
    and h.slot
    and every_append Word (listed 8 row.value) positions
    (every_tabulate Word 8 (λ i. row.value (i + 1)) (λ i. h.value (i + 1)))
    (h.begin_at and h.accepted_at and h.end_at and tt)

log_words_lem : (rows : List LogRow) → Every RowFits rows → Every Word (log_words rows)
unfolding log_words
log_words_lem [] h = tt
log_words_lem (row ∷ above) h = every_append Word (log_words above) (row_words row) (log_words_lem above h.1) (row_words_lem row h.0)

-- There are no more steps than calls, so that a step of which something is known has a number up to theirs.

step_past : (calls : List Call) (seen : List Seen) (k : ℕ) → length calls < k → step_at calls seen k ≡ none
unfolding step_at
step_past [] seen k h = refl
step_past (call ∷ calls) [] k h = refl
step_past (call ∷ calls) (s ∷ seen) k h = split (λ x. x ≡ none) (eqb k 1)
    (λ e. absurd (let one = eqb-true k 1 e in omega arith))
    (λ e. step_past calls seen (k - 1) (omega arith))

step_within : (calls : List Call) (seen : List Seen) (k : ℕ) (P : Option Step → Type 0) → (P none → ⊥) → P (step_at calls seen k)
    → k ≤ length calls
step_within calls seen k P never h = on (ltb (length calls) k)
    (λ e. absurd (never (subst P (step_past calls seen k (ltb-true (length calls) k e)) h)))
    (λ e. ltb-false (length calls) k e)

-- The values that begins are given, and the last one written.

call_gives : (call : Call) (s : Seen) → WordsGiven call → Gives (λ o. WordsIn o.value) call s
call_gives (begin i r t v) s h = λ taken. split WordsIn (eqb t write) (λ e. h) (λ e. zero_words)
call_gives (deliver i) s h = tt
call_gives (crash i) s h = tt

all_give : (calls : List Call) (seen : List Seen) → Every WordsGiven calls → AllGive (λ o. WordsIn o.value) calls seen
all_give [] seen h = tt
all_give (call ∷ calls) [] h = tt
all_give (call ∷ calls) (s ∷ seen) h = (call_gives call s h.0, all_give calls seen h.1)

last_words : (r : ℕ) (ops : List Op) → Every (λ o. WordsIn o.given.value) ops → WordsIn (last_written r ops)
unfolding last_written
last_words r [] h = zero_words
last_words r (o ∷ ops) h = split WordsIn (eqb o.given.slot r && eqb o.given.operation write)
    (λ e. h.0)
    (λ e. last_words r ops h.1)

-- The operations of a run, newest first.
module _ (n : ℕ) (few : n ≤ 12) (calls : List Call) (seen : List Seen) (short : length calls < 2 ^ 32) (given : Every WordsGiven calls)
    (ranges : (o : Operation) (k : ℕ) → IsBegin o (step_at calls seen k) → Ranges n o) where
  abbrev look : ℕ → Option Step
  look = step_at calls seen

  given-words : (o : Op) → Decided look o → WordsIn o.given.value
  given-words o d = given_at (λ o. WordsIn o.value) calls seen (all_give calls seen given) o.given o.begin_at d.began

  -- a read returned the value of the last write before it, or has not ended
  returned-words : (o : Op) (older : List Op) → Decided look o → Every (Decided look) older → Serial (o ∷ older)
      → o.given.operation ≡ read → WordsIn (returned_or o.returned)
  unfolding returned_or
  returned-words o older d e s t = on (ltb 0 o.end_at)
      (λ l. subst (λ v. WordsIn (returned_or v)) (sym (s.0 t (ltb-true 0 o.end_at l)))
      (last_words o.given.slot older (every given-words older e)))
      (λ l. let open-still : o.end_at ≡ 0 = omega (arith, ltb-false 0 o.end_at l) in
      subst (λ v. WordsIn (returned_or v)) (sym (d.unended open-still)) zero_words)

  shown-words : (o : Op) (older : List Op) → Decided look o → Every (Decided look) older → Serial (o ∷ older) → WordsIn (shown_value o)
  unfolding shown_value
  shown-words o older d e s = split WordsIn (eqb o.given.operation write)
      (λ w. given-words o d)
      (λ w. returned-words o older d e s (⊎_elim
      (λ t. t)
      (λ t. absurd (eqb-false o.given.operation write w t))
      (ranges o.given o.begin_at d.began).operation))

  end-within : (o : Op) → Decided look o → o.end_at ≤ length calls
  end-within o d = on (ltb 0 o.end_at)
      (λ l. step_within calls seen o.end_at (IsDeliver o.given.member 0 o.returned) (λ x. x) (d.ended (ltb-true 0 o.end_at l)))
      (λ l. omega (arith, ltb-false 0 o.end_at l))

  row_fits : (o : Op) (older : List Op) → Decided look o → Every (Decided look) older → Serial (o ∷ older) → RowFits (logged_row o)
  unfolding logged_row
  row_fits o older d e s =
      let g = ranges o.given o.begin_at d.began in
      let operation : o.given.operation ≤ 2 = ⊎_elim (λ t. omega arith) (λ t. omega arith) g.operation in
      let verdict = IsDeliver o.given.member (cond o.accepted 4 5) none in
      let judged = step_within calls seen o.verdict_at verdict (λ x. x) d.judged in
      let begun : o.begin_at ≤ length calls = omega (arith, d.in_order.1, d.in_order.2) in
      let ended = end-within o d in
      record {
        member = omega (arith, g.member.most);
        operation = omega arith;
        slot = omega (arith, g.slot.most);
        value = shown-words o older d e s;
        begin_at = omega arith;
        accepted_at = omega arith;
        end_at = omega arith;
      }

  rows_fit : (ops : List Op) → Every (Decided look) ops → Serial ops → Every RowFits (map logged_row ops)
  rows_fit [] d s = tt
  rows_fit (o ∷ ops) d s = (row_fits o ops d.0 d.1 s, rows_fit ops d.1 s.1)

  pub log_fits : (ops : List Op) → Every (Decided look) ops → Serial ops → Every Word (log_words (map logged_row ops))
  log_fits ops d s = log_words_lem (map logged_row ops) (rows_fit ops d s)
