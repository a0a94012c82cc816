-- The member's steps by the words of its block: which words a step writes, and that the decoded member is then the model's step.
use Prim.Native.Nat.{ℕ, ◌+◌, ◌-◌, ◌*◌, ◌≤◌, ◌<◌}
use native.Mathlib.Omega.{arith}
use mathlib.Core.Path.{◌≡◌, refl, sym, ap, ◌∙◌}
use mathlib.Core.Bool.{Bool, true, false, cond}
use mathlib.Core.List.{List}
use lib.Dec.{eqb}
use borrow.Author.Tests.{eqb-true, eqb-false}
use lib.ListN.{length, take, drop, set, replicate, length-set}
use Rattle.lists.specs.Functions.{put, pasted, from}
use Rattle.lists.specs.Parts.{words, tabulate, replaced}
use Rattle.lists.proofs.Functions.{on, by_place, put_at, put_off, pasted_in, pasted_below, pasted_above, pasted_same, from_pasted_at}
use Rattle.lists.proofs.Functions.{numbered_put}
use Rattle.lists.proofs.Parts.{words_set, length-replaced, words_replaced, length-tabulate, tabulate-at, part_tabulate, replicate-tabulate}
use Rattle.lists.proofs.Pieces.{tabulate-of}
use Rattle.model.specs.Records.{Value, Rec, write, zero_record, record_within}
use Rattle.model.specs.RecordWords.{matrix_at, record_size, row_of, matrix_of, value_of, record_of, record_words}
use Rattle.model.specs.Member.{moved, begun, failed, judged, dropped, took_over, crashed_of}
use Rattle.model.specs.Table.{phase_at, crashed_at, halt_at, slot_at, operation_at, own_at, accepted_at, last_at, pending_at}
use Rattle.model.specs.Table.{known_at, first_at}
use Rattle.model.specs.Table.{second_at, member_of}
use Rattle.laws.proofs.Records.{row_of_same, matrix_of-same, value_of_same, record_of-same, row_of_at, length-record_words, record_of-words}
use Rattle.laws.proofs.Blocks.{value_zero, record_zero}

-- a place outside a run that was pasted
pub pasted_off : {A : Type 0} (a k : ℕ) (g f : ℕ → A) (i : ℕ) → (a ≤ i → i < a + k → ⊥) → pasted a k g f i ≡ f i
pasted_off a k g f i h = by_place a k i (pasted_below a k g f i) (λ p q. absurd (h p q)) (pasted_above a k g f i)

-- A list of k words, and which: what each store and each call that writes leaves.

pub record Holds (k : ℕ) (l : List ℕ) (w : ℕ → ℕ) : Type 0 where
  pub long : length l ≡ k
  pub same : words l ≡ w

module _ {k : ℕ} {l : List ℕ} {w : ℕ → ℕ} (h : Holds k l w) where
  pub holds_set : (i x : ℕ) → i < k → Holds k (set l i x) (put w i x)
  holds_set i x p = record {
    long = length-set l i x ∙ h.long;
    same = words_set l i x (omega (arith, h.long)) ∙ ap (λ f. put f i x) h.same;
  }

  pub holds_pasted : (m : List ℕ) (a c : ℕ) (g : ℕ → ℕ) → length m ≡ length l → words m ≡ pasted a c g (words l)
      → Holds k m (pasted a c g w)
  holds_pasted m a c g p e = record { long = p ∙ h.long; same = e ∙ ap (pasted a c g) h.same }

  -- a run of c words from a on, whichever list p they came in
  holds-run : (m : List ℕ) (a c : ℕ) (g : ℕ → ℕ) (p : List ℕ) → m ≡ replaced l a p → p ≡ tabulate c g → a + c ≤ k
      → Holds k m (pasted a c g w)
  holds-run m a c g p e s q =
      holds_pasted m a c g (ap length e ∙ length-replaced l a p room)
      (ap words e
      ∙ words_replaced l a p room
      ∙ ap (λ t. pasted a (length t) (words t) (words l)) s
      ∙ ap (λ t. pasted a t (words (tabulate c g)) (words l)) (length-tabulate c g)
      ∙ pasted_same a c (words (tabulate c g)) g (words l) (tabulate-at c g))
    where
      room : a + length p ≤ length l
      room = omega (arith, h.long, ap length s, length-tabulate c g)

  pub holds_cleared : (m : List ℕ) (a c : ℕ) → m ≡ replaced l a (replicate c 0) → a + c ≤ k → Holds k m (pasted a c (λ i. 0) w)
  holds_cleared m a c e p = holds-run m a c (λ i. 0) (replicate c 0) e (replicate-tabulate c 0) p

  pub holds_copied : (m : List ℕ) (a b c : ℕ) → m ≡ replaced l a (take c (drop b l)) → a + c ≤ k → b + c ≤ k
      → Holds k m (pasted a c (from w b) w)
  holds_copied m a b c e p q =
      holds-run m a c (from w b) (take c (drop b l)) e
      (part_tabulate l b c (omega (arith, h.long)) ∙ ap (λ f. tabulate c (from f b)) h.same) p

  pub holds_record : (m : List ℕ) (n a : ℕ) (r : Rec) → m ≡ replaced l a (record_words n r) → a + record_size n ≤ k
      → Holds k m (pasted a (record_size n) (words (record_words n r)) w)
  holds_record m n a r e p =
      holds-run m a (record_size n) (words (record_words n r)) (record_words n r) e
      (sym (tabulate-of (record_size n) (record_words n r) (length-record_words n r))) p

-- The parts of a block whose words are w's, where they are kept: `Off` says which words are.
module _ (n : ℕ) (v w : ℕ → ℕ) (Off : ℕ → Type 0) (rest : (i : ℕ) → Off i → v i ≡ w i) where
  -- a part that f reads from k words
  part-kept : {A : Type 0} (f : (ℕ → ℕ) → A) (k : ℕ) → ((x y : ℕ → ℕ) → ((i : ℕ) → i < k → x i ≡ y i) → f x ≡ f y)
      → (a : ℕ) → ((i : ℕ) → a ≤ i → i < a + k → Off i) → f (from v a) ≡ f (from w a)
  unfolding from
  part-kept f k looks a h = looks (from v a) (from w a) (λ i p. rest (a + i) (h (a + i) (omega arith) (omega arith)))

  pub row_kept : (a : ℕ) → ((i : ℕ) → a ≤ i → i < a + n → Off i) → row_of n (from v a) ≡ row_of n (from w a)
  row_kept = part-kept (row_of n) n (row_of_same n)

  pub value_kept : (a : ℕ) → ((i : ℕ) → a ≤ i → i < a + 8 → Off i) → value_of (from v a) ≡ value_of (from w a)
  value_kept = part-kept value_of 8 value_of_same

  pub matrix_kept : (a : ℕ) → ((i : ℕ) → a ≤ i → i < a + n * n → Off i) → matrix_of n (from v a) ≡ matrix_of n (from w a)
  matrix_kept = part-kept (matrix_of n) (n * n) (matrix_of-same n)

  pub record_kept : (a : ℕ) → ((i : ℕ) → a ≤ i → i < a + record_size n → Off i) → record_of n (from v a) ≡ record_of n (from w a)
  record_kept = part-kept (record_of n) (record_size n) (record_of-same n)

  -- a row with one count written
  pub row_put : (a k x : ℕ) → 1 ≤ k → k ≤ n → v (a + k - 1) ≡ x → ((i : ℕ) → a ≤ i → i < a + n → (i ≡ a + k - 1 → ⊥) → Off i)
      → row_of n (from v a) ≡ put (row_of n (from w a)) k x
  unfolding from row_of
  row_put a k x p q e h =
      row_of_same n (from v a) (put (from w a) (k - 1) x) (λ i r. on (eqb i (k - 1))
      (λ s. let d : i ≡ k - 1 = eqb-true i (k - 1) s in
      let c : a + i ≡ a + k - 1 = omega arith in
      ap v c ∙ e ∙ sym (put_at (from w a) (k - 1) x) ∙ ap (put (from w a) (k - 1) x) (sym d))
      (λ s. let d : i ≡ k - 1 → ⊥ = eqb-false i (k - 1) s in
      rest (a + i) (h (a + i) (omega arith) (omega arith) (omega arith)) ∙ sym (put_off (from w a) (k - 1) x i d)))
      ∙ numbered_put n 0 (from w a) (k - 1) x (omega arith)
      ∙ ap (λ j. put (row_of n (from w a)) j x) (let c : k - 1 + 1 ≡ k = omega arith in c)

-- a count of a row
pub count_of : (n : ℕ) (w : ℕ → ℕ) (a k : ℕ) → 1 ≤ k → k ≤ n → row_of n (from w a) k ≡ w (a + k - 1)
unfolding from
count_of n w a k p q =
    ap (row_of n (from w a)) (let c : k ≡ k - 1 + 1 = omega arith in c)
    ∙ row_of_at n (from w a) (k - 1) (omega arith)
    ∙ ap w (let c : a + (k - 1) ≡ a + k - 1 = omega arith in c)

-- The steps. Each law's `rest` says that a word which the step does not write is kept.

-- phase, halt number and message records written: what `moved` stands for
pub moved_by : (n : ℕ) (v w : ℕ → ℕ) (phase halt : ℕ) (first second : Rec)
    → v phase_at ≡ phase → v halt_at ≡ halt → record_of n (from v (first_at n)) ≡ first → record_of n (from v (second_at n)) ≡ second
    → ((i : ℕ) → (i < first_at n) × ((i ≡ phase_at → ⊥) × (i ≡ halt_at → ⊥)) → v i ≡ w i)
    → member_of n v ≡ moved (member_of n w) phase halt first second
unfolding member_of first_at known_at pending_at last_at accepted_at
moved_by n v w phase halt first second p h f s rest = λ t. record {
  phase = p t;
  crashed = rest crashed_at (omega arith) t;
  halt = h t;
  slot = rest slot_at (omega arith) t;
  operation = rest operation_at (omega arith) t;
  own = row_kept n v w Off rest own_at (omega arith) t;
  accepted = row_kept n v w Off rest (accepted_at n) (omega arith) t;
  last = value_kept n v w Off rest (last_at n) (omega arith) t;
  pending = value_kept n v w Off rest (pending_at n) (omega arith) t;
  known = matrix_kept n v w Off rest (known_at n) (omega arith) t;
  first = f t;
  second = s t;
}
  where
    Off : ℕ → Type 0
    Off i = (i < first_at n) × ((i ≡ phase_at → ⊥) × (i ≡ halt_at → ⊥))

-- a halt: both message records, which lie side by side, cleared
pub failed_by : (n : ℕ) (w : ℕ → ℕ) (number : ℕ)
    → member_of n (put (put (pasted (first_at n) (2 * record_size n) (λ i. 0) w) phase_at 6) halt_at number) ≡ failed (member_of n w) number
unfolding failed second_at first_at known_at pending_at last_at accepted_at from
failed_by n w number =
    moved_by n v w 6 number zero_record zero_record
    (put_off _ halt_at number phase_at (omega arith) ∙ put_at _ phase_at 6)
    (put_at _ halt_at number)
    (record_kept n v (λ i. 0) In zero (first_at n) (omega arith) ∙ record_zero n)
    (record_kept n v (λ i. 0) In zero (second_at n) (omega arith) ∙ record_zero n)
    (λ i h. head i (omega arith) (omega arith) ∙ pasted_off (first_at n) (2 * record_size n) (λ j. 0) w i (omega arith))
  where
    v : ℕ → ℕ
    v = put (put (pasted (first_at n) (2 * record_size n) (λ i. 0) w) phase_at 6) halt_at number

    In : ℕ → Type 0
    In i = (first_at n ≤ i) × (i < first_at n + 2 * record_size n)

    head : (i : ℕ) → (i ≡ phase_at → ⊥) → (i ≡ halt_at → ⊥) → v i ≡ pasted (first_at n) (2 * record_size n) (λ j. 0) w i
    head i p q = put_off _ halt_at number i q ∙ put_off _ phase_at 6 i p

    zero : (i : ℕ) → In i → v i ≡ 0
    zero i h = head i (omega arith) (omega arith) ∙ pasted_in (first_at n) (2 * record_size n) (λ j. 0) w i h.0 h.1

-- both message records written, and the phase
pub noted_by : (n : ℕ) (w : ℕ → ℕ) (phase : ℕ) (first second : Rec)
    → member_of n
    (put (pasted (second_at n) (record_size n) (words (record_words n second))
    (pasted (first_at n) (record_size n) (words (record_words n first)) w)) phase_at phase)
    ≡ moved (member_of n w) phase (member_of n w).halt (record_within n first) (record_within n second)
unfolding member_of second_at first_at known_at pending_at last_at accepted_at from
noted_by n w phase first second =
    moved_by n v w phase (w halt_at) (record_within n first) (record_within n second)
    (put_at _ phase_at phase)
    (rest halt_at (omega arith))
    (read first (first_at n) (λ i h. head (first_at n + i) (omega arith)
    ∙ pasted_off (second_at n) (record_size n) s u (first_at n + i) (omega arith)
    ∙ from_pasted_at (first_at n) (record_size n) f w i h))
    (read second (second_at n) (λ i h. head (second_at n + i) (omega arith) ∙ from_pasted_at (second_at n) (record_size n) s u i h))
    (λ i h. rest i (omega arith))
  where
    f : ℕ → ℕ
    f = words (record_words n first)

    s : ℕ → ℕ
    s = words (record_words n second)

    u : ℕ → ℕ
    u = pasted (first_at n) (record_size n) f w

    v : ℕ → ℕ
    v = put (pasted (second_at n) (record_size n) s u) phase_at phase

    head : (i : ℕ) → (i ≡ phase_at → ⊥) → v i ≡ pasted (second_at n) (record_size n) s u i
    head i p = put_off (pasted (second_at n) (record_size n) s u) phase_at phase i p

    rest : (i : ℕ) → (i < first_at n) × (i ≡ phase_at → ⊥) → v i ≡ w i
    rest i h =
        head i h.1
        ∙ pasted_off (second_at n) (record_size n) s u i (omega arith)
        ∙ pasted_off (first_at n) (record_size n) f w i (omega arith)

    read : (r : Rec) (a : ℕ) → ((i : ℕ) → i < record_size n → from v a i ≡ words (record_words n r) i) → record_of n (from v a)
        ≡ record_within n r
    read r a h = record_of-same n (from v a) (words (record_words n r)) h ∙ record_of-words n r

-- the phase alone
pub judged_by_lem : (n : ℕ) (w : ℕ → ℕ) (won : Bool) → member_of n (put w phase_at (cond won 4 5)) ≡ judged (member_of n w) won
unfolding judged member_of second_at first_at known_at pending_at last_at accepted_at
judged_by_lem n w won =
    moved_by n v w (cond won 4 5) (w halt_at) (record_of n (from w (first_at n))) (record_of n (from w (second_at n)))
    (put_at w phase_at (cond won 4 5))
    (rest halt_at (omega arith))
    (record_kept n v w (λ i. i ≡ phase_at → ⊥) rest (first_at n) (omega arith))
    (record_kept n v w (λ i. i ≡ phase_at → ⊥) rest (second_at n) (omega arith))
    (λ i h. rest i (omega arith))
  where
    v : ℕ → ℕ
    v = put w phase_at (cond won 4 5)

    rest : (i : ℕ) → (i ≡ phase_at → ⊥) → v i ≡ w i
    rest i h = put_off w phase_at (cond won 4 5) i h

-- the crash mark alone
pub crashed_by : (n : ℕ) (w : ℕ → ℕ) → member_of n (put w crashed_at 1) ≡ crashed_of (member_of n w)
unfolding crashed_of member_of second_at first_at known_at pending_at last_at accepted_at
crashed_by n w = λ t. record {
  phase = rest phase_at (omega arith) t;
  crashed = put_at w crashed_at 1 t;
  halt = rest halt_at (omega arith) t;
  slot = rest slot_at (omega arith) t;
  operation = rest operation_at (omega arith) t;
  own = row_kept n v w Off rest own_at (omega arith) t;
  accepted = row_kept n v w Off rest (accepted_at n) (omega arith) t;
  last = value_kept n v w Off rest (last_at n) (omega arith) t;
  pending = value_kept n v w Off rest (pending_at n) (omega arith) t;
  known = matrix_kept n v w Off rest (known_at n) (omega arith) t;
  first = record_kept n v w Off rest (first_at n) (omega arith) t;
  second = record_kept n v w Off rest (second_at n) (omega arith) t;
}
  where
    v : ℕ → ℕ
    v = put w crashed_at 1

    Off : ℕ → Type 0
    Off i = i ≡ crashed_at → ⊥

    rest : (i : ℕ) → Off i → v i ≡ w i
    rest i h = put_off w crashed_at 1 i h

-- phase, slot and type written, as at the start and at the end of an operation
abbrev pub headed : (ℕ → ℕ) → ℕ → ℕ → ℕ → ℕ → ℕ
headed w phase slot operation = put (put (put w phase_at phase) slot_at slot) operation_at operation

abbrev Body : ℕ → Type 0
Body i = (i ≡ phase_at → ⊥) × ((i ≡ slot_at → ⊥) × (i ≡ operation_at → ⊥))

module _ (w : ℕ → ℕ) (phase slot operation : ℕ) where
  headed-phase : headed w phase slot operation phase_at ≡ phase
  unfolding put
  headed-phase = refl

  headed-slot : headed w phase slot operation slot_at ≡ slot
  unfolding put
  headed-slot = refl

  headed-operation : headed w phase slot operation operation_at ≡ operation
  unfolding put
  headed-operation = refl

  headed-off : (i : ℕ) → Body i → headed w phase slot operation i ≡ w i
  headed-off i h =
      put_off (put (put w phase_at phase) slot_at slot) operation_at operation i h.1.1
      ∙ put_off (put w phase_at phase) slot_at slot i h.1.0
      ∙ put_off w phase_at phase i h.0

-- the end of an operation: the pending value and both message records cleared too
pub dropped_by : (n : ℕ) (w : ℕ → ℕ)
    → member_of n (headed (pasted (first_at n) (2 * record_size n) (λ i. 0) (pasted (pending_at n) 8 (λ i. 0) w)) 0 0 0)
    ≡ dropped (member_of n w)
unfolding dropped member_of second_at first_at known_at pending_at last_at accepted_at from
dropped_by n w = λ t. record {
  phase = headed-phase x 0 0 0 t;
  crashed = rest crashed_at (omega arith) t;
  halt = rest halt_at (omega arith) t;
  slot = headed-slot x 0 0 0 t;
  operation = headed-operation x 0 0 0 t;
  own = row_kept n v w Off rest own_at (omega arith) t;
  accepted = row_kept n v w Off rest (accepted_at n) (omega arith) t;
  last = value_kept n v w Off rest (last_at n) (omega arith) t;
  pending = (value_kept n v (λ i. 0) Pending pending (pending_at n) (omega arith) ∙ value_zero) t;
  known = matrix_kept n v w Off rest (known_at n) (omega arith) t;
  first = (record_kept n v (λ i. 0) Message message (first_at n) (omega arith) ∙ record_zero n) t;
  second = (record_kept n v (λ i. 0) Message message (second_at n) (omega arith) ∙ record_zero n) t;
}
  where
    u : ℕ → ℕ
    u = pasted (pending_at n) 8 (λ i. 0) w

    x : ℕ → ℕ
    x = pasted (first_at n) (2 * record_size n) (λ i. 0) u

    v : ℕ → ℕ
    v = headed x 0 0 0

    Message : ℕ → Type 0
    Message i = (first_at n ≤ i) × (i < first_at n + 2 * record_size n)

    message : (i : ℕ) → Message i → v i ≡ 0
    message i h = headed-off x 0 0 0 i (omega arith) ∙ pasted_in (first_at n) (2 * record_size n) (λ j. 0) u i h.0 h.1

    Pending : ℕ → Type 0
    Pending i = (pending_at n ≤ i) × (i < pending_at n + 8)

    pending : (i : ℕ) → Pending i → v i ≡ 0
    pending i h =
        headed-off x 0 0 0 i (omega arith)
        ∙ pasted_off (first_at n) (2 * record_size n) (λ j. 0) u i (omega arith)
        ∙ pasted_in (pending_at n) 8 (λ j. 0) w i h.0 h.1

    Off : ℕ → Type 0
    Off i = Body i × ((i < first_at n) × (pending_at n ≤ i → i < pending_at n + 8 → ⊥))

    rest : (i : ℕ) → Off i → v i ≡ w i
    rest i h =
        headed-off x 0 0 0 i h.0
        ∙ pasted_off (first_at n) (2 * record_size n) (λ j. 0) u i (omega arith)
        ∙ pasted_off (pending_at n) 8 (λ j. 0) w i h.1.1

-- the start of an operation: its slot's own count and its pending value written too
pub begun_by : (n : ℕ) (w : ℕ → ℕ) (r t : ℕ) (given : Value) (value : ℕ → ℕ) → 1 ≤ r → r ≤ n
    → value_of value ≡ cond (eqb t write) given (value_of (from w (last_at n)))
    → member_of n (headed (pasted (pending_at n) 8 value (put w (own_at + r - 1) (w (own_at + r - 1) + 1))) 1 r t)
    ≡ begun (member_of n w) r t given
unfolding begun member_of second_at first_at known_at pending_at last_at accepted_at from
begun_by n w r t given value p q e = λ d. record {
  phase = headed-phase x 1 r t d;
  crashed = rest crashed_at (omega arith) d;
  halt = rest halt_at (omega arith) d;
  slot = headed-slot x 1 r t d;
  operation = headed-operation x 1 r t d;
  own = (row_put n v w Off rest own_at r (w own + 1) p q raised (omega arith)
      ∙ ap (λ c. put (row_of n (from w own_at)) r (c + 1)) (sym (count_of n w own_at r p q))) d;
  accepted = row_kept n v w Off rest (accepted_at n) (omega arith) d;
  last = value_kept n v w Off rest (last_at n) (omega arith) d;
  pending = (value_of_same (from v (pending_at n)) value pending ∙ e) d;
  known = matrix_kept n v w Off rest (known_at n) (omega arith) d;
  first = record_kept n v w Off rest (first_at n) (omega arith) d;
  second = record_kept n v w Off rest (second_at n) (omega arith) d;
}
  where
    own : ℕ
    own = own_at + r - 1

    u : ℕ → ℕ
    u = put w own (w own + 1)

    x : ℕ → ℕ
    x = pasted (pending_at n) 8 value u

    v : ℕ → ℕ
    v = headed x 1 r t

    pending : (i : ℕ) → i < 8 → from v (pending_at n) i ≡ value i
    pending i h = headed-off x 1 r t (pending_at n + i) (omega arith) ∙ from_pasted_at (pending_at n) 8 value u i h

    raised : v own ≡ w own + 1
    raised =
        headed-off x 1 r t own (omega arith)
        ∙ pasted_off (pending_at n) 8 value u own (omega arith)
        ∙ put_at w own (w own + 1)

    Off : ℕ → Type 0
    Off i = Body i × ((i ≡ own → ⊥) × (pending_at n ≤ i → i < pending_at n + 8 → ⊥))

    rest : (i : ℕ) → Off i → v i ≡ w i
    rest i h = headed-off x 1 r t i h.0 ∙ pasted_off (pending_at n) 8 value u i h.1.1 ∙ put_off w own (w own + 1) i h.1.0

-- What an accepted operation leaves the member.

-- the words with the slot's accepted count and the known matrix written
abbrev pub kept : ℕ → (ℕ → ℕ) → ℕ → ℕ
kept n w =
    let u = put w (accepted_at n + w slot_at - 1) (w (own_at + w slot_at - 1)) in
    pasted (known_at n) (n * n) (from u (first_at n + matrix_at)) u

module _ (n : ℕ) (w : ℕ → ℕ) where
  -- a word that neither is the slot's accepted count nor lies in the known matrix
  Other : ℕ → Type 0
  Other i = (i ≡ accepted_at n + w slot_at - 1 → ⊥) × (known_at n ≤ i → i < known_at n + n * n → ⊥)

  kept-other : (i : ℕ) → Other i → kept n w i ≡ w i
  unfolding Other
  kept-other i h =
      let place = accepted_at n + w slot_at - 1 in
      let u = put w place (w (own_at + w slot_at - 1)) in
      pasted_off (known_at n) (n * n) (from u (first_at n + matrix_at)) u i h.1 ∙ put_off w place (w (own_at + w slot_at - 1)) i h.0

  module _ (least : 1 ≤ w slot_at) (most : w slot_at ≤ n) where
    tookOver-by : (v : ℕ → ℕ) → ((i : ℕ) → (last_at n ≤ i → i < last_at n + 8 → ⊥) → v i ≡ kept n w i)
        → value_of (from v (last_at n)) ≡ cond (eqb (w operation_at) write) (value_of (from w (pending_at n)))
        (value_of (from w (last_at n)))
        → member_of n v ≡ took_over (member_of n w)
    unfolding took_over member_of record_of Other second_at first_at known_at pending_at last_at accepted_at record_size from
    tookOver-by v same last = λ t. record {
      phase = rest phase_at (omega arith) t;
      crashed = rest crashed_at (omega arith) t;
      halt = rest halt_at (omega arith) t;
      slot = rest slot_at (omega arith) t;
      operation = rest operation_at (omega arith) t;
      own = row_kept n v w Off rest own_at (omega arith) t;
      accepted = (row_put n v w Off rest (accepted_at n) (w slot_at) count least most raised (omega arith)
          ∙ ap (put (row_of n (from w (accepted_at n))) (w slot_at)) (sym (count_of n w own_at (w slot_at) least most))) t;
      last = last t;
      pending = value_kept n v w Off rest (pending_at n) (omega arith) t;
      known = matrix_of-same n (from v (known_at n)) (from (from w (first_at n)) matrix_at) known t;
      first = record_kept n v w Off rest (first_at n) (omega arith) t;
      second = record_kept n v w Off rest (second_at n) (omega arith) t;
    }
      where
        place : ℕ
        place = accepted_at n + w slot_at - 1

        count : ℕ
        count = w (own_at + w slot_at - 1)

        u : ℕ → ℕ
        u = put w place count

        Off : ℕ → Type 0
        Off i = Other i × (last_at n ≤ i → i < last_at n + 8 → ⊥)

        rest : (i : ℕ) → Off i → v i ≡ w i
        rest i h = same i h.1 ∙ kept-other i h.0

        raised : v place ≡ count
        raised =
            same place (omega arith)
            ∙ pasted_off (known_at n) (n * n) (from u (first_at n + matrix_at)) u place (omega arith)
            ∙ put_at w place count

        known : (i : ℕ) → i < n * n → v (known_at n + i) ≡ w (first_at n + (matrix_at + i))
        known i h =
            same (known_at n + i) (omega arith)
            ∙ from_pasted_at (known_at n) (n * n) (from u (first_at n + matrix_at)) u i h
            ∙ put_off w place count (first_at n + matrix_at + i) (omega arith)
            ∙ ap w (let e : first_at n + matrix_at + i ≡ first_at n + (matrix_at + i) = omega arith in e)

    pub tookOver-read : eqb (w operation_at) write ≡ false → member_of n (kept n w) ≡ took_over (member_of n w)
    unfolding Other known_at pending_at last_at accepted_at
    tookOver-read e =
        tookOver-by (kept n w) (λ i h. refl) (rw e (value_kept n (kept n w) w Other kept-other (last_at n) (omega arith)))

    pub tookOver-write : eqb (w operation_at) write ≡ true
        → member_of n (pasted (last_at n) 8 (from (kept n w) (pending_at n)) (kept n w)) ≡ took_over (member_of n w)
    unfolding Other known_at pending_at last_at accepted_at
    tookOver-write e =
        tookOver-by v (pasted_off (last_at n) 8 (from (kept n w) (pending_at n)) (kept n w))
        (rw e
        (value_of_same (from v (last_at n)) (from (kept n w) (pending_at n))
        (from_pasted_at (last_at n) 8 (from (kept n w) (pending_at n)) (kept n w))
        ∙ value_kept n (kept n w) w Other kept-other (pending_at n) (omega arith)))
      where
        v : ℕ → ℕ
        v = pasted (last_at n) 8 (from (kept n w) (pending_at n)) (kept n w)
