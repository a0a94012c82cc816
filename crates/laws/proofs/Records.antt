-- Facts about records and how they lie in words, for every n. A record's words are read back as the record, and words that were
-- read are written back as they were.
use Prim.Native.Nat.{ℕ, zero, suc, ◌+◌, ◌*◌, ◌/◌, ◌%◌, ◌≤◌, ◌<◌}
use native.Mathlib.Nat.{suc-mul, mul-le-mul, mul-le-mul_right, div-add-mod', div-lt_iff_lt-mul, mod-lt}
use native.Mathlib.Numerals.{add-one}
use native.Mathlib.Omega.{arith}
use lib.Arith.{digits_lt, digits_div, digits_mod}
use mathlib.Core.Path.{◌≡◌, sym, ap, ◌∙◌}
use mathlib.Core.List.{List, [], ◌∷◌, ◌++◌}
use lib.ListN.{length, length-append, get_or-append}
use Rattle.lists.specs.Functions.{from, within}
use Rattle.lists.specs.Parts.{words, tabulate, listed, replaced}
use Rattle.lists.proofs.Functions.{numbered_at, numbered_same, numbered_next, within_blank, from_at, from_first, from_from}
use Rattle.lists.proofs.Functions.{from_pasted_at, from_pasted_below, from_pasted_above}
use Rattle.lists.proofs.Parts.{length-tabulate, tabulate-at, tabulate-same, tabulate-words, tabulate-append, from_append, words_replaced}
use Rattle.model.specs.Rows.{Row, Matrix, zero_row, zero_matrix}
use Rattle.model.specs.Records.{Value, Rec, zero_value, opening, zero_record, record_within}
use Rattle.model.specs.RecordWords.{record_size, row_of, matrix_of, value_of, record_of, matrix_word, record_words}

-- Sizes.

pub square_small : (n : ℕ) → n ≤ 12 → n * n ≤ 144
square_small n h = mul-le-mul h h

pub record_size-small : (n : ℕ) → n ≤ 12 → record_size n ≤ 156
unfolding record_size
record_size-small n h = omega (arith, square_small n h)

pub length-record_words : (n : ℕ) (r : Rec) → length (record_words n r) ≡ record_size n
unfolding record_words record_size
length-record_words n r = simp (length-append, length-tabulate) (omega arith)

-- The places of row j and of its entry i, both counted from 0, and what stands there.

pub row_next : (n j : ℕ) → (j + 1) * n ≡ j * n + n
row_next n j = rw (add-one, suc-mul)

pub row_within : (n j : ℕ) → j < n → j * n + n ≤ n * n
row_within n j h = rw (← suc-mul) (mul-le-mul_right n h)

pub entry_within : (n j i : ℕ) → j < n → i < n → j * n + i < n * n
entry_within n j i p q = digits_lt p q

pub matrix_word-at : (n : ℕ) (m : Matrix) (j i : ℕ) → i < n → matrix_word n m (j * n + i) ≡ m (j + 1) (i + 1)
unfolding matrix_word
matrix_word-at n m j i h = rw (digits_div j h, digits_mod j h)

-- Equal words where a decoder looks give equal values.

pub row_of_same : (n : ℕ) (v w : ℕ → ℕ) → ((i : ℕ) → i < n → v i ≡ w i) → row_of n v ≡ row_of n w
unfolding row_of
row_of_same n v w h = numbered_same n 0 v w h

pub matrix_of-same : (n : ℕ) (v w : ℕ → ℕ) → ((i : ℕ) → i < n * n → v i ≡ w i) → matrix_of n v ≡ matrix_of n w
unfolding matrix_of from
matrix_of-same n v w h =
    numbered_same n zero_row (λ j. row_of n (from v (j * n))) (λ j. row_of n (from w (j * n)))
    (λ j p. row_of_same n (from v (j * n)) (from w (j * n)) (λ i q. h (j * n + i) (entry_within n j i p q)))

pub value_of_same : (v w : ℕ → ℕ) → ((i : ℕ) → i < 8 → v i ≡ w i) → value_of v ≡ value_of w
unfolding value_of
value_of_same v w h = numbered_same 8 0 v w h

pub record_of-same : (n : ℕ) (v w : ℕ → ℕ) → ((i : ℕ) → i < record_size n → v i ≡ w i) → record_of n v ≡ record_of n w
unfolding record_of record_size from
record_of-same n v w h =
    rw (
      h 0 (omega arith),
      h 1 (omega arith),
      h 2 (omega arith),
      h 3 (omega arith),
      value_of_same (from v 4) (from w 4) (λ i p. h (4 + i) (omega arith)),
      matrix_of-same n (from v 12) (from w 12) (λ i p. h (12 + i) (omega arith)),
    )

-- A record's parts by their places in the words around it.
pub record_of_parts : (n : ℕ) (w : ℕ → ℕ) (a : ℕ) → record_of n (from w a) ≡ record {
  member = w a;
  slot = w (a + 1);
  operation = w (a + 2);
  count = w (a + 3);
  value = value_of (from w (a + 4));
  matrix = matrix_of n (from w (a + 12));
}
unfolding record_of
record_of_parts n w a = rw (from_first w a, from_at w a 1, from_at w a 2, from_at w a 3, from_from w a 4, from_from w a 12)

-- What was laid out is read back.

pub row_of_next : (n : ℕ) (a : Row) → row_of n (λ i. a (i + 1)) ≡ within n 0 a
unfolding row_of
row_of_next n a = numbered_next n 0 a

pub matrix_of-words : (n : ℕ) (m : Matrix) → matrix_of n (matrix_word n m) ≡ within n zero_row (λ j. within n 0 (m j))
unfolding matrix_of from
matrix_of-words n m =
    numbered_same n zero_row (λ j. row_of n (from (matrix_word n m) (j * n))) (λ j. within n 0 (m (j + 1)))
    (λ j p. row_of_same n (from (matrix_word n m) (j * n)) (λ i. m (j + 1) (i + 1)) (λ i q. matrix_word-at n m j i q)
    ∙ row_of_next n (m (j + 1)))
    ∙ numbered_next n zero_row (λ j. within n 0 (m j))

pub value_of_next : (v : Value) → value_of (λ i. v (i + 1)) ≡ within 8 0 v
unfolding value_of
value_of_next v = numbered_next 8 0 v

-- The words of a record: four numbers, then the value, then the matrix.
module _ (n : ℕ) (r : Rec) where
  body : List ℕ
  body = listed 8 r.value ++ tabulate (n * n) (matrix_word n r.matrix)

  after-head : from (words (record_words n r)) 4 ≡ words body
  unfolding record_words body
  after-head = from_append (r.member ∷ r.slot ∷ r.operation ∷ r.count ∷ []) body

  pub head_words : (i : ℕ) → i < 4 → words (record_words n r) i ≡ words (r.member ∷ r.slot ∷ r.operation ∷ r.count ∷ []) i
  unfolding record_words body
  head_words i h = get_or-append (r.member ∷ r.slot ∷ r.operation ∷ r.count ∷ []) body 0 i h

  pub value_words : (i : ℕ) → i < 8 → from (words (record_words n r)) 4 i ≡ r.value (i + 1)
  unfolding body tabulate
  value_words i h =
      ap (λ w. w i) after-head
      ∙ get_or-append (listed 8 r.value) (tabulate (n * n) (matrix_word n r.matrix)) 0 i h
      ∙ tabulate-at 8 (λ i. r.value (i + 1)) i h

  pub matrix_words : (i : ℕ) → i < n * n → from (words (record_words n r)) 12 i ≡ matrix_word n r.matrix i
  unfolding body tabulate
  matrix_words i h =
      ap (λ w. w i) (sym (from_from (words (record_words n r)) 4 8))
      ∙ ap (λ w. from w 8 i) after-head
      ∙ ap (λ w. w i) (from_append (listed 8 r.value) (tabulate (n * n) (matrix_word n r.matrix)))
      ∙ tabulate-at (n * n) (matrix_word n r.matrix) i h

  -- a record written reads back as what the board has of it
  pub record_of-words : record_of n (words (record_words n r)) ≡ record_within n r
  unfolding record_of record_within
  record_of-words =
      rw (
        head_words 0 (omega arith),
        head_words 1 (omega arith),
        head_words 2 (omega arith),
        head_words 3 (omega arith),
        value_of_same (from (words (record_words n r)) 4) (λ i. r.value (i + 1)) value_words ∙ value_of_next r.value,
        matrix_of-same n (from (words (record_words n r)) 12) (matrix_word n r.matrix) matrix_words ∙ matrix_of-words n r.matrix,
      )

-- Words that were read are written back as they were.

pub row_of_at : (n : ℕ) (w : ℕ → ℕ) (i : ℕ) → i < n → row_of n w (i + 1) ≡ w i
unfolding row_of
row_of_at n w i h = numbered_at n 0 w i h

pub matrix_of-at : (n : ℕ) (w : ℕ → ℕ) (j : ℕ) → j < n → matrix_of n w (j + 1) ≡ row_of n (from w (j * n))
unfolding matrix_of
matrix_of-at n w j h = numbered_at n zero_row (λ j. row_of n (from w (j * n))) j h

pub value_of_at : (w : ℕ → ℕ) (i : ℕ) → i < 8 → value_of w (i + 1) ≡ w i
unfolding value_of
value_of_at w i h = numbered_at 8 0 w i h

pub square_pos : (n i : ℕ) → i < n * n → 0 < n
square_pos zero i h = absurd (omega arith)
square_pos (suc n) i h = omega arith

pub matrix_word_of : (n : ℕ) (w : ℕ → ℕ) (i : ℕ) → i < n * n → matrix_word n (matrix_of n w) i ≡ w i
unfolding matrix_word from
matrix_word_of n w i h =
    ap (λ a. a (i % n + 1)) (matrix_of-at n w (i / n) ((div-lt_iff_lt-mul (square_pos n i h)).1 h))
    ∙ row_of_at n (from w (i / n * n)) (i % n) (mod-lt i (square_pos n i h))
    ∙ ap w (div-add-mod' i n)

pub row_listed : (n : ℕ) (w : ℕ → ℕ) → listed n (row_of n w) ≡ tabulate n w
row_listed n w = tabulate-same n (λ i. row_of n w (i + 1)) w (row_of_at n w)

pub value_listed : (w : ℕ → ℕ) → listed 8 (value_of w) ≡ tabulate 8 w
value_listed w = tabulate-same 8 (λ i. value_of w (i + 1)) w (value_of_at w)

pub matrix_listed : (n : ℕ) (w : ℕ → ℕ) → tabulate (n * n) (matrix_word n (matrix_of n w)) ≡ tabulate (n * n) w
matrix_listed n w = tabulate-same (n * n) (matrix_word n (matrix_of n w)) w (matrix_word_of n w)

pub record_words_of : (n : ℕ) (w : ℕ → ℕ) → record_words n (record_of n w) ≡ tabulate (record_size n) w
unfolding record_words record_of record_size tabulate
record_words_of n w =
    ap (λ l. tabulate 4 w ++ (l ++ tabulate (n * n) (matrix_word n (matrix_of n (from w 12)))))
    (value_listed (from w 4))
    ∙ ap (λ l. tabulate 4 w ++ (tabulate 8 (from w 4) ++ l))
    (matrix_listed n (from w 12))
    ∙ ap (λ f. tabulate 4 w ++ (tabulate 8 (from w 4) ++ tabulate (n * n) f)) (sym (from_from w 4 8))
    ∙ ap (λ l. tabulate 4 w ++ l) (sym (tabulate-append 8 (n * n) (from w 4)))
    ∙ sym (tabulate-append 4 (8 + n * n) w)
    ∙ ap (λ k. tabulate k w) (let e : 4 + (8 + n * n) ≡ 12 + n * n = omega arith in e)

pub record_words-whole : (n : ℕ) (l : List ℕ) → length l ≡ record_size n → record_words n (record_of n (words l)) ≡ l
record_words-whole n l h = record_words_of n (words l) ∙ ap (λ k. tabulate k (words l)) (sym h) ∙ tabulate-words l

-- What a board has of a record: a record that was read is all there, and what a board has not is never written.

pub within_read : (n : ℕ) (w : ℕ → ℕ) → record_within n (record_of n w) ≡ record_of n w
within_read n w =
    sym (record_of-words n (record_of n w))
    ∙ ap (λ l. record_of n (words l)) (record_words_of n w)
    ∙ record_of-same n (words (tabulate (record_size n) w)) w (tabulate-at (record_size n) w)

pub words_within : (n : ℕ) (r : Rec) → record_words n (record_within n r) ≡ record_words n r
words_within n r =
    ap (record_words n) (sym (record_of-words n r)) ∙ record_words-whole n (record_words n r) (length-record_words n r)

pub within_zero_matrix : (n : ℕ) → within n zero_row (λ j. within n 0 (zero_matrix j)) ≡ zero_matrix
unfolding zero_matrix zero_row
within_zero_matrix n = ap (λ a. within n zero_row (λ j. a)) (within_blank n 0) ∙ within_blank n zero_row

pub within_zero_value : within 8 0 zero_value ≡ zero_value
unfolding zero_value
within_zero_value = within_blank 8 0

pub within_opening : (n slot : ℕ) → record_within n (opening slot) ≡ opening slot
unfolding record_within opening
within_opening n slot = rw (within_zero_value, within_zero_matrix n)

pub within_zero_record : (n : ℕ) → record_within n zero_record ≡ zero_record
unfolding record_within zero_record
within_zero_record n = rw (within_zero_value, within_zero_matrix n)

-- A part of a list replaced, and a record read: where a record was written, before the part, and after it.

pub record_of-replaced : (n : ℕ) (l : List ℕ) (a : ℕ) (r : Rec) → a + record_size n ≤ length l
    → record_of n (from (words (replaced l a (record_words n r))) a) ≡ record_within n r
record_of-replaced n l a r fits =
    record_of-same n (from (words (replaced l a (record_words n r))) a) (words (record_words n r))
    (λ i h. ap (λ w. from w a i) (words_replaced l a (record_words n r) (rw length-record_words fits))
    ∙ from_pasted_at a (length (record_words n r)) (words (record_words n r)) (words l) i (rw length-record_words h))
    ∙ record_of-words n r

module _ (n : ℕ) (l : List ℕ) (a : ℕ) (p : List ℕ) (fits : a + length p ≤ length l) (b : ℕ) where
  pub record_of-before : b + record_size n ≤ a → record_of n (from (words (replaced l a p)) b) ≡ record_of n (from (words l) b)
  record_of-before h =
      record_of-same n (from (words (replaced l a p)) b) (from (words l) b)
      (λ i q. ap (λ w. from w b i) (words_replaced l a p fits) ∙ from_pasted_below a (length p) (words p) (words l) b i (omega arith))

  pub record_of-after : a + length p ≤ b → record_of n (from (words (replaced l a p)) b) ≡ record_of n (from (words l) b)
  record_of-after h =
      ap (λ w. record_of n (from w b)) (words_replaced l a p fits)
      ∙ ap (record_of n) (from_pasted_above a (length p) (words p) (words l) b h)
