-- What is said once of records by value.
use Prim.Native.Nat.{ℕ, ◌+◌, ◌*◌, ◌≤◌, ◌<◌, min}
use mathlib.Core.Path.{◌≡◌, refl, sym, ap, ◌∙◌}
use native.Mathlib.Omega.{arith}
use mathlib.Core.Bool.{cond}
use lib.Dec.{ltb}
use borrow.Author.Tests.{ltb-true, ltb-false}
use mathlib.Core.List.{List}
use lib.ListN.{length, get_or, set, replicate, length-set}
use Rattle.lists.specs.Functions.{numbered, pasted, put}
use Rattle.lists.specs.Parts.{words, replaced}
use Rattle.lists.proofs.Functions.{on, put_same, pasted_more, pasted_above, numbered_blank, pasted_one, pasted_join, from_at}
use Rattle.lists.proofs.Parts.{words_set, words_zeros, words_more, replaced_by}
use Rattle.model.specs.Records.{zero_value, opening, zero_record}
use Rattle.model.specs.RecordWords.{record_size, value_of, matrix_word, record_words}
use Rattle.laws.proofs.Records.{row_next, matrix_word-at, length-record_words, value_words, matrix_words, value_of_at}
use Rattle.rows.specs.declared.Row.{Row}
use Rattle.rows.specs.Meaning.{matrix_in, no_row}
use Rattle.rows.proofs.Laws.{zero_counts, zero_matrix_lem, count_at, row_at}
use Rattle.records.specs.declared.Record.{Record}
use Rattle.records.specs.Meaning.{record_in}

-- a record with count, value and matrix zero
abbrev pub blank : ℕ → ℕ → ℕ → Record
blank member slot operation = record {
  member = member;
  slot = slot;
  operation = operation;
  count = 0;
  value = replicate 8 0;
  matrix = replicate 12 zero_counts;
}

pub zero_value_lem : value_of (words (replicate 8 0)) ≡ zero_value
unfolding value_of zero_value
zero_value_lem = ap (numbered 8 0) (words_zeros 8) ∙ numbered_blank 8 0

pub blank_zero : record_in (blank 0 0 0) ≡ zero_record
unfolding record_in zero_record
blank_zero = rw (zero_value_lem, zero_matrix_lem)

pub blank_opening : (slot : ℕ) → record_in (blank slot slot 2) ≡ opening slot
unfolding record_in opening
blank_opening slot = rw (zero_value_lem, zero_matrix_lem)

-- one row more of a matrix stored
pub row_stored : (m : List Row) (n j a : ℕ) (w : ℕ → ℕ) → n ≤ 12 → j < n
    → pasted (a + j * n) n (words (get_or m j no_row).counts) (pasted a (j * n) (matrix_word n (matrix_in m)) w)
    ≡ pasted a ((j + 1) * n) (matrix_word n (matrix_in m)) w
row_stored m n j a w h p =
    pasted_join a (j * n) n (matrix_word n (matrix_in m)) (words (get_or m j no_row).counts) w
    (λ i q. sym
    (matrix_word-at n (matrix_in m) j i q ∙ ap (λ r. r (i + 1)) (row_at m j (omega arith)) ∙ count_at (get_or m j no_row) i (omega arith)))
    ∙ ap (λ k. pasted a k (matrix_word n (matrix_in m)) w) (sym (row_next n j))

-- A record stored part by part: its four numbers, its value, its matrix.

abbrev pub numbers : Record → List ℕ → ℕ → List ℕ
numbers r l a = set (set (set (set l a r.member) (a + 1) r.slot) (a + 2) r.operation) (a + 3) r.count

module _ (n : ℕ) (r : Record) (l : List ℕ) (a : ℕ) (fits : a + record_size n ≤ length l) where
  wanted : ℕ → ℕ
  wanted = words (record_words n (record_in r))

  numbers-stored : words (numbers r l a) ≡ pasted a 4 wanted (words l)
  unfolding record_size wanted record_words record_in
  numbers-stored =
      next 3 (set (set (set l a r.member) (a + 1) r.slot) (a + 2) r.operation) (omega arith) (simp length-set)
      (next 2 (set (set l a r.member) (a + 1) r.slot) (omega arith) (simp length-set)
      (next 1 (set l a r.member) (omega arith) (simp length-set)
      (words_set l a r.member (omega arith) ∙ pasted_one a wanted (words l))))
    where
      next : (i : ℕ) (m : List ℕ) → i < 4 → length m ≡ length l → words m ≡ pasted a i wanted (words l)
          → words (set m (a + i) (wanted i)) ≡ pasted a (i + 1) wanted (words l)
      next i m h same e = words_more m a i (a + i) (wanted i) wanted (words l) e refl (omega (arith, same)) refl

  value-place : (i : ℕ) → i < 8 → words r.value i ≡ wanted (4 + i)
  unfolding wanted record_in
  value-place i h = sym (sym (from_at wanted 4 i) ∙ value_words n (record_in r) i h ∙ value_of_at (words r.value) i h)

  matrix-place : (i : ℕ) → i < n * n → matrix_word n (matrix_in r.matrix) i ≡ wanted (12 + i)
  unfolding wanted record_in
  matrix-place i h = sym (sym (from_at wanted 12 i) ∙ matrix_words n (record_in r) i h)

  pub record_stored : (s t : List ℕ) → words s ≡ pasted (a + 4) 8 (words r.value) (words (numbers r l a))
      → words t ≡ pasted (a + 12) (n * n) (matrix_word n (matrix_in r.matrix)) (words s) → length t ≡ length l
      → t ≡ replaced l a (record_words n (record_in r))
  unfolding wanted record_size
  record_stored s t p q e =
      replaced_by l t a (record_words n (record_in r)) (rw length-record_words fits) e
      (q
      ∙ ap (pasted (a + 12) (n * n) (matrix_word n (matrix_in r.matrix))) (p
      ∙ ap (pasted (a + 4) 8 (words r.value)) numbers-stored
      ∙ pasted_join a 4 8 wanted (words r.value) (words l) value-place)
      ∙ pasted_join a 12 (n * n) wanted (matrix_word n (matrix_in r.matrix)) (words l) matrix-place
      ∙ ap (λ k. pasted a k wanted (words l)) (sym (length-record_words n (record_in r))))

-- A row of n counts, of which i were looked at: those past the first n change nothing.

pub none_yet : (n : ℕ) → 0 ≡ min 0 n
none_yet n = omega arith

pub count_stored : (i n at : ℕ) (g w v u : ℕ → ℕ) → v ≡ pasted at (min i n) g w → u ≡ cond (ltb i n) (put v (at + i) (g i)) v
    → u ≡ pasted at (min (i + 1) n) g w
count_stored i n at g w v u e f = on (ltb i n)
    (λ p.
    let h = ltb-true i n p in
    let a : min i n ≡ i = omega arith in
    let b : i + 1 ≡ min (i + 1) n = omega arith in
    let s : u ≡ put v (at + i) (g i) = rw p at f in
    s ∙ ap (λ v. put v (at + i) (g i)) (e ∙ ap (λ k. pasted at k g w) a) ∙ pasted_more at i g w ∙ ap (λ k. pasted at k g w) b)
    (λ p.
    let h = ltb-false i n p in
    let a : min i n ≡ min (i + 1) n = omega arith in
    let s : u ≡ v = rw p at f in
    s ∙ e ∙ ap (λ k. pasted at k g w) a)

pub count_loaded : (i n : ℕ) (g v : ℕ → ℕ) (x : ℕ) → v ≡ pasted 0 (min i n) g (λ k. 0) → x ≡ cond (ltb i n) (g i) 0
    → put v i x ≡ pasted 0 (min (i + 1) n) g (λ k. 0)
count_loaded i n g v x e f = on (ltb i n)
    (λ p. count_stored i n 0 g (λ k. 0) v (put v i x) e
    (rw p (ap (put v i) (rw p at f) ∙ ap (λ k. put v k (g i)) (let a : i ≡ 0 + i = omega arith in a))))
    (λ p.
    let h = ltb-false i n p in
    let a : min i n ≡ min (i + 1) n = omega arith in
    let zero : v i ≡ 0 = ap (λ v. v i) e ∙ pasted_above 0 (min i n) g (λ k. 0) i (omega arith) in
    let same : x ≡ v i = (let s : x ≡ 0 = rw p at f in s) ∙ sym zero in
    ap (put v i) same ∙ put_same v i ∙ e ∙ ap (λ k. pasted 0 k g (λ k. 0)) a)
