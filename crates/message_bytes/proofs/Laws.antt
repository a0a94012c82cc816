-- What is said once of bytes: a few stored one by one, a row and a matrix in them, a record written part by part.
use Prim.Native.Nat.{ℕ, suc, ◌+◌, ◌*◌, ◌/◌, ◌≤◌, ◌<◌}
use mathlib.Core.Path.{◌≡◌, refl, sym, ap, ◌∙◌}
use mathlib.Core.List.{List, [], ◌∷◌}
use native.Mathlib.Omega.{arith}
use lib.ListN.{length, get_or, set, length-set, get_or-append}
use Rattle.lists.specs.Functions.{from, pasted, numbered}
use Rattle.lists.specs.Parts.{words, tabulate}
use Rattle.lists.proofs.Functions.{pasted_one, pasted_join, pasted_same, numbered_same, numbered_padded}
use Rattle.lists.proofs.Parts.{words_set, words_more, tabulate-at}
use Rattle.model.specs.RecordWords.{row_of, matrix_word, record_words}
use Rattle.model.specs.Messages.{number_length, byte_parts, head_length, value_length, record_length, number_bytes, byte_in, record_byte}
use Rattle.laws.proofs.Records.{row_next, matrix_word-at, head_words, value_words, matrix_words, value_of_at}
use Rattle.laws.proofs.Messages.{byte_in-at, byte_in_from, byte_in-same, byte_first, byte_further}
use Rattle.rows.specs.declared.Row.{Row}
use Rattle.rows.specs.Meaning.{row_in, matrix_in, no_row}
use Rattle.rows.proofs.Laws.{count_at, row_at}
use Rattle.records.specs.declared.Record.{Record}
use Rattle.records.specs.Meaning.{record_in}

-- A few bytes stored one by one: p's, from the place a + i on.

abbrev pub stores : List ℕ → ℕ → ℕ → List ℕ → List ℕ
stores l a i [] = l
stores l a i (x ∷ p) = stores (set l (a + i) x) a (i + 1) p

stores_more : (m : List ℕ) (a i : ℕ) (p : List ℕ) (g w : ℕ → ℕ) → a + (i + length p) ≤ length m → words m ≡ pasted a i g w
    → ((k : ℕ) → k < length p → words p k ≡ g (i + k)) → words (stores m a i p) ≡ pasted a (i + length p) g w
stores_more m a i [] g w fits e h = e ∙ ap (λ k. pasted a k g w) (let s : i ≡ i + 0 = omega arith in s)
stores_more m a i (x ∷ p) g w fits e h =
    let first : x ≡ g i = h 0 (omega arith) ∙ ap g (let s : i + 0 ≡ i = omega arith in s) in
    stores_more (set m (a + i) x) a (i + 1) p g w (simp length-set (omega arith))
    (words_more m a i (a + i) x g w e refl (omega arith) first)
    (λ k q. h (suc k) (omega arith) ∙ ap g (let s : i + suc k ≡ i + 1 + k = omega arith in s))
    ∙ ap (λ k. pasted a k g w) (let s : i + 1 + length p ≡ i + suc (length p) = omega arith in s)

-- the first of them at a itself
pub stored : (l : List ℕ) (a x : ℕ) (p : List ℕ) → a + suc (length p) ≤ length l
    → words (stores (set l a x) a 1 p) ≡ pasted a (suc (length p)) (words (x ∷ p)) (words l)
stored l a x p fits =
    stores_more (set l a x) a 1 p (words (x ∷ p)) (words l) (simp length-set (omega arith))
    (words_set l a x (omega arith) ∙ pasted_one a (words (x ∷ p)) (words l))
    (λ k h. ap (words (x ∷ p)) (let s : suc k ≡ 1 + k = omega arith in s))
    ∙ ap (λ k. pasted a k (words (x ∷ p)) (words l)) (let s : 1 + length p ≡ suc (length p) = omega arith in s)

-- a row whose twelve counts are named one by one
pub row_named : (r : Row) (n : ℕ) (g : ℕ → ℕ) → n ≤ 12 → r.counts ≡ tabulate 12 (pasted 0 n g (λ k. 0)) → row_in r ≡ row_of n g
unfolding row_in row_of
row_named r n g h e =
    ap (λ l. numbered 12 0 (words l)) e
    ∙ numbered_same 12 0 (words (tabulate 12 (pasted 0 n g (λ k. 0)))) (pasted 0 n g (λ k. 0)) (tabulate-at 12 (pasted 0 n g (λ k. 0)))
    ∙ numbered_padded 12 n 0 g h

-- one row more of a matrix written
pub row_written : (m : List Row) (n j a : ℕ) (w : ℕ → ℕ) → n ≤ 12 → j < n
    → pasted (a + j * n * 4) (n * 4) (byte_in (words (get_or m j no_row).counts))
    (pasted a (j * n * 4) (byte_in (matrix_word n (matrix_in m))) w)
    ≡ pasted a ((j + 1) * n * 4) (byte_in (matrix_word n (matrix_in m))) w
unfolding from
row_written m n j a w h p =
    pasted_join a (j * n * 4) (n * 4) (byte_in held) (byte_in row) w
    (λ i q. byte_in-same row (from held (j * n)) i (sym (same (i / 4) (omega arith))) ∙ sym (byte_in_from held (j * n) i))
    ∙ ap (λ k. pasted a k (byte_in held) w) (let s : j * n * 4 + n * 4 ≡ (j + 1) * n * 4 = omega (arith, row_next n j) in s)
  where
    held : ℕ → ℕ
    held = matrix_word n (matrix_in m)

    row : ℕ → ℕ
    row = words (get_or m j no_row).counts

    same : (i : ℕ) → i < n → held (j * n + i) ≡ row i
    same i q =
        matrix_word-at n (matrix_in m) j i q
        ∙ ap (λ r. r (i + 1)) (row_at m j (omega arith))
        ∙ count_at (get_or m j no_row) i (omega arith)

-- A record written part by part: its three bytes, its count, its value, its matrix.

-- where the matrix begins
abbrev matrix_from : ℕ
matrix_from = head_length + value_length

module _ (n : ℕ) (r : Record) where
  held : ℕ → ℕ
  held = words (record_words n (record_in r))

  first-bytes : (i : ℕ) → i < byte_parts → words (r.member ∷ r.slot ∷ r.operation ∷ []) i ≡ record_byte held i
  unfolding held record_in
  first-bytes i h =
      sym (byte_first held i h
      ∙ head_words n (record_in r) i (omega arith)
      ∙ get_or-append (r.member ∷ r.slot ∷ r.operation ∷ []) (r.count ∷ []) 0 i h)

  count-bytes : (i : ℕ) → i < 4 → words (number_bytes r.count) i ≡ record_byte held (byte_parts + i)
  unfolding held record_in from
  count-bytes i h =
      let e : 0 * 4 + i ≡ i = omega arith in
      ap (λ x. words (number_bytes x) i) (sym (head_words n (record_in r) byte_parts (omega arith)))
      ∙ sym (byte_in-at (from held byte_parts) 0 i h)
      ∙ ap (byte_in (from held byte_parts)) e
      ∙ sym (byte_further held 0 i)
      ∙ ap (λ k. record_byte held (byte_parts + k)) e

  value-bytes : (i : ℕ) → i < value_length → byte_in (words r.value) i ≡ record_byte held (head_length + i)
  unfolding held record_in
  value-bytes i h =
      let e = value_words n (record_in r) (i / 4) (omega arith) ∙ value_of_at (words r.value) (i / 4) (omega arith) in
      byte_in-same (words r.value) (from held 4) i (sym e)
      ∙ sym (byte_further held 1 i)
      ∙ ap (record_byte held) (let e : byte_parts + (1 * 4 + i) ≡ head_length + i = omega arith in e)

  matrix-bytes : (i : ℕ) → i < n * n * 4 → byte_in (matrix_word n (matrix_in r.matrix)) i ≡ record_byte held (matrix_from + i)
  unfolding held record_in
  matrix-bytes i h =
      byte_in-same (matrix_word n (matrix_in r.matrix)) (from held 12) i (sym (matrix_words n (record_in r) (i / 4) (omega arith)))
      ∙ sym (byte_further held 9 i)
      ∙ ap (record_byte held) (let e : byte_parts + (9 * 4 + i) ≡ matrix_from + i = omega arith in e)

  pub record_written : (l : List ℕ) (a : ℕ) → a + record_length n ≤ length l → (s t u : List ℕ)
      → words s ≡ pasted (a + byte_parts) number_length (words (number_bytes r.count))
      (words (stores (set l a r.member) a 1 (r.slot ∷ r.operation ∷ [])))
      → words t ≡ pasted (a + head_length) value_length (byte_in (words r.value)) (words s)
      → words u ≡ pasted (a + matrix_from) (n * n * 4) (byte_in (matrix_word n (matrix_in r.matrix))) (words t)
      → words u ≡ pasted a (record_length n) (record_byte (words (record_words n (record_in r)))) (words l)
  unfolding held record_length
  record_written l a fits s t u p q e =
      e
      ∙ ap (pasted (a + matrix_from) (n * n * 4) (byte_in (matrix_word n (matrix_in r.matrix)))) (q
      ∙ ap (pasted (a + head_length) value_length (byte_in (words r.value))) (p
      ∙ ap (pasted (a + byte_parts) number_length (words (number_bytes r.count)))
      (stored l a r.member (r.slot ∷ r.operation ∷ []) (omega arith)
      ∙ pasted_same a byte_parts (words (r.member ∷ r.slot ∷ r.operation ∷ [])) (record_byte held) (words l) first-bytes)
      ∙ pasted_join a byte_parts number_length (record_byte held) (words (number_bytes r.count)) (words l) count-bytes)
      ∙ pasted_join a head_length value_length (record_byte held) (byte_in (words r.value)) (words l) value-bytes)
      ∙ pasted_join a matrix_from (n * n * 4) (record_byte held) (byte_in (matrix_word n (matrix_in r.matrix))) (words l) matrix-bytes
      ∙ ap (λ k. pasted a k (record_byte held) (words l)) (let d : matrix_from + n * n * 4 ≡ record_length n = omega arith in d)
