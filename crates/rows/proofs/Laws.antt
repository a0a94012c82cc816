-- What is said once of rows and matrices by value.
use Prim.Native.Nat.{ℕ, ◌+◌, ◌≤◌, ◌<◌}
use mathlib.Core.Path.{◌≡◌, refl, sym, ap, ◌∙◌}
use mathlib.Core.List.{List}
use mathlib.Core.Bool.{Bool, true, false, not, ◌&&◌, ◌||◌}
use lib.Dec.{leb, ltb}
use borrow.Author.Tests.{leb-true, leb-false, lt-ltb, le-ltb}
use lib.ListN.{length, get_or, set, replicate}
use Rattle.lists.specs.Functions.{put, pasted, numbered}
use Rattle.lists.specs.Parts.{words}
use Rattle.lists.proofs.Functions.{on, numbered_at, numbered_put, numbered_padded, numbered_blank, each_step}
use Rattle.lists.proofs.Parts.{seen, seen_replicate, words_set, words_zeros}
use Rattle.model.specs.Rows.{Row as RowOf, zero_row, zero_matrix, below, comparable, Comparison, compared, equal_or_below, crossed}
use Rattle.model.proofs.RowClaims.{by_flags, compared_flags, rows_compared}
use Rattle.model.specs.RecordWords.{row_of}
use Rattle.rows.specs.declared.Row.{Row}
use Rattle.rows.specs.Meaning.{row_in, matrix_in, no_row}

-- the count at a place of the array, and the row at a place of the matrix
pub count_at : (r : Row) (i : ℕ) → i < 12 → row_in r (i + 1) ≡ words r.counts i
unfolding row_in row_of
count_at r i h = numbered_at 12 0 (words r.counts) i h

pub row_at : (m : List Row) (j : ℕ) → j < 12 → matrix_in m (j + 1) ≡ row_in (get_or m j no_row)
unfolding matrix_in
row_at m j h = numbered_at 12 zero_row (λ j. row_in (get_or m j no_row)) j h

-- one count stored
pub count_set : (r s : Row) (i v : ℕ) → i < 12 → i < length r.counts → s.counts ≡ set r.counts i v
    → row_in s ≡ put (row_in r) (i + 1) v
unfolding row_in row_of
count_set r s i v h g e =
    ap (λ l. numbered 12 0 (words l)) e
    ∙ ap (numbered 12 0) (words_set r.counts i v g)
    ∙ numbered_put 12 0 (words r.counts) i v h

-- Comparison entry by entry, by the counts as the arrays hold them.

-- some entry so far or this one exceeds: not all so far and this one are at most their fellows
exceeding : (p : Bool) (x y : ℕ) → (not p || ltb y x) ≡ not (p && leb x y)
exceeding false x y = refl
exceeding true x y = on (leb x y)
    (λ p. rw (p, le-ltb y x (leb-true x y p))) (λ p. rw (p, lt-ltb y x (leb-false x y p)))

-- a flag says whether an entry of a exceeds its fellow in b; one entry more
pub flag_more : (a b : Row) (i : ℕ) → i < 12 → {f : Bool} → f ≡ not (below i (row_in a) (row_in b))
    → (f || ltb (words b.counts i) (words a.counts i)) ≡ not (below (i + 1) (row_in a) (row_in b))
unfolding below
flag_more a b i h e =
    rw (e, each_step i (λ k. leb (row_in a k) (row_in b k)), count_at a i h, count_at b i h)
    (exceeding (below i (row_in a) (row_in b)) (words a.counts i) (words b.counts i))

-- the answer by the two flags over all n entries
pub flags_decide : (n i : ℕ) (a b : Row) → i ≡ n → {f g : Bool} → f ≡ not (below i (row_in a) (row_in b))
    → g ≡ not (below i (row_in b) (row_in a))
    → compared n (row_in a) (row_in b) ≡ by_flags f g
flags_decide n i a b h {f} {g} d e = rw (d, e, h) (compared_flags n (row_in a) (row_in b))

-- The words of the paper, by the answer that is at hand.

module _ (n : ℕ) (a b : Row) {d : Comparison} {t : Bool} where
  pub answer_below : d ≡ compared n (row_in a) (row_in b) → t ≡ equal_or_below d → t ≡ below n (row_in a) (row_in b)
  answer_below e h = h ∙ ap equal_or_below e ∙ sym (rows_compared n (row_in a) (row_in b)).for25

  pub answer_comparable : d ≡ compared n (row_in a) (row_in b) → t ≡ crossed d → not t ≡ comparable n (row_in a) (row_in b)
  answer_comparable e h = ap not (h ∙ ap crossed e) ∙ sym (rows_compared n (row_in a) (row_in b)).for26

-- Zero: `Row::ZERO`, and a matrix of it.

abbrev pub zero_counts : Row
zero_counts = record { counts = replicate 12 0 }

pub zero_row_lem : row_in zero_counts ≡ zero_row
unfolding row_in row_of zero_row
zero_row_lem = ap (numbered 12 0) (words_zeros 12) ∙ numbered_blank 12 0

pub no_row_lem : row_in no_row ≡ zero_row
unfolding row_in row_of zero_row
no_row_lem = ap (numbered 12 0) (words_zeros 0) ∙ numbered_blank 12 0

pub zero_rows : seen row_in no_row (replicate 12 zero_counts) ≡ zero_matrix
unfolding zero_matrix
zero_rows = seen_replicate row_in no_row 12 zero_counts (zero_row_lem ∙ sym no_row_lem) ∙ ap (λ a k. a) no_row_lem

pub zero_matrix_lem : matrix_in (replicate 12 zero_counts) ≡ zero_matrix
unfolding matrix_in zero_matrix
zero_matrix_lem = ap (numbered 12 zero_row) zero_rows ∙ numbered_blank 12 zero_row

-- The first n entries or rows read one by one, the others left zero.

pub row_read : (r : Row) (n : ℕ) (g : ℕ → ℕ) → n ≤ 12 → words r.counts ≡ pasted 0 n g (λ k. 0) → row_in r ≡ row_of n g
unfolding row_in row_of
row_read r n g h e = ap (numbered 12 0) e ∙ numbered_padded 12 n 0 g h

pub matrix_read : (m : List Row) (n : ℕ) (g : ℕ → RowOf) → n ≤ 12 → seen row_in no_row m ≡ pasted 0 n g zero_matrix
    → matrix_in m ≡ numbered n zero_row g
unfolding matrix_in zero_matrix
matrix_read m n g h e = ap (numbered 12 zero_row) e ∙ numbered_padded 12 n zero_row g h
