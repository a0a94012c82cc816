-- What is claimed of the comparison of two rows (Rows.antt), document 02, (d): when each answer is so, by the entries 1 to n alone; and
-- what the words of the paper are by the answer.
use Rattle.std.specs.Prelude.{ℕ, ◌≤◌, ◌≡◌, cond, not, ◌↔◌}
use Rattle.model.specs.Rows.{Row, below, comparable, larger}
use Rattle.model.specs.Rows.{Comparison, is_equal, is_below, is_above, is_crossed, compared, equal_or_below, crossed}

-- every entry equals its fellow
abbrev pub EachEqual : ℕ → Row → Row → Type 0
EachEqual n a b = (k : ℕ) → 1 ≤ k → k ≤ n → a k ≡ b k

-- "no entry exceeds its fellow"
abbrev pub NoneExceeds : ℕ → Row → Row → Type 0
NoneExceeds n a b = (k : ℕ) → 1 ≤ k → k ≤ n → a k ≤ b k

-- when an answer is so; "below and above only for rows that are not equal", and crossed where neither is below the other
abbrev pub IsSo : ℕ → Row → Row → Comparison → Type 0
IsSo n a b is_equal = EachEqual n a b
IsSo n a b is_below = NoneExceeds n a b × (EachEqual n a b → ⊥)
IsSo n a b is_above = NoneExceeds n b a × (EachEqual n a b → ⊥)
IsSo n a b is_crossed = (NoneExceeds n a b → ⊥) × (NoneExceeds n b a → ⊥)

pub record RowsCompared (n : ℕ) (a b : Row) : Type 0 where
  -- "each exactly when it is so"
  pub exactly : (answer : Comparison) → (compared n a b ≡ answer) ↔ IsSo n a b answer
  -- "Checks 25 and 26 and the building of a matrix use the new answer. Every halt and every matrix is unchanged."
  pub for25 : below n a b ≡ equal_or_below (compared n a b)
  pub for26 : comparable n a b ≡ not (crossed (compared n a b))
  pub for_matrix : larger n a b ≡ cond (equal_or_below (compared n a b)) b a
