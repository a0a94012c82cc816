-- Slices that stand beside the block, the entries, the bytes or the output: a value, records, fields, a place for what is answered. One
-- that has not the words that are due is refused before anything else: the call answers 2, and all that was lent stays as it was.
-- Document 01: "2 wrong length"; "Each leaves all that was lent as before and returns only its number".
use Rattle.std.specs.Prelude.{ℕ, cond, List, length, ◌==◌}

-- what the call makes of something, where the slice l stands beside: as `called` says if l has the words due, else `refused`
unfoldable pub beside : {A : Type 0} → List ℕ → ℕ → A → A → A
beside l due refused called = cond (length l == due) called refused

-- the same with two slices beside
unfoldable pub beside_two : {A : Type 0} → List ℕ → ℕ → List ℕ → ℕ → A → A → A
beside_two l due m due_too refused called = beside l due refused (beside m due_too refused called)
