-- The C interface: a value and what is returned stand in slices, whose length is judged after the table's own numbers.
use Rattle.std.specs.Prelude.{ℕ, ◌≡◌, cond, not, List, ◌∷◌, eqb, length}
use Rattle.std.proofs.Math.Option.{Option, none, some}
use Rattle.lists.specs.Parts.{words, listed}
use Rattle.model.specs.Kinds.{Kind, is_size, concur}
use Rattle.model.specs.Records.{Value, zero_value}
use Rattle.model.specs.Runs.{Call, answer_of, done}
use Rattle.model.specs.Table.{value_size, table_size, table_words}
use Rattle.model.specs.TableCalls.{board_in, call_number, table_returns}
use Rattle.model.specs.Numbers.{or_else}
use Rattle.model.specs.Halves.{unless_refused}

-- how many words a table has: none where n is not 1 to 12
unfoldable pub words_for : ℕ → ℕ
words_for n = cond (is_size n) (table_size n) 0

-- a call with a slice beside the table, which is `long` where it should be `due` words: 3, 2, 3 of the table, a begin's 1, 2 of the slice,
-- the call's own from 4 on
unfoldable pub answer_beside : Kind → ℕ → ℕ → List ℕ → Call → ℕ
answer_beside kind long due l call =
    or_else (call_number kind l call)
    (cond (not (eqb long due)) 2
    (answer_of kind (words l 0) (board_in l) call))

unfoldable pub after_beside : Kind → ℕ → ℕ → List ℕ → Call → List ℕ
after_beside kind long due l call =
    let n = words l 0 in
    unless_refused (answer_beside kind long due l call) l (table_words n (done n (board_in l) call))

-- what such a call promises: its number, and the table after it
abbrev pub Beside : Kind → ℕ → ℕ → List ℕ → Call → ℕ → List ℕ → Type 0
Beside kind long due l call k exit = (k ≡ answer_beside kind long due l call) × (exit ≡ after_beside kind long due l call)

-- nine words: 1 and the value, or 0 and eight zeros
unfoldable pub returned_words : Option Value → List ℕ
returned_words none = 0 ∷ listed value_size zero_value
returned_words (some v) = 1 ∷ listed value_size v

abbrev pub returned_size : ℕ
returned_size = 9

-- the slice after a deliver: untouched on a refusal
unfoldable pub returned_after : List ℕ → List ℕ → Call → List ℕ
returned_after returned l call =
    unless_refused (answer_beside concur (length returned) returned_size l call) returned (returned_words (table_returns concur l call))
