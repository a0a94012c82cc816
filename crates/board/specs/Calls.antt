-- What the public calls promise: the number, the words after the call, and the board that they stand for.
use Rattle.std.specs.Prelude.{ℕ, ◌≡◌, List}
use Rattle.model.specs.Kinds.{Kind}
use Rattle.model.specs.Runs.{Call}
use Rattle.model.specs.TableCalls.{board_in, table_answer, table_after, table_board}

abbrev pub OnTable : Kind → List ℕ → Call → ℕ → List ℕ → Type 0
OnTable kind l call k exit = (k ≡ table_answer kind l call) × ((exit ≡ table_after kind l call) × (board_in exit ≡ table_board kind l call))
