-- How many pairs of counts the checks of a reply look at (Member.antt has the checks). Document 02, (i): "The number of pairs looked at is
-- returned with the verdict. A pair is two counts compared". Member i takes the reply, r is its slot.
use Rattle.std.specs.Prelude.{ℕ, ◌+◌, ◌*◌, Bool, cond, ◌||◌, eqb, leb}
use Rattle.lists.specs.Functions.{looked}
use Rattle.model.specs.Rows.{Matrix, below, matrix_below}
use Rattle.model.specs.Records.{Rec}
use Rattle.model.specs.Member.{Member, entry22, row26, row27, halt_number}

-- so many pairs at every other place than one: where a check skips, it compares nothing
abbrev pub otherwise : ℕ → ℕ → ℕ → ℕ
otherwise skipped pairs k = cond (eqb k skipped) 0 pairs

-- "check 22 has n − 1": every k other than i, "and in 22 and 27 the failing pair is the last looked at"
unfoldable pub pairs22 : ℕ → ℕ → ℕ → Matrix → Matrix → ℕ
pairs22 n i r known newest = looked n (entry22 i r known newest) (otherwise i 1)

-- "23 one"
unfoldable pub pairs23 : ℕ
pairs23 = 1

-- 25's rows: "in 25 and 26 the row that fails is looked at to its end"
abbrev pub row25 : ℕ → Matrix → Matrix → ℕ → Bool
row25 n stored newest j = below n (stored j) (newest j)

unfoldable pub row_pairs25 : ℕ → Matrix → Matrix → ℕ
row_pairs25 n stored newest = looked n (row25 n stored newest) (λ j. n)

-- "25 n² + 1": the rows, "and the pair at r in row r is 25's last, looked at only where no row failed"
unfoldable pub pairs25 : ℕ → Matrix → Matrix → ℕ
pairs25 n stored newest = row_pairs25 n stored newest + cond (matrix_below n stored newest) 1 0

-- "26 n for each other row"
unfoldable pub pairs26 : ℕ → ℕ → Matrix → Matrix → ℕ
pairs26 n r known newest = looked n (row26 n r known newest) (otherwise r n)

-- "27 n − 1": every other row
unfoldable pub pairs27 : ℕ → ℕ → ℕ → (ℕ → ℕ) → Matrix → ℕ
pairs27 n i r accepted newest = looked n (row27 i r accepted newest) (otherwise r 1)

-- "Checks run in order": one is made where none before it failed, so where the reply passes, or halts with its number or a later one
unfoldable pub if_made : ℕ → ℕ → ℕ → ℕ
if_made halt number pairs = cond (eqb halt 0 || leb number halt) pairs 0

-- the pairs of all the checks that are made; 21 and 24 compare no counts
unfoldable pub halt_pairs : ℕ → ℕ → Member → Rec → Rec → ℕ → ℕ
halt_pairs n i m newest stored seals =
    let halt = halt_number n i m newest stored seals in
    if_made halt 22 (pairs22 n i m.slot m.known newest.matrix)
    + if_made halt 23 pairs23
    + if_made halt 25 (pairs25 n stored.matrix newest.matrix)
    + if_made halt 26 (pairs26 n m.slot m.known newest.matrix)
    + if_made halt 27 (pairs27 n i m.slot m.accepted newest.matrix)

-- the ceiling: "The number is never above 2n² + n, and an accepted reply gives exactly that"
unfoldable pub most_pairs : ℕ → ℕ
most_pairs n = 2 * (n * n) + n
