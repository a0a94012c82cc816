-- Lists of words, and lists with one part replaced.
use Rattle.std.specs.Prelude.{ℕ, zero, suc, ◌+◌, List, [], ◌∷◌, ◌++◌, length, get_or, take, drop}

-- the word at each place of a list, and 0 past its end
abbrev pub words : List ℕ → ℕ → ℕ
words l i = get_or l i 0

-- the list of f's first n values
unfoldable pub tabulate : ℕ → (ℕ → ℕ) → List ℕ
tabulate zero f = []
tabulate (suc n) f = f zero ∷ tabulate n (λ i. f (suc i))

-- the list of f at 1 to n
abbrev pub listed : ℕ → (ℕ → ℕ) → List ℕ
listed n f = tabulate n (λ i. f (i + 1))

-- l with the list p in the places from a on: the shape of a slice after `&mut l[a..b]` was lent and p came back
abbrev pub replaced : List ℕ → ℕ → List ℕ → List ℕ
replaced l a p = take a l ++ (p ++ drop (length p) (drop a l))
