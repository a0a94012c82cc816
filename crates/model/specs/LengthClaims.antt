-- What is claimed of the lengths of messages. Messages.antt puts each together from the lengths of what a message holds; here are the sums
-- that document 01 publishes, and the constant table of them for kinds 1 to 4 and n from 1 to 12.
use Rattle.std.specs.Prelude.{ℕ, ◌+◌, ◌*◌, ◌≡◌, List, [], ◌∷◌, ◌++◌}
use Rattle.lists.specs.Parts.{listed}
use Rattle.model.specs.Messages.{length_of}

-- "Lengths by kind and n stand in a constant table": for each kind, n from 1 to 12
unfoldable pub published_lengths : List ℕ
published_lengths =
    (9 ∷ 9 ∷ 9 ∷ 9 ∷ 9 ∷ 9 ∷ 9 ∷ 9 ∷ 9 ∷ 9 ∷ 9 ∷ 9 ∷ [])
    ++ ((89 ∷ 113 ∷ 153 ∷ 209 ∷ 281 ∷ 369 ∷ 473 ∷ 593 ∷ 729 ∷ 881 ∷ 1049 ∷ 1233 ∷ [])
    ++ ((46 ∷ 58 ∷ 78 ∷ 106 ∷ 142 ∷ 186 ∷ 238 ∷ 298 ∷ 366 ∷ 442 ∷ 526 ∷ 618 ∷ [])
    ++ (3 ∷ 3 ∷ 3 ∷ 3 ∷ 3 ∷ 3 ∷ 3 ∷ 3 ∷ 3 ∷ 3 ∷ 3 ∷ 3 ∷ [])))

pub record LengthsAsPublished : Type 0 where
  -- "length 9", "81 + 8n²", "42 + 4n²", "length 3", for every n
  pub submit : (n : ℕ) → length_of 1 n ≡ 9
  pub reply : (n : ℕ) → length_of 2 n ≡ 81 + 8 * (n * n)
  pub commit : (n : ℕ) → length_of 3 n ≡ 42 + 4 * (n * n)
  pub outcome : (n : ℕ) → length_of 4 n ≡ 3
  -- the whole table at once
  pub table : listed 12 (length_of 1) ++ (listed 12 (length_of 2) ++ (listed 12 (length_of 3) ++ listed 12 (length_of 4)))
      ≡ published_lengths
