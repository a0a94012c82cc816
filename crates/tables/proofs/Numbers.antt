-- What the table's own check looks at: an empty table's number, a table of the right size and length, a member's block and phase.
use Prim.Native.Nat.{ℕ, ◌+◌}
use native.Mathlib.Omega.{arith}
use mathlib.Core.Path.{◌≡◌, refl, sym, ap, ◌∙◌}
use mathlib.Core.Bool.{Bool, true, false}
use mathlib.Core.List.{List}
use lib.ListN.{length, get_or-eq_default}
use Rattle.lists.specs.Functions.{inside, Within}
use Rattle.lists.specs.Parts.{words}
use Rattle.lists.proofs.Functions.{within_at, inside_low, inside_high}
use Rattle.model.specs.Table.{table_size, block_at, phase_at, board_of, table_number, sound_member}
use Rattle.model.specs.TableCalls.{phase_words}
use Rattle.tables.specs.Needs.{Table}

-- the check of member i's block in the table
abbrev pub sound_at : ℕ → List ℕ → ℕ → Bool
sound_at n l i = sound_member n i ((board_of n (words l)).members i)

module _ (l : List ℕ) where
  abbrev n : ℕ
  n = words l 0

  size_refused : inside 12 n ≡ false → 3 ≡ table_number l
  unfolding table_number
  size_refused p = rw p

  pub empty_refused : length l ≡ 0 → 3 ≡ table_number l
  unfolding inside
  empty_refused e = size_refused (ap (inside 12) (get_or-eq_default l 0 (omega (arith, e))))

  -- a table of the right size and length
  pub whole_table : inside 12 n ≡ true → length l ≡ table_size n → Table n l
  whole_table p q = record { least = inside_low 12 n p; most = inside_high 12 n p; long = q; size = refl }

-- a member's phase as it stands in the words
pub phase_at_lem : {n i : ℕ} {l : List ℕ} → Table n l → Within n i → words l (block_at n i) ≡ phase_words l i
unfolding phase_words
phase_at_lem {n} {i} {l} t h =
    rw t.size
    (ap (words l) (let e : block_at n i ≡ block_at n i + phase_at = omega arith in e)
    ∙ sym (within_at n 0 (λ k. words l (block_at n k + phase_at)) i h.least h.most))
