-- A list's n values under their numbers from 1: one is stored, one is read.
use Prim.Native.Nat.{ℕ, ◌+◌, ◌-◌, ◌<◌}
use mathlib.Core.Path.{◌≡◌, sym, ap, ◌∙◌}
use mathlib.Core.List.{List}
use native.Mathlib.Omega.{arith}
use lib.ListN.{length, set, get_or}
use Rattle.lists.specs.Functions.{put, numbered, Within}
use Rattle.lists.specs.Parts.{words}
use Rattle.lists.proofs.Functions.{numbered_at, numbered_put}
use Rattle.lists.proofs.Parts.{words_set}

module _ (l : List ℕ) (n : ℕ) (long : length l ≡ n) (j : ℕ) (h : Within n j) where
  abbrev place : ℕ
  place = j - 1

  inside-list : place < n
  inside-list = omega (arith, h.least, h.most)

  numbered-so : place + 1 ≡ j
  numbered-so = omega (arith, h.least)

  pub number_stored : (r : ℕ) → numbered n 0 (words (set l place r)) ≡ put (numbered n 0 (words l)) j r
  number_stored r =
      let here : place < length l = omega (arith, inside-list) in
      ap (numbered n 0) (words_set l place r here)
      ∙ numbered_put n 0 (words l) place r inside-list
      ∙ ap (λ m. put (numbered n 0 (words l)) m r) numbered-so

  pub number_read : get_or l place 0 ≡ numbered n 0 (words l) j
  number_read = sym (ap (numbered n 0 (words l)) (sym numbered-so) ∙ numbered_at n 0 (words l) place inside-list)
