-- A value beside the last written one: the same if each of the eight words is, and not if one is not.
use Prim.Native.Nat.{ℕ, ◌+◌, ◌<◌}
use mathlib.Core.Path.{◌≡◌, sym, ap, ◌∙◌}
use mathlib.Core.Bool.{Bool, true, false}
use Rattle.lists.specs.Functions.{from}
use Rattle.lists.proofs.Functions.{numbered_same, numbered_at}
use Rattle.model.specs.RecordWords.{value_of}
use Rattle.logs.specs.Log.{Says, holding, failing}
use Rattle.log_check.specs.Remembered.{written_word, written_value}

module _ (w : ℕ → ℕ) (value written : ℕ) where
  abbrev pub SameAt : ℕ → Type 0
  SameAt j = w (value + j) ≡ written_word w written j

  pub value_written : ((j : ℕ) → j < 8 → SameAt j) → value_of (from w value) ≡ written_value w written
  unfolding value_of written_value from
  value_written h = numbered_same 8 0 (from w value) (written_word w written) h

  pub value_apart : (j : ℕ) → j < 8 → (SameAt j → ⊥) → value_of (from w value) ≡ written_value w written → ⊥
  unfolding value_of written_value from
  value_apart j h off e =
      off (sym (numbered_at 8 0 (from w value) j h) ∙ ap (λ v. v (j + 1)) e ∙ numbered_at 8 0 (written_word w written) j h)

-- an answer to one question is the answer to another that comes to the same
pub said : {P Q : Type 0} {r : Bool} → (P → Q) → (Q → P) → Says P r → Says Q r
said f g (holding h) = holding (f h)
said f g (failing h) = failing (λ q. h (g q))

-- what an answer that is known says
pub granted : {P : Type 0} → Says P true → P
granted (holding h) = h

pub denied : {P : Type 0} → Says P false → P → ⊥
denied (failing h) = h
