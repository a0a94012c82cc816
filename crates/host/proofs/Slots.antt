-- Two functions of the slots that agree on the first of them.
use Prim.Native.Nat.{ℕ, ◌+◌, ◌≤◌}
use native.Mathlib.Omega.{arith}
use mathlib.Core.Path.{◌≡◌, refl, sym, ◌∙◌}
use Rattle.lists.specs.Functions.{put, from, within}
use Rattle.lists.specs.Pieces.{place, pieces}
use Rattle.lists.proofs.Functions.{put_all, within_same}
use Rattle.lists.proofs.Pieces.{pieces_at}

module _ {A : Type 0} where
  abbrev pub Agree : ℕ → (ℕ → A) → (ℕ → A) → Type 0
  Agree done f g = (r : ℕ) → 1 ≤ r → r ≤ done → f r ≡ g r

  pub agree_none : (f g : ℕ → A) → Agree 0 f g
  agree_none f g r p q = absurd (omega arith)

  pub agree_more : (done : ℕ) (f g : ℕ → A) → Agree done f g → Agree (done + 1) (put f (done + 1) (g (done + 1))) g
  agree_more done f g h =
      put_all (λ r x. 1 ≤ r → r ≤ done + 1 → x ≡ g r) f (done + 1) (g (done + 1)) (λ p q. refl) (λ r d p q. h r p (omega arith))

  -- on all of them, where the one is read from words
  pub agree_all : (n : ℕ) (d : A) (s : ℕ) (f : (ℕ → ℕ) → A) (w : ℕ → ℕ) (g : ℕ → A) → Agree n (pieces n d s f w) g
      → pieces n d s f w ≡ within n d g
  unfolding pieces
  agree_all n d s f w g h = within_same n d (λ k. f (from w (place s k))) g (λ k p q. sym (pieces_at n d s f w k p q) ∙ h k p q)
