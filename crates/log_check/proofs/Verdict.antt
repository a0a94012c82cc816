-- Number 0 of the check leaves a board of at most 12 members and room for one word, and the verdict is that word.
use Prim.Native.Nat.{ℕ, ◌%◌, ◌≤◌}
use mathlib.Core.Path.{◌≡◌, refl, sym}
use mathlib.Core.Bool.{Bool, true, false}
use mathlib.Core.List.{List, [], ◌∷◌}
use native.Mathlib.Omega.{arith}
use lib.Dec.{eqb}
use lib.ListN.{length, set}
use borrow.Author.Tests.{eqb-true}
use mir.Val.{bool_byte}
use Rattle.lists.proofs.Functions.{on, inside_high}
use Rattle.model.specs.Kinds.{most_members, is_size}
use Rattle.logs.specs.Log.{row_size, log_of, log_number, LogHolds, LogChecked, Says, verdict_word}

pub taken : (n long room : ℕ) → log_number n long room ≡ 0 → (n ≤ most_members) × (room ≡ 1)
unfolding log_number
taken n long room e = on (is_size n)
    (λ p. on (eqb (long % row_size) 0)
    (λ q. on (eqb room 1)
    (λ r. (inside_high most_members n p, eqb-true room 1 r))
    (λ r. let z : ◌≡◌ {A = ℕ} 2 0 = rw (p, q, r) at e in absurd (omega arith)))
    (λ q. let z : ◌≡◌ {A = ℕ} 2 0 = rw (p, q) at e in absurd (omega arith)))
    (λ p. let z : ◌≡◌ {A = ℕ} 1 0 = rw p at e in absurd (omega arith))

one_word : (l : List ℕ) (x : ℕ) → length l ≡ 1 → set l 0 x ≡ x ∷ []
one_word [] x e = absurd (omega arith)
one_word (a ∷ []) x e = refl
one_word (a ∷ (b ∷ l)) x e = absurd (omega arith)

-- a flag as a number is the verdict's word
pub word_of : (v : Bool) → bool_byte v ≡ verdict_word v
word_of true = refl
word_of false = refl

pub checked : (n : ℕ) (log before : List ℕ) (v : Bool) → log_number n (length log) (length before) ≡ 0
    → Says (LogHolds n (log_of log)) v → LogChecked n log before 0 (set before 0 (verdict_word v))
checked n log before v e h = record {
  number = sym e;
  refused = λ off. absurd (off refl);
  verdict = λ _. (v, one_word before (verdict_word v) (taken n (length log) (length before) e).1, h);
}
