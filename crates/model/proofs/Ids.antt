-- Ids of operations and their marks (Published.antt): when two are the same, and what fits.
use Prim.Native.Nat.{ℕ}
use mathlib.Core.Path.{◌≡◌, refl}
use mathlib.Core.Bool.{Bool, true, false, not, ◌&&◌}
use mathlib.Core.Logic.{◌⊎◌, inl, inr}
use lib.Dec.{eqb}
use borrow.Author.Tests.{eq-eqb, eqb-true}
use Rattle.lists.specs.Functions.{inside}
use Rattle.lists.proofs.Functions.{on, apart, first, second}
use Rattle.model.specs.Records.{read, write}
use Rattle.model.specs.Kinds.{is_operation, barred}
use Rattle.model.specs.Published.{Id, same_id, with_type, mark}
use Rattle.model.specs.HostClaims.{fits}

pub same_self : (a : Id) → same_id a a ≡ true
unfolding same_id
same_self a = rw (
  eq-eqb a.client a.client refl,
  eq-eqb a.count a.count refl,
  eq-eqb a.operation a.operation refl,
  eq-eqb a.reg a.reg refl,
)

pub same_eq : (a b : Id) → same_id a b ≡ true → a ≡ b
unfolding same_id
same_eq a b h =
    let regs = eqb a.reg b.reg in
    let types = eqb a.operation b.operation in
    let counts = eqb a.count b.count in
    let clients = eqb a.client b.client in
    let p = second clients (counts && (types && regs)) h in
    let q = second counts (types && regs) p in
    let client = eqb-true a.client b.client (first clients (counts && (types && regs)) h) in
    let count = eqb-true a.count b.count (first counts (types && regs) p) in
    let operation = eqb-true a.operation b.operation (first types regs q) in
    let reg = eqb-true a.reg b.reg (second types regs q) in
    λ i. record { client = client i; count = count i; operation = operation i; reg = reg i }

pub not_same : (a b : Id) → (a ≡ b → ⊥) → same_id a b ≡ false
not_same a b d = on (same_id a b) (λ q. absurd (d (same_eq a b q))) (λ q. q)

-- the mark of an id leaves its type out
pub mark_retyped : (a b : Id) → mark a ≡ mark b → a ≡ with_type a.operation b
unfolding mark with_type
mark_retyped a b e = λ i. record { client = (e i).client; count = (e i).count; operation = a.operation; reg = (e i).reg }

-- a type that is one is read or write
pub read_or_write : (t : ℕ) → is_operation t ≡ true → (t ≡ read) ⊎ (t ≡ write)
unfolding is_operation
read_or_write t h = on (eqb t read) (λ p. inl (eqb-true t read p)) (λ p. inr (eqb-true t write (rw p at h)))

-- what fits: a member and a slot of the n, and a type that number 7 leaves
module _ (n : ℕ) (a : Id) (f : fits n a ≡ true) where
  pub fit_parts : (inside n a.client ≡ true) × (inside n a.reg ≡ true) × (is_operation a.operation ≡ true)
      × (barred a.client a.reg a.operation ≡ false)
  unfolding fits
  fit_parts = on (inside n a.client)
      (λ p. on (inside n a.reg)
      (λ q. on (is_operation a.operation)
      (λ t. on (barred a.client a.reg a.operation)
      (λ z. absurd (apart f (rw (p, q, t, z))))
      (λ z. (p, q, t, z)))
      (λ t. absurd (apart f (rw (p, q, t)))))
      (λ q. absurd (apart f (rw (p, q)))))
      (λ p. absurd (apart f (rw p)))

pub none_both : (t : Bool) → (t && not t) ≡ false
none_both true = refl
none_both false = refl
