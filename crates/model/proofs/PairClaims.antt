-- The pairs that a reply's checks look at, by the verdict: the checks are gone through in order, and at each the sum is that of the checks
-- made.
use Prim.Native.Nat.{ℕ, ◌+◌, ◌-◌, ◌*◌, ◌≤◌}
use mathlib.Core.Path.{◌≡◌, refl, sym, subst}
use mathlib.Core.Bool.{Bool, true, false, cond, not, ◌||◌}
use native.Mathlib.Nat.{le_refl}
use native.Mathlib.Omega.{arith}
use lib.Dec.{eqb, leb}
use borrow.Author.Tests.{not-true, not-false}
use Rattle.lists.specs.Functions.{Within}
use Rattle.lists.proofs.Functions.{on, split, first}
use Rattle.model.specs.Rows.{Matrix, matrix_below}
use Rattle.model.specs.Records.{Rec}
use Rattle.model.specs.Member.{Member, entry22, row26, row27, halt_number}
use Rattle.model.specs.Member.{check21, check22, check23, check24, check25, check26, check27}
use Rattle.model.specs.Pairs.{pairs22, pairs23, pairs25, pairs26, pairs27, if_made, halt_pairs, most_pairs}
use Rattle.model.specs.PairClaims.{Verdict, PairsAsAsked, Ceilings}
use Rattle.model.specs.PairClaims.Verdict.{passes, fails21, fails22, fails23, fails24, fails25, differs25, fails26, fails27}
use Rattle.model.proofs.Pairs.{first_of, first25, square}
use Rattle.model.proofs.Pairs.{all22, all25, all26, all27, stopped22, stopped25, stopped26, stopped27}
use Rattle.model.proofs.Pairs.{most22, most25, most26, most27}

-- what holds where a check fails, and where it passes, holds of what the check decides
by_check : {A : Type 0} (P : A → Type 0) (t : Bool) {x y : A} → (t ≡ false → P x) → (t ≡ true → P y) → P (cond (not t) x y)
by_check P t p q = split P (not t) (λ e. p (not-true t e)) (λ e. q (not-false t e))

-- the pairs of the checks that are made, by those of each and the halt number
abbrev pub sums : ℕ → ℕ → ℕ → ℕ → ℕ → ℕ
sums p22 p25 p26 p27 halt =
    if_made halt 22 p22 + if_made halt 23 pairs23 + if_made halt 25 p25 + if_made halt 26 p26 + if_made halt 27 p27

module _ (n i : ℕ) (m : Member) (newest stored : Rec) (own : Within n i) (slot : Within n m.slot) where
  abbrev r : ℕ
  r = m.slot

  abbrev latest : Matrix
  latest = newest.matrix

  abbrev kept : Matrix
  kept = stored.matrix

  p22 : ℕ
  p22 = pairs22 n i r m.known latest

  p25 : ℕ
  p25 = pairs25 n kept latest

  p26 : ℕ
  p26 = pairs26 n r m.known latest

  p27 : ℕ
  p27 = pairs27 n i r m.accepted latest

  made : ℕ → ℕ
  made = sums p22 p25 p26 p27

  AtHalt : ℕ → Type 0
  AtHalt halt = Verdict n i m newest stored halt (made halt)

  by-sum : {halt pairs : ℕ} → Verdict n i m newest stored halt pairs → made halt ≡ pairs → AtHalt halt
  unfolding AtHalt
  by-sum {halt} v e = subst (Verdict n i m newest stored halt) (sym e) v

  -- The sum at each check that fails.

  at21 : AtHalt 21
  unfolding made if_made
  at21 = by-sum fails21 refl

  at22 : check22 n i r m.known latest ≡ false → AtHalt 22
  unfolding check22 p22 made if_made
  at22 e =
      let k = first_of n (entry22 i r m.known latest) e in
      by-sum (fails22 k) (omega (arith, stopped22 n i r m.known latest k))

  Passed22 : Type 0
  Passed22 = p22 ≡ n - 1

  passed22 : check22 n i r m.known latest ≡ true → Passed22
  unfolding Passed22 p22
  passed22 = all22 n i r own m.known latest

  at23 : Passed22 → AtHalt 23
  unfolding made if_made pairs23 Passed22
  at23 e = by-sum fails23 (omega (arith, e))

  at24 : Passed22 → AtHalt 24
  unfolding made if_made pairs23 Passed22
  at24 e = by-sum fails24 (omega (arith, e))

  -- 25 fails in a row, or in the pair at r in row r
  at25 : Passed22 → AtHalt 25
  unfolding made if_made pairs23 p25 Passed22
  at25 e = on (matrix_below n kept latest)
      (λ b. by-sum (differs25 b) (omega (arith, e, all25 n kept latest b)))
      (λ b. let j = first25 n kept latest b in by-sum (fails25 j) (omega (arith, e, stopped25 n kept latest b j)))

  Passed25 : Type 0
  Passed25 = (p22 ≡ n - 1) × (p25 ≡ n * n + 1)

  passed25 : Passed22 → check25 n r kept latest ≡ true → Passed25
  unfolding Passed22 Passed25 p25 check25
  passed25 e f = (e, all25 n kept latest (first (matrix_below n kept latest) (eqb (kept r r) (latest r r)) f))

  at26 : Passed25 → check26 n r m.known latest ≡ false → AtHalt 26
  unfolding Passed25 check26 p26 made if_made pairs23
  at26 e f =
      let j = first_of n (row26 n r m.known latest) f in
      by-sum (fails26 j) (omega (arith, e.0, e.1, stopped26 n r m.known latest j))

  Passed26 : Type 0
  Passed26 = (p22 ≡ n - 1) × ((p25 ≡ n * n + 1) × (p26 ≡ (n - 1) * n))

  passed26 : Passed25 → check26 n r m.known latest ≡ true → Passed26
  unfolding Passed25 Passed26 p26
  passed26 e f = (e.0, (e.1, all26 n r slot m.known latest f))

  at27 : Passed26 → check27 n i r m.accepted latest ≡ false → AtHalt 27
  unfolding Passed26 check27 p27 made if_made pairs23
  at27 e g =
      let j = first_of n (row27 i r m.accepted latest) g in
      by-sum (fails27 j) (omega (arith, e.0, e.1.0, e.1.1, stopped27 n i r m.accepted latest j))

  at0 : Passed26 → check27 n i r m.accepted latest ≡ true → AtHalt 0
  unfolding Passed26 p27 made if_made pairs23 most_pairs
  at0 e g = by-sum passes
      (omega (arith, e.0, e.1.0, e.1.1, all27 n i r slot m.accepted latest g, square n (omega (arith, own.least, own.most))))

  -- The checks in order.

  from25 : Passed22
      → AtHalt (cond (not (check25 n r kept latest)) 25
      (cond (not (check26 n r m.known latest)) 26
      (cond (not (check27 n i r m.accepted latest)) 27 0)))
  from25 b = by_check AtHalt (check25 n r kept latest) (λ e. at25 b)
      (λ e. by_check AtHalt (check26 n r m.known latest) (at26 (passed25 b e))
      (λ f. let past = passed26 (passed25 b e) f in
      by_check AtHalt (check27 n i r m.accepted latest) (at27 past) (at0 past)))

  verdict : (seals : ℕ) → AtHalt (halt_number n i m newest stored seals)
  unfolding halt_number
  verdict seals = by_check AtHalt (check21 seals) (λ a. at21)
      (λ a. by_check AtHalt (check22 n i r m.known latest) at22
      (λ b. let past = passed22 b in
      by_check AtHalt (check23 i r m.accepted latest) (λ c. at23 past)
      (λ c. by_check AtHalt (check24 r stored) (λ d. at24 past)
      (λ d. from25 past))))

-- At most: no check looks at more than all its pairs, and one that is not made at none.

pub if_made_lem : (halt number pairs : ℕ) → if_made halt number pairs ≤ pairs
unfolding if_made
if_made_lem halt number pairs = split (λ x. x ≤ pairs) (eqb halt 0 || leb number halt) (λ e. le_refl pairs) (λ e. omega arith)

module _ (n i : ℕ) (m : Member) (newest stored : Rec) (own : Within n i) (slot : Within n m.slot) where
  most : (halt : ℕ) → made n i m newest stored own slot halt ≤ most_pairs n
  unfolding made most_pairs pairs23 p22 p25 p26 p27
  most halt = omega (
    arith,
    most22 n i m.slot own m.known newest.matrix,
    most25 n stored.matrix newest.matrix,
    most26 n m.slot slot m.known newest.matrix,
    most27 n i m.slot slot m.accepted newest.matrix,
    square n (omega (arith, own.least, own.most)),
    if_made_lem halt 22 (pairs22 n i m.slot m.known newest.matrix),
    if_made_lem halt 23 1,
    if_made_lem halt 25 (pairs25 n stored.matrix newest.matrix),
    if_made_lem halt 26 (pairs26 n m.slot m.known newest.matrix),
    if_made_lem halt 27 (pairs27 n i m.slot m.accepted newest.matrix),
  )

  -- of the verdicts one alone has the number 0
  exactly : {halt pairs : ℕ} → Verdict n i m newest stored halt pairs → halt ≡ 0 → pairs ≡ most_pairs n
  exactly passes e = refl
  exactly fails21 e = absurd (omega arith)
  exactly (fails22 k) e = absurd (omega arith)
  exactly fails23 e = absurd (omega arith)
  exactly fails24 e = absurd (omega arith)
  exactly (fails25 j) e = absurd (omega arith)
  exactly (differs25 b) e = absurd (omega arith)
  exactly (fails26 j) e = absurd (omega arith)
  exactly (fails27 j) e = absurd (omega arith)

  pub pairs_as_asked : (seals : ℕ) → PairsAsAsked n i m newest stored seals
  unfolding halt_pairs made AtHalt p22 p25 p26 p27
  pairs_as_asked seals =
      let found = verdict n i m newest stored own slot seals in
      record { verdict = found; most = most (halt_number n i m newest stored seals); exactly = exactly found }

-- "300 for n = 12"
pub ceilings : Ceilings
unfolding most_pairs
ceilings = (refl, refl)
