-- Laws of things of one size laid one after the other.
use Prim.Native.Nat.{ℕ, zero, suc, ◌+◌, ◌-◌, ◌*◌, ◌≤◌, ◌<◌}
use native.Mathlib.Nat.{suc-mul, zero-mul, mul-le-mul_right, mul-le-mul}
use native.Mathlib.Numerals.{add-one}
use native.Mathlib.Omega.{arith}
use mathlib.Core.Path.{◌≡◌, sym, ap, ◌∙◌, fun_ext}
use mathlib.Core.Bool.{false}
use mathlib.Core.List.{List, ◌++◌, append_assoc}
use lib.Dec.{eqb, ltb}
use lib.ListN.{length, take, drop, length-append, get_or-append}
use lib.Seq.{get_or-take, get_or-drop, get_or-append-add}
use borrow.Author.Tests.{eqb-true, eqb-false, ltb-true, ltb-false}
use Rattle.lists.specs.Functions.{put, pasted, from, inside, within}
use Rattle.lists.specs.Parts.{words, tabulate, replaced}
use Rattle.lists.specs.Pieces.{place, pieces, laid}
use Rattle.lists.proofs.Functions.{on, by_place, put_at, put_off, pasted_in, pasted_below, pasted_above, inside_low, inside_high}
use Rattle.lists.proofs.Functions.{within_at, within_off, within_same, from_pasted_at, from_pasted_below, from_pasted_above}
use Rattle.lists.proofs.Parts.{tabulate-words, tabulate-append}

-- Words from a place on.

-- a run pasted further on
pub pasted_from : {A : Type 0} (a b k : ℕ) (g f : ℕ → A) → from (pasted (a + b) k g f) a ≡ pasted b k g (from f a)
unfolding from
pasted_from a b k g f = fun_ext λ i. by_place b k i
    (λ p. pasted_below (a + b) k g f (a + i) (omega arith) ∙ sym (pasted_below b k g (from f a) i p))
    (λ p q. pasted_in (a + b) k g f (a + i) (omega arith) (omega arith) ∙ ap g (omega arith) ∙ sym (pasted_in b k g (from f a) i p q))
    (λ p. pasted_above (a + b) k g f (a + i) (omega arith) ∙ sym (pasted_above b k g (from f a) i p))

-- a part of a list, as it is lent
pub part_at : (l : List ℕ) (a k i : ℕ) → i < k → words (take k (drop a l)) i ≡ from (words l) a i
unfolding from
part_at l a k i h = get_or-take k (drop a l) i 0 h ∙ get_or-drop a l i 0

-- of three lists joined, the middle one, and of two the second
pub middle_at : (p q r : List ℕ) (a i : ℕ) → length p ≡ a → i < length q → from (words (p ++ q ++ r)) a i ≡ words q i
unfolding from
middle_at p q r a i e h =
    rw (← e)
    (get_or-append (p ++ q) r 0 (length p + i) (rw length-append (omega arith))
    ∙ get_or-append-add p q i 0)

pub second_at_lem : (p q : List ℕ) (a i : ℕ) → length p ≡ a → from (words (p ++ q)) a i ≡ words q i
unfolding from
second_at_lem p q a i e = rw (← e) (get_or-append-add p q i 0)

-- and as it is put back: the toolchain writes the part's length, `replaced` takes the list's
pub put_back : (l : List ℕ) (a k : ℕ) (p : List ℕ) → length p ≡ k → take a l ++ (p ++ drop k (drop a l)) ≡ replaced l a p
put_back l a k p e = rw (← e)

-- Lists of a function's values, one after the other.

-- two runs of values joined
pub tabulate-join : (a b : ℕ) (f : ℕ → ℕ) → tabulate a f ++ tabulate b (from f a) ≡ tabulate (a + b) f
tabulate-join a b f = sym (tabulate-append a b f)

pub tabulate-run : (a b : ℕ) (f : ℕ → ℕ) (rest : List ℕ) → tabulate a f ++ (tabulate b (from f a) ++ rest) ≡ tabulate (a + b) f ++ rest
tabulate-run a b f rest = sym (append_assoc (tabulate a f) (tabulate b (from f a)) rest) ∙ ap (λ l. l ++ rest) (tabulate-join a b f)

pub tabulate-of : (k : ℕ) (l : List ℕ) → length l ≡ k → tabulate k (words l) ≡ l
tabulate-of k l e = rw (← e) (tabulate-words l)

-- Where things begin and end.

pub place_end : (s n : ℕ) → place s (n + 1) ≡ n * s
unfolding place
place_end s n = let e : n + 1 - 1 ≡ n = omega arith in rw e

pub place_next : (s k : ℕ) → 1 ≤ k → place s (k + 1) ≡ place s k + s
unfolding place
place_next s k h = let e : k + 1 - 1 ≡ suc (k - 1) = omega arith in rw e (suc-mul (k - 1) s)

pub place_mono : (s j k : ℕ) → j ≤ k → place s j ≤ place s k
unfolding place
place_mono s j k h = mul-le-mul_right s (omega arith)

pub place_apart : (s j k : ℕ) → 1 ≤ j → j < k → place s j + s ≤ place s k
place_apart s j k p q = rw (← place_next s j p) (place_mono s (j + 1) k (omega arith))

pub place_room : (s n k : ℕ) → 1 ≤ k → k ≤ n → place s k + s ≤ n * s
place_room s n k p q = rw (← place_end s n) (place_apart s k (n + 1) p (omega arith))

-- Lists of one length each, one after the other.

module _ (s : ℕ) (f : ℕ → List ℕ) where
  pub length-laid : (n : ℕ) → ((k : ℕ) → 1 ≤ k → k ≤ n → length (f k) ≡ s) → length (laid n f) ≡ n * s
  unfolding laid
  length-laid zero h = sym (zero-mul s)
  length-laid (suc n) h =
      length-append (laid n f) (f (suc n))
      ∙ rw (length-laid n (λ k p q. h k p (omega arith)), h (suc n) (omega arith) (omega arith)) (sym (suc-mul n s))

  -- the words of each
  pub laid_at : (n : ℕ) → ((k : ℕ) → 1 ≤ k → k ≤ n → length (f k) ≡ s) → (k : ℕ) → 1 ≤ k → k ≤ n → (i : ℕ) → i < s
      → words (laid n f) (place s k + i) ≡ words (f k) i
  unfolding laid
  laid_at zero h k p q i r = absurd (omega arith)
  laid_at (suc n) h k p q i r = on (eqb k (suc n))
      (λ e. let d : k ≡ n + 1 = omega (arith, eqb-true k (suc n) e) in
      let m : place s k ≡ length (laid n f) = ap (place s) d ∙ place_end s n ∙ sym long in
      ap (λ a. words (laid n f ++ f (suc n)) (a + i)) m
      ∙ get_or-append-add (laid n f) (f (suc n)) i 0
      ∙ ap (λ j. words (f j) i) (sym (eqb-true k (suc n) e)))
      (λ e. let d : k ≤ n = omega (arith, eqb-false k (suc n) e) in
      get_or-append (laid n f) (f (suc n)) 0 (place s k + i) (rw long (omega (arith, place_room s n k p d)))
      ∙ laid_at n fewer k p d i r)
    where
      fewer : (k : ℕ) → 1 ≤ k → k ≤ n → length (f k) ≡ s
      fewer k p q = h k p (omega arith)

      long : length (laid n f) ≡ n * s
      long = length-laid n fewer

  -- the runs of a function's values are its values in one run
  pub laid_tabulate : (n : ℕ) (w : ℕ → ℕ) → ((k : ℕ) → 1 ≤ k → k ≤ n → f k ≡ tabulate s (from w (place s k))) → laid n f
      ≡ tabulate (n * s) w
  unfolding laid tabulate
  laid_tabulate zero w h = rw zero-mul
  laid_tabulate (suc n) w h =
      rw (laid_tabulate n w (λ k p q. h k p (omega arith)), h (suc n) (omega arith) (omega arith), suc-mul n s)
      (let e : place s (suc n) ≡ n * s = ap (place s) (sym (add-one n)) ∙ place_end s n in
      rw e (tabulate-join (n * s) s w))

-- Things read, each by f, which looks at s words.

module _ {A : Type 0} (n : ℕ) (d : A) (s : ℕ) (f : (ℕ → ℕ) → A) where
  pub pieces_at : (w : ℕ → ℕ) (k : ℕ) → 1 ≤ k → k ≤ n → pieces n d s f w k ≡ f (from w (place s k))
  unfolding pieces
  pieces_at w k p q = within_at n d (λ k. f (from w (place s k))) k p q

  pub pieces_off : (w : ℕ → ℕ) (k : ℕ) → inside n k ≡ false → pieces n d s f w k ≡ d
  unfolding pieces
  pieces_off w k h = within_off n d (λ k. f (from w (place s k))) k h

  module _ (looks : (v w : ℕ → ℕ) → ((i : ℕ) → i < s → v i ≡ w i) → f v ≡ f w) where
    pub pieces-same : (v w : ℕ → ℕ) → ((i : ℕ) → i < n * s → v i ≡ w i) → pieces n d s f v ≡ pieces n d s f w
    unfolding pieces from
    pieces-same v w h = within_same n d (λ k. f (from v (place s k))) (λ k. f (from w (place s k)))
        (λ k p q. looks (from v (place s k)) (from w (place s k)) (λ i r. h (place s k + i) (omega (arith, place_room s n k p q))))

    -- one of them written anew
    pub pieces-put : (w : ℕ → ℕ) (k : ℕ) (g : ℕ → ℕ) → 1 ≤ k → k ≤ n
        → pieces n d s f (pasted (place s k) s g w) ≡ put (pieces n d s f w) k (f g)
    pieces-put w k g p q = fun_ext λ j. on (eqb j k)
        (λ e. let c : j ≡ k = eqb-true j k e in rw c (here ∙ sym (put_at (pieces n d s f w) k (f g))))
        (λ e. let c : j ≡ k → ⊥ = eqb-false j k e in
        on (inside n j)
        (λ i. there j c (inside_low n j i) (inside_high n j i))
        (λ i. pieces_off (pasted (place s k) s g w) j i ∙ sym (pieces_off w j i))
        ∙ sym (put_off (pieces n d s f w) k (f g) j c))
      where
        here : pieces n d s f (pasted (place s k) s g w) k ≡ f g
        here = pieces_at (pasted (place s k) s g w) k p q
            ∙ looks (from (pasted (place s k) s g w) (place s k)) g (from_pasted_at (place s k) s g w)

        there : (j : ℕ) → (j ≡ k → ⊥) → 1 ≤ j → j ≤ n → pieces n d s f (pasted (place s k) s g w) j ≡ pieces n d s f w j
        there j c a b =
            pieces_at (pasted (place s k) s g w) j a b
            ∙ looks (from (pasted (place s k) s g w) (place s j)) (from w (place s j)) (λ i r. on (ltb j k)
            (λ e. from_pasted_below (place s k) s g w (place s j) i (omega (arith, place_apart s j k a (ltb-true j k e))))
            (λ e. ap (λ f. f i) (from_pasted_above (place s k) s g w (place s j) (place_apart s k j p (omega (arith, ltb-false j k e))))))
            ∙ sym (pieces_at w j a b)

    -- what was laid out is read back
    pub pieces-laid : (l : ℕ → List ℕ) → ((k : ℕ) → 1 ≤ k → k ≤ n → length (l k) ≡ s)
        → pieces n d s f (words (laid n l)) ≡ within n d (λ k. f (words (l k)))
    unfolding pieces from
    pieces-laid l h = within_same n d (λ k. f (from (words (laid n l)) (place s k))) (λ k. f (words (l k)))
        (λ k p q. looks (from (words (laid n l)) (place s k)) (words (l k)) (λ i r. laid_at s l n h k p q i r))

-- at most 12 pieces, of a size that was computed
pub few_pieces : {m size s most : ℕ} → m ≤ 12 → size ≡ s → s ≤ most → m * size ≤ 12 * most
few_pieces p e q = mul-le-mul p (rw e q)
