-- Laws of lists of words.
use Prim.Native.Nat.{ℕ, zero, suc, ◌+◌, ◌-◌, ◌≤◌, ◌<◌}
use mathlib.Core.Path.{◌≡◌, refl, sym, ap, ◌∙◌, fun_ext}
use mathlib.Core.List.{List, ◌∷◌, ◌++◌}
use native.Mathlib.Omega.{arith}
use lib.Dec.{eqb, ltb}
use lib.ListN.{length, get_or, take, drop, set, replicate, length-append, length-take, length-drop, length-replicate, get_or-replicate}
use lib.ListN.{get_or-append, get_or-eq_default}
use lib.Seq.{ext_get_or, get_or-take, get_or-drop, get_or-append-add, get_or-set_same, get_or-set_other, length-take-le}
use borrow.Author.Tests.{ltb-true, ltb-false, eqb-true, eqb-false}
use Rattle.lists.specs.Functions.{put, pasted, from}
use Rattle.lists.specs.Parts.{words, tabulate, replaced}
use Rattle.lists.proofs.Functions.{on, by_place, put_at, put_off, pasted_in, pasted_below, pasted_above, pasted_same, pasted_more}

-- Two lists of one length with the same words are one list.
pub same_words : (l m : List ℕ) → length l ≡ length m → words l ≡ words m → l ≡ m
same_words l m p h = ext_get_or 0 l m p (λ i q. ap (λ w. w i) h)

-- A store replaces one word.
pub words_set : (l : List ℕ) (i v : ℕ) → i < length l → words (set l i v) ≡ put (words l) i v
words_set l i v h = fun_ext λ j. on (eqb j i)
    (λ e. let d : j ≡ i = eqb-true j i e in rw d (get_or-set_same l i v 0 h ∙ sym (put_at (words l) i v)))
    (λ e. let d : j ≡ i → ⊥ = eqb-false j i e in
    get_or-set_other l i j v 0 d ∙ sym (put_off (words l) i v j d))

-- The list of a function's first values.

pub length-tabulate : (n : ℕ) (f : ℕ → ℕ) → length (tabulate n f) ≡ n
unfolding tabulate
length-tabulate zero f = refl
length-tabulate (suc n) f = ap suc (length-tabulate n (λ i. f (suc i)))

pub tabulate-at : (n : ℕ) (f : ℕ → ℕ) (i : ℕ) → i < n → words (tabulate n f) i ≡ f i
unfolding tabulate
tabulate-at zero f i h = absurd (omega arith)
tabulate-at (suc n) f zero h = refl
tabulate-at (suc n) f (suc i) h = tabulate-at n (λ j. f (suc j)) i (omega arith)

pub tabulate-past : (n : ℕ) (f : ℕ → ℕ) (i : ℕ) → n ≤ i → words (tabulate n f) i ≡ 0
tabulate-past n f i h = get_or-eq_default (tabulate n f) 0 (rw length-tabulate h)

-- equal where it looks
pub tabulate-same : (n : ℕ) (f g : ℕ → ℕ) → ((i : ℕ) → i < n → f i ≡ g i) → tabulate n f ≡ tabulate n g
unfolding tabulate
tabulate-same zero f g h = refl
tabulate-same (suc n) f g h =
    rw (h zero (omega arith), tabulate-same n (λ i. f (suc i)) (λ i. g (suc i)) (λ i p. h (suc i) (omega arith)))

-- a list is the list of its words
pub tabulate-words : (l : List ℕ) → tabulate (length l) (words l) ≡ l
tabulate-words l =
    ext_get_or 0 (tabulate (length l) (words l)) l (length-tabulate (length l) (words l))
    (λ i h. tabulate-at (length l) (words l) i (rw length-tabulate at h))

-- A part replaced.

module _ (l : List ℕ) (a : ℕ) (p : List ℕ) (fits : a + length p ≤ length l) where
  pub length-replaced : length (replaced l a p) ≡ length l
  length-replaced = simp (length-append, length-take, length-drop) (omega arith)

  head : length (take a l) ≡ a
  head = length-take-le a l (omega arith)

  past : (i : ℕ) → a ≤ i → words (replaced l a p) i ≡ words (p ++ drop (length p) (drop a l)) (i - a)
  past i h =
      ap (words (replaced l a p)) (let e : i ≡ length (take a l) + (i - a) = omega (arith, head) in e)
      ∙ get_or-append-add (take a l) (p ++ drop (length p) (drop a l)) (i - a) 0

  pub words_replaced : words (replaced l a p) ≡ pasted a (length p) (words p) (words l)
  words_replaced = fun_ext λ i. by_place a (length p) i
      (λ h. get_or-append (take a l) (p ++ drop (length p) (drop a l)) 0 i (omega (arith, head))
      ∙ get_or-take a l i 0 h
      ∙ sym (pasted_below a (length p) (words p) (words l) i h))
      (λ h k. past i h
      ∙ get_or-append p (drop (length p) (drop a l)) 0 (i - a) (omega arith)
      ∙ sym (pasted_in a (length p) (words p) (words l) i h k))
      (λ h. past i (omega arith)
      ∙ ap (words (p ++ drop (length p) (drop a l))) (let e : i - a ≡ length p + (i - a - length p) = omega arith in e)
      ∙ get_or-append-add p (drop (length p) (drop a l)) (i - a - length p) 0
      ∙ get_or-drop (length p) (drop a l) (i - a - length p) 0
      ∙ get_or-drop a l (length p + (i - a - length p)) 0
      ∙ ap (words l) (let e : a + (length p + (i - a - length p)) ≡ i = omega arith in e)
      ∙ sym (pasted_above a (length p) (words p) (words l) i h))

-- A list whose words are another's with a run pasted is that list with the run's part replaced.
pub replaced_of : (l m : List ℕ) (a k : ℕ) (f : ℕ → ℕ) → a + k ≤ length l → length m ≡ length l
    → words m ≡ pasted a k f (words l) → m ≡ replaced l a (tabulate k f)
replaced_of l m a k f fits same h = same_words m (replaced l a (tabulate k f))
    (same ∙ sym (length-replaced l a (tabulate k f) room))
    (h ∙ run ∙ sym (words_replaced l a (tabulate k f) room))
  where
    room : a + length (tabulate k f) ≤ length l
    room = rw length-tabulate fits

    run : pasted a k f (words l) ≡ pasted a (length (tabulate k f)) (words (tabulate k f)) (words l)
    run = rw length-tabulate (pasted_same a k f (words (tabulate k f)) (words l) (λ i p. sym (tabulate-at k f i p)))

-- The same in the words of p itself.
pub replaced_by : (l m : List ℕ) (a : ℕ) (p : List ℕ) → a + length p ≤ length l → length m ≡ length l
    → words m ≡ pasted a (length p) (words p) (words l) → m ≡ replaced l a p
replaced_by l m a p fits same h =
    same_words m (replaced l a p) (same ∙ sym (length-replaced l a p fits)) (h ∙ sym (words_replaced l a p fits))

-- A store, and a run with one value more, of what f sees at each place of any list, d standing past its end.

module _ {A B : Type 0} (f : A → B) (d : A) where
  abbrev pub seen : List A → ℕ → B
  seen l i = f (get_or l i d)

  pub seen_set : (l : List A) (i : ℕ) (v : A) → i < length l → seen (set l i v) ≡ put (seen l) i (f v)
  seen_set l i v h = fun_ext λ k. on (eqb k i)
      (λ e. let s : k ≡ i = eqb-true k i e in rw s (ap f (get_or-set_same l i v d h) ∙ sym (put_at (seen l) i (f v))))
      (λ e. let s : k ≡ i → ⊥ = eqb-false k i e in ap f (get_or-set_other l i k v d s) ∙ sym (put_off (seen l) i (f v) k s))

  pub seen_more : (l : List A) (a i j : ℕ) (v : A) (g w : ℕ → B) → seen l ≡ pasted a i g w → j ≡ a + i → j < length l → f v ≡ g i
      → seen (set l j v) ≡ pasted a (i + 1) g w
  seen_more l a i j v g w h e p q = seen_set l j v p ∙ rw (h, e, q) (pasted_more a i g w)

  -- one element again and again, seen as what stands past the end
  pub seen_replicate : (k : ℕ) (v : A) → f v ≡ f d → seen (replicate k v) ≡ (λ i. f d)
  seen_replicate k v p = fun_ext λ i. on (ltb i k)
      (λ e. ap f (get_or-replicate k i v d (ltb-true i k e)) ∙ p)
      (λ e. let h : k ≤ i = ltb-false i k e in ap f (get_or-eq_default (replicate k v) d (rw length-replicate h)))

-- the same of words
pub words_zeros : (k : ℕ) → words (replicate k 0) ≡ (λ i. 0)
words_zeros k = seen_replicate (λ x. x) 0 k 0 refl

pub words_more : (l : List ℕ) (a i j v : ℕ) (g w : ℕ → ℕ) → words l ≡ pasted a i g w → j ≡ a + i → j < length l → v ≡ g i
    → words (set l j v) ≡ pasted a (i + 1) g w
words_more = seen_more (λ x. x) 0

-- Lists as lists of a function's values: two in a row, a part of a list, and one word again and again.

pub tabulate-append : (a b : ℕ) (f : ℕ → ℕ) → tabulate (a + b) f ≡ tabulate a f ++ tabulate b (from f a)
unfolding tabulate from
tabulate-append zero b f =
    let e : zero + b ≡ b = omega arith in
    rw e (tabulate-same b f (from f zero) (λ i h. ap f (let s : i ≡ zero + i = omega arith in s)))
tabulate-append (suc a) b f =
    let e : suc a + b ≡ suc (a + b) = omega arith in
    ap (λ n. tabulate n f) e
    ∙ ap (λ l. f zero ∷ l) (tabulate-append a b (λ i. f (suc i)))
    ∙ ap (λ l. f zero ∷ (tabulate a (λ i. f (suc i)) ++ l))
    (tabulate-same b (λ i. f (suc (a + i))) (from f (suc a)) (λ i h. ap f (let s : suc (a + i) ≡ suc a + i = omega arith in s)))

pub part_tabulate : (l : List ℕ) (a k : ℕ) → a + k ≤ length l → take k (drop a l) ≡ tabulate k (from (words l) a)
unfolding from
part_tabulate l a k h = ext_get_or 0 (take k (drop a l)) (tabulate k (from (words l) a)) (size ∙ sym (length-tabulate k (from (words l) a)))
    (λ i p. let q : i < k = omega (arith, size) in
    get_or-take k (drop a l) i 0 q ∙ get_or-drop a l i 0 ∙ sym (tabulate-at k (from (words l) a) i q))
  where
    size : length (take k (drop a l)) ≡ k
    size = simp (length-take, length-drop) (omega arith)

pub replicate-tabulate : (k v : ℕ) → replicate k v ≡ tabulate k (λ i. v)
unfolding tabulate
replicate-tabulate zero v = refl
replicate-tabulate (suc k) v = ap (λ l. v ∷ l) (replicate-tabulate k v)

-- what stands after the first of two lists
pub from_append : (p q : List ℕ) → from (words (p ++ q)) (length p) ≡ words q
unfolding from
from_append p q = fun_ext λ i. get_or-append-add p q i 0
