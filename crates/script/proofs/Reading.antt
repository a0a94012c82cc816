-- Laws of reading: words and numbers, and what the code holds of them.
use Prim.Native.Nat.{ℕ, zero, suc, ◌+◌, ◌-◌, ◌*◌, ◌^◌, ◌≤◌, ◌<◌}
use native.Mathlib.Nat.{pow-suc, pow-succ', pow-le-pow_right, mul-le-mul_right, mul_assoc, le_refl}
use native.Mathlib.Numerals.{add-one}
use native.Mathlib.Omega.{arith}
use mathlib.Core.Path.{◌≡◌, refl, sym, ap, ◌∙◌}
use mathlib.Core.Logic.{◌⊎◌, ⊎_elim}
use mathlib.Core.Bool.{true, false, cond, ◌&&◌}
use mathlib.Core.List.{List, [], ◌∷◌}
use mathlib.Core.Option.{Option, none, some}
use lib.Dec.{eqb, leb}
use lib.ListN.{length, take, drop, length-drop, drop_of_length-le}
use lib.Seq.{drop-cons, take_all}
use lib.Pointwise.{pointwise}
use borrow.Author.Tests.{eq-eqb, ne_eqb, lt-ltb, le-ltb, eqb-true, eqb-false, leb-true}
use Rattle.std.specs.Prelude.{Option as CodeOption, Some, None, Result, Ok, Err}
use Rattle.std.specs.Result.{OkIff, result_ok}
use Rattle.lists.specs.Parts.{words}
use Rattle.lists.proofs.Functions.{on, both, first, second, apart}
use Rattle.model.specs.Script.{is_digit, digit_zero, starts_with, digits_read, limited, leading_zero, number_of}
use Rattle.model.specs.Script.{Line, malformed, one_number, two_numbers}
use Rattle.script.specs.Meaning.{held_number, held_pair}

-- Words.

eqb_swap : (a b : ℕ) → eqb a b ≡ eqb b a
eqb_swap a b = on (eqb b a)
    (λ p. rw (p, eq-eqb a b (sym (eqb-true b a p))))
    (λ p. rw (p, ne_eqb a b (λ e. eqb-false b a p (sym e))))

-- a text begins with a word where its front is the word
pub starts_front : (word l : List ℕ) → pointwise eqb (take (length word) l) word ≡ starts_with word l
unfolding starts_with
starts_front [] l = refl
starts_front (a ∷ word) [] = refl
starts_front (a ∷ word) (b ∷ l) =
    ap (λ t. t && pointwise eqb (take (length word) l) word) (eqb_swap b a)
    ∙ ap (λ t. eqb a b && t) (starts_front word l)

-- Digits.

pub digit_low : (b : ℕ) → is_digit b ≡ true → 48 ≤ b
unfolding is_digit
digit_low b p = leb-true 48 b (first (leb 48 b) (leb b 57) p)

pub digit_high : (b : ℕ) → is_digit b ≡ true → b ≤ 57
unfolding is_digit
digit_high b p = leb-true b 57 (second (leb 48 b) (leb b 57) p)

-- what the code says of a byte: its digit, or that it is none

pub digit_read : (b d : ℕ) → Some d ≡ cond (is_digit b) (Some (b - digit_zero)) None → (is_digit b ≡ true) × (d ≡ b - digit_zero)
digit_read b d e = on (is_digit b)
    (λ p. (p, (let z : Some d ≡ Some (b - digit_zero) = (rw p at e) in cc)))
    (λ p. let z : Some d ≡ None = (rw p at e) in cc)

pub digit_none : (b : ℕ) → ◌≡◌ {A = CodeOption ℕ} None (cond (is_digit b) (Some (b - digit_zero)) None) → is_digit b ≡ false
digit_none b e = on (is_digit b)
    (λ p. let z : ◌≡◌ {A = CodeOption ℕ} None (Some (b - digit_zero)) = (rw p at e) in cc)
    (λ p. p)

pub read_more : (l : List ℕ) (x i d : ℕ) → i < length l → is_digit (words l i) ≡ true → d ≡ words l i - digit_zero
    → digits_read x (drop i l) ≡ digits_read (x * 10 + d) (drop (i + 1) l)
unfolding digits_read
read_more l x i d h p e = rw (drop-cons l i 0 h, p, add-one, e)

pub read_stops : (l : List ℕ) (x i : ℕ) → i < length l → is_digit (words l i) ≡ false → digits_read x (drop i l) ≡ none
unfolding digits_read
read_stops l x i h p = rw (drop-cons l i 0 h, p)

pub read_end : (l : List ℕ) (x i : ℕ) → length l ≤ i → digits_read x (drop i l) ≡ some x
unfolding digits_read
read_end l x i h = rw (drop_of_length-le l h)

-- a number of i digits
pub power_next : (i : ℕ) → 10 ^ (i + 1) ≡ 10 ^ i * 10
power_next i = rw add-one (pow-suc 10 i)

pub ten_digits : (i : ℕ) → i ≤ 10 → 10 ^ i ≤ 10000000000
ten_digits i h = pow-le-pow_right (omega arith) h

-- at least the first of them with k zeros
read_grows : (k x : ℕ) (l : List ℕ) (y : ℕ) → k ≤ length l → digits_read x l ≡ some y → x * 10 ^ k ≤ y
unfolding digits_read
read_grows zero x [] y h e = let s : x ≡ y = cc in omega arith
read_grows zero x (b ∷ l) y h e = on (is_digit b)
    (λ p. let s = read_grows zero (x * 10 + (b - digit_zero)) l y (omega arith) (rw p at e) in omega arith)
    (λ p. let z : ◌≡◌ {A = ℕ} 0 1 = (cc (rw p at e)) in absurd (omega arith))
read_grows (suc k) x [] y h e = absurd (omega arith)
read_grows (suc k) x (b ∷ l) y h e = on (is_digit b)
    (λ p. let s = read_grows k (x * 10 + (b - digit_zero)) l y (omega arith) (rw p at e) in
    let m = mul-le-mul_right {m = x * 10} {n = x * 10 + (b - digit_zero)} (10 ^ k) (omega arith) in
    let g : x * 10 ^ suc k ≡ x * 10 * 10 ^ k = rw pow-succ' (sym (mul_assoc x 10 (10 ^ k))) in omega arith)
    (λ p. let z : ◌≡◌ {A = ℕ} 0 1 = (cc (rw p at e)) in absurd (omega arith))

limited_above : (o : Option ℕ) → ((y : ℕ) → o ≡ some y → 4294967296 ≤ y) → limited o ≡ none
unfolding limited
limited_above none h = refl
limited_above (some x) h = rw (le-ltb x 4294967296 (h x refl))

-- The tests of a number one by one: no byte, more than ten, a leading zero, and none of these.

pub number_empty : (l : List ℕ) → length l ≡ 0 → number_of l ≡ none
unfolding number_of
number_empty l h = rw (eq-eqb (length l) 0 h)

pub number_zero : (l : List ℕ) → leading_zero l ≡ true → number_of l ≡ none
unfolding number_of
number_zero l h = on (eqb (length l) 0) (λ p. rw p) (λ p. rw (p, h))

pub number_plain : (l : List ℕ) → 0 < length l → leading_zero l ≡ false → number_of l ≡ limited (digits_read 0 l)
unfolding number_of
number_plain l h p = rw (ne_eqb (length l) 0 (omega arith), p)

-- the first byte is a digit, and one of 1 to 9 where no zero leads
read_first : (b : ℕ) (l : List ℕ) (y : ℕ) → digits_read 0 (b ∷ l) ≡ some y → 48 ≤ b
unfolding digits_read
read_first b l y e = on (is_digit b)
    (digit_low b)
    (λ p. let z : ◌≡◌ {A = ℕ} 0 1 = (cc (rw p at e)) in absurd (omega arith))

pub first_not_zero : (b : ℕ) (l : List ℕ) → 0 < length l → leading_zero (b ∷ l) ≡ false → b ≡ 48 → ⊥
unfolding leading_zero
first_not_zero b l h p e = apart (both (lt-ltb 1 (length (b ∷ l)) (omega arith)) (eq-eqb b 48 e)) p

pub number_long : (l : List ℕ) → 10 < length l → number_of l ≡ none
unfolding digits_read
number_long [] h = absurd (omega arith)
number_long (b ∷ l) h = on (leading_zero (b ∷ l))
    (number_zero (b ∷ l))
    (λ p. number_plain (b ∷ l) (omega arith) p ∙ limited_above (digits_read 0 (b ∷ l)) (λ y e.
    let low : 48 ≤ b = read_first b l y e in
    let n : b ≡ 48 → ⊥ = first_not_zero b l (omega arith) p in
    on (is_digit b)
    (λ q. let s = read_grows 10 (0 * 10 + (b - digit_zero)) l y (omega arith) (rw q at e) in omega arith)
    (λ q. let z : ◌≡◌ {A = ℕ} 0 1 = (cc (rw q at e)) in absurd (omega arith))))

-- The three grounds on which no byte is looked at.
pub number_refused : (l : List ℕ) → (length l ≡ 0) ⊎ ((10 < length l) ⊎ (leading_zero l ≡ true)) → number_of l ≡ none
number_refused l h = ⊎_elim (number_empty l) (λ k. ⊎_elim (number_long l) (number_zero l) k) h

-- a value that was read is the number if it fits 32 bits
pub number_fits : {E : Type 0} (value : ℕ) (r : Result ℕ E) → OkIff r (value < 4294967296) value
    → result_ok r ≡ held_number (limited (some value))
unfolding limited
number_fits value (Ok x) h = rw (lt-ltb value 4294967296 h.0) (ap Some h.1)
number_fits value (Err e) h = let out : 4294967296 ≤ value = omega (arith, h) in rw (le-ltb value 4294967296 out)

-- What the code holds, as it is used.

pub held_none : (o : Option ℕ) → held_number o ≡ None → o ≡ none
held_none none h = refl
held_none (some x) h = cc

pub held_some : (o : Option ℕ) (x : ℕ) → held_number o ≡ Some x → o ≡ some x
held_some none x h = cc
held_some (some y) x h = let e : y ≡ x = cc in ap some e

pub pair_none : (o p : Option ℕ) → p ≡ none → held_pair o p ≡ None
pair_none none p h = refl
pair_none (some x) p h = rw h

-- the line of the numbers that were read

pub no_number : (line : ℕ → Line) (o : Option ℕ) → None ≡ held_number o → one_number line o ≡ malformed
unfolding one_number
no_number line o h = rw (held_none o (sym h))

pub a_number : (line : ℕ → Line) (o : Option ℕ) (x : ℕ) → Some x ≡ held_number o → one_number line o ≡ line x
unfolding one_number
a_number line o x h = rw (held_some o x (sym h))

pub no_pair : (line : ℕ → ℕ → Line) (o p : Option ℕ) → None ≡ held_pair o p → two_numbers line o p ≡ malformed
unfolding two_numbers
no_pair line none p h = refl
no_pair line (some x) none h = refl
no_pair line (some x) (some y) h = cc

pub a_pair : (line : ℕ → ℕ → Line) (o p : Option ℕ) (x y : ℕ) → Some (x, y) ≡ held_pair o p → two_numbers line o p ≡ line x y
unfolding two_numbers
a_pair line none p x y h = cc
a_pair line (some z) none x y h = cc
a_pair line (some z) (some w) x y h = let e : ◌≡◌ {A = ℕ × ℕ} (z, w) (x, y) = cc in ap (λ (q : ℕ × ℕ). line q.0 q.1) e

-- the part of a list from n on, as it is lent
pub rest_all : (l : List ℕ) (n : ℕ) → take (length l - n) (drop n l) ≡ drop n l
rest_all l n = take_all (length l - n) (drop n l) (rw length-drop (le_refl (length l - n)))
