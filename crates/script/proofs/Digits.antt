-- Laws of the digits of a number: one by one, how many, and read back.
use Prim.Native.Nat.{ℕ, zero, suc, ◌+◌, ◌-◌, ◌*◌, ◌/◌, ◌%◌, ◌^◌, ◌≤◌, ◌<◌}
use native.Mathlib.Omega.{arith}
use mathlib.Core.Path.{◌≡◌, refl, sym, ap, ◌∙◌}
use mathlib.Core.Bool.{true, false, cond}
use mathlib.Core.Option.{Option, none, some}
use mathlib.Core.List.{List, [], ◌∷◌, ◌++◌, append_assoc, append-nil}
use lib.Dec.{ltb}
use lib.ListN.{length, length-append, get_or-append}
use borrow.Author.Tests.{lt-ltb, le-ltb, le-leb, ne_eqb, ltb-true, ltb-false}
use Rattle.lists.specs.Parts.{words}
use Rattle.lists.proofs.Functions.{on, both, fails}
use Rattle.model.specs.Script.{digit_zero, is_digit, digits_within, digits, digits_read, limited, leading_zero, number_of}
use Rattle.script.proofs.Reading.{digit_low, digit_high, power_next, number_empty, number_zero, number_plain, first_not_zero}

within_one : (k x : ℕ) → x < 10 → digits_within (suc k) x ≡ (digit_zero + x % 10) ∷ []
unfolding digits_within
within_one k x h = rw (lt-ltb x 10 h)

within_more : (k x : ℕ) → 10 ≤ x → digits_within (suc k) x ≡ digits_within k (x / 10) ++ ((digit_zero + x % 10) ∷ [])
unfolding digits_within
within_more k x h = rw (le-ltb x 10 h)

-- however many are asked for, once there is room for all
within_same : (j k x : ℕ) → x < j → x < k → digits_within j x ≡ digits_within k x
within_same zero k x p q = absurd (omega arith)
within_same (suc j) zero x p q = absurd (omega arith)
within_same (suc j) (suc k) x p q = on (ltb x 10)
    (λ h. let s : x < 10 = ltb-true x 10 h in within_one j x s ∙ sym (within_one k x s))
    (λ h. let s : 10 ≤ x = ltb-false x 10 h in
    within_more j x s
    ∙ ap (λ l. l ++ ((digit_zero + x % 10) ∷ [])) (within_same j k (x / 10) (omega arith) (omega arith))
    ∙ sym (within_more k x s))

pub digits_one : (x : ℕ) → x < 10 → digits x ≡ (digit_zero + x % 10) ∷ []
unfolding digits
digits_one x h = within_one x x h

pub digits_more : (x : ℕ) → 10 ≤ x → digits x ≡ digits (x / 10) ++ ((digit_zero + x % 10) ∷ [])
unfolding digits
digits_more x h =
    within_more x x h
    ∙ ap (λ l. l ++ ((digit_zero + x % 10) ∷ [])) (within_same x (suc (x / 10)) (x / 10) (omega arith) (omega arith))

-- what stands before the last digit
abbrev pub front_digits : ℕ → List ℕ
front_digits x = cond (ltb x 10) [] (digits (x / 10))

pub digits_front : (x : ℕ) → digits x ≡ front_digits x ++ ((digit_zero + x % 10) ∷ [])
digits_front x = on (ltb x 10)
    (λ p. rw p (digits_one x (ltb-true x 10 p)))
    (λ p. rw p (digits_more x (ltb-false x 10 p)))

-- How many.

pub length-one : (x : ℕ) → x < 10 → length (digits x) ≡ 1
length-one x h = ap length (digits_one x h)

pub length_more : (x : ℕ) → 10 ≤ x → length (digits x) ≡ length (digits (x / 10)) + 1
length_more x h = ap length (digits_more x h) ∙ length-append (digits (x / 10)) ((digit_zero + x % 10) ∷ [])

pub length_some : (x : ℕ) → 1 ≤ length (digits x)
length_some x = on (ltb x 10)
    (λ h. omega (arith, length-one x (ltb-true x 10 h)))
    (λ h. omega (arith, length_more x (ltb-false x 10 h)))

-- a number below 10 ^ (k + 1) has at most k + 1
length-at-most : (k x : ℕ) → x < 10 ^ (k + 1) → length (digits x) ≤ k + 1
length-at-most zero x h = omega (arith, length-one x h)
length-at-most (suc k) x h = on (ltb x 10)
    (λ p. omega (arith, length-one x (ltb-true x 10 p)))
    (λ p. let e : suc k + 1 ≡ k + 1 + 1 = omega arith in
    let h : x < 10 ^ (k + 1) * 10 = (rw (e, power_next (k + 1)) at h) in
    omega (arith, length_more x (ltb-false x 10 p), length-at-most k (x / 10) (omega arith)))

pub length-ten : (x : ℕ) → x < 4294967296 → length (digits x) ≤ 10
length-ten x h = length-at-most 9 x (omega arith)

-- Read back.

-- what is behind digits that were read
read_append : (x : ℕ) (l m : List ℕ) (y : ℕ) → digits_read x l ≡ some y → digits_read x (l ++ m) ≡ digits_read y m
unfolding digits_read
read_append x [] m y e = ap (λ z. digits_read z m) (let s : x ≡ y = cc in s)
read_append x (b ∷ l) m y e = on (is_digit b)
    (λ p. rw p (read_append (x * 10 + (b - digit_zero)) l m y (rw p at e)))
    (λ p. let z : ◌≡◌ {A = ℕ} 0 1 = (cc (rw p at e)) in absurd (omega arith))

digit_of : (x : ℕ) → is_digit (digit_zero + x % 10) ≡ true
unfolding is_digit
digit_of x = both (le-leb 48 (48 + x % 10) (omega arith)) (le-leb (48 + x % 10) 57 (omega arith))

read_last : (y x z : ℕ) → z ≡ y * 10 + x % 10 → digits_read y ((digit_zero + x % 10) ∷ []) ≡ some z
unfolding digits_read
read_last y x z e = rw digit_of (ap some (omega arith))

digits_read_below : (k x : ℕ) → x < k → digits_read 0 (digits x) ≡ some x
digits_read_below zero x h = absurd (omega arith)
digits_read_below (suc k) x h = on (ltb x 10)
    (λ p. let s : x < 10 = ltb-true x 10 p in rw (digits_one x s) (read_last 0 x x (omega arith)))
    (λ p. let s : 10 ≤ x = ltb-false x 10 p in
    rw (digits_more x s)
    (read_append 0 (digits (x / 10)) ((digit_zero + x % 10) ∷ []) (x / 10) (digits_read_below k (x / 10) (omega arith))
    ∙ read_last (x / 10) x x (omega arith)))

pub digits_read_lem : (x : ℕ) → digits_read 0 (digits x) ≡ some x
digits_read_lem x = digits_read_below (suc x) x (omega arith)

-- no zero leads
first_digit : (k x : ℕ) → x < k → 1 ≤ x → 49 ≤ words (digits x) 0
first_digit zero x h q = absurd (omega arith)
first_digit (suc k) x h q = on (ltb x 10)
    (λ p. let s : x < 10 = ltb-true x 10 p in rw (digits_one x s) (omega arith))
    (λ p. let s : 10 ≤ x = ltb-false x 10 p in
    rw (digits_more x s, get_or-append (digits (x / 10)) ((digit_zero + x % 10) ∷ []) 0 0 (length_some (x / 10)))
    (first_digit k (x / 10) (omega arith) (omega arith)))

no_leading_zero : (x : ℕ) → leading_zero (digits x) ≡ false
unfolding leading_zero
no_leading_zero x = on (ltb x 10)
    (λ p. rw (le-ltb 1 (length (digits x)) (omega (arith, length-one x (ltb-true x 10 p)))))
    (λ p. let s : 10 ≤ x = ltb-false x 10 p in
    fails (ltb 1 (length (digits x)))
    (ne_eqb (words (digits x) 0) 48 (let f = first_digit (suc x) x (omega arith) (omega arith) in omega arith)))

limited_below : (x : ℕ) → x < 4294967296 → limited (some x) ≡ some x
unfolding limited
limited_below x h = rw (lt-ltb x 4294967296 h)

pub number_digits : (x : ℕ) → x < 4294967296 → number_of (digits x) ≡ some x
number_digits x h =
    number_plain (digits x) (length_some x) (no_leading_zero x) ∙ ap limited (digits_read_lem x) ∙ limited_below x h

-- And nothing else is read as a number: what was read are its digits.

digits_next : (y d : ℕ) → 1 ≤ y → d < 10 → digits (y * 10 + d) ≡ digits y ++ ((digit_zero + d) ∷ [])
digits_next y d p q =
    digits_more (y * 10 + d) (omega arith)
    ∙ ap (λ n. digits n ++ ((digit_zero + (y * 10 + d) % 10) ∷ [])) (let e : (y * 10 + d) / 10 ≡ y = omega arith in e)
    ∙ ap (λ n. digits y ++ ((digit_zero + n) ∷ [])) (let e : (y * 10 + d) % 10 ≡ d = omega arith in e)

read_only : (y : ℕ) (l : List ℕ) (x : ℕ) → 1 ≤ y → digits_read y l ≡ some x → digits y ++ l ≡ digits x
unfolding digits_read
read_only y [] x p e = append-nil (digits y) ∙ ap digits (let s : y ≡ x = cc in s)
read_only y (b ∷ l) x p e = on (is_digit b)
    (λ q. let low = digit_low b q in
    let high = digit_high b q in
    let s : b ≡ digit_zero + (b - digit_zero) = omega arith in
    sym (append_assoc (digits y) (b ∷ []) l)
    ∙ ap (λ m. m ++ l) (ap (λ c. digits y ++ (c ∷ [])) s ∙ sym (digits_next y (b - digit_zero) p (omega arith)))
    ∙ read_only (y * 10 + (b - digit_zero)) l x (omega arith) (rw q at e))
    (λ q. let z : ◌≡◌ {A = ℕ} 0 1 = (cc (rw q at e)) in absurd (omega arith))

limited_some : (o : Option ℕ) (x : ℕ) → limited o ≡ some x → (o ≡ some x) × (x < 4294967296)
unfolding limited
limited_some none x e = let z : ◌≡◌ {A = ℕ} 0 1 = cc in absurd (omega arith)
limited_some (some y) x e = on (ltb y 4294967296)
    (λ p. let s : some y ≡ some x = (rw p at e) in
    let t : y ≡ x = cc in
    (s, (rw t at (ltb-true y 4294967296 p))))
    (λ p. let z : ◌≡◌ {A = ℕ} 0 1 = (cc (rw p at e)) in absurd (omega arith))

digit_alone : (b : ℕ) → is_digit b ≡ true → digits (0 * 10 + (b - digit_zero)) ≡ b ∷ []
digit_alone b q =
    let low = digit_low b q in
    let high = digit_high b q in
    digits_one (0 * 10 + (b - digit_zero)) (omega arith)
    ∙ ap (λ c. c ∷ []) (let s : digit_zero + (0 * 10 + (b - digit_zero)) % 10 ≡ b = omega arith in s)

-- a digit alone, or digits of which the first is no zero
whole_read_lem : (b : ℕ) (l : List ℕ) (x : ℕ) → leading_zero (b ∷ l) ≡ false → digits_read 0 (b ∷ l) ≡ some x → b ∷ l ≡ digits x
unfolding digits_read
whole_read_lem b [] x z e = on (is_digit b)
    (λ q. let f : 0 * 10 + (b - digit_zero) ≡ x = (cc (rw q at e)) in sym (digit_alone b q) ∙ ap digits f)
    (λ q. let z : ◌≡◌ {A = ℕ} 0 1 = (cc (rw q at e)) in absurd (omega arith))
whole_read_lem b (a ∷ l) x z e = on (is_digit b)
    (λ q. let low = digit_low b q in
    let c : b ≡ 48 → ⊥ = first_not_zero b (a ∷ l) (omega arith) z in
    ap (λ m. m ++ (a ∷ l)) (sym (digit_alone b q)) ∙ read_only (0 * 10 + (b - digit_zero)) (a ∷ l) x (omega arith) (rw q at e))
    (λ q. let z : ◌≡◌ {A = ℕ} 0 1 = (cc (rw q at e)) in absurd (omega arith))

pub number_only : (l : List ℕ) (x : ℕ) → number_of l ≡ some x → (l ≡ digits x) × (x < 4294967296)
number_only [] x e = let z : ◌≡◌ {A = ℕ} 0 1 = (cc (number_empty [] refl)) in absurd (omega arith)
number_only (b ∷ l) x e = on (leading_zero (b ∷ l))
    (λ p. let z : ◌≡◌ {A = ℕ} 0 1 = (cc (number_zero (b ∷ l) p)) in absurd (omega arith))
    (λ p. let s = limited_some (digits_read 0 (b ∷ l)) x (sym (number_plain (b ∷ l) (omega arith) p) ∙ e) in
    (whole_read_lem b l x p s.0, s.1))
