-- Laws of whole lines: each line's text reads back as it, no other text does, and what is longer than `longest_line` is malformed.
use Prim.Native.Nat.{ℕ, ◌+◌, ◌-◌, ◌*◌, ◌≤◌, ◌<◌}
use native.Mathlib.Numerals.{add-one}
use native.Mathlib.Omega.{arith}
use mathlib.Core.Path.{◌≡◌, refl, sym, ap, ◌∙◌}
use mathlib.Core.Logic.{◌⊎◌, inl, inr, ⊎_elim}
use mathlib.Core.Bool.{true, cond}
use mathlib.Core.List.{List, [], ◌∷◌, ◌++◌}
use mathlib.Core.Option.{Option, none, some}
use lib.Dec.{eqb, ltb}
use lib.ListN.{length, take, drop, length-append, length-take, length-drop}
use lib.Seq.{take_all}
use borrow.Author.Tests.{eq-eqb, ne_eqb, eqb-true, ltb-true, ltb-false}
use Rattle.lists.proofs.Functions.{on, first, second}
use Rattle.std.specs.Prelude.{Some, None, position}
use Rattle.std.specs.List.{position_or_len}
use Rattle.std.specs.Option.{unwrap_or}
use Rattle.model.specs.Script.{line_feed, space, is_digit, members_word, write_word, read_word, deliver_word, crash_word}
use Rattle.model.specs.Script.{starts_with, before}
use Rattle.model.specs.Script.{beyond, digits, digits_read, number_of, Line, writes, reads, delivers, crashes, malformed, one_number}
use Rattle.model.specs.Script.{two_numbers, single, double, line_of, text_of, Bounded, first_of, with_byte, lines_of}
use Rattle.script.specs.Meaning.{longest_line}
use Rattle.script.proofs.Reading.{digit_low}
use Rattle.script.proofs.Digits.{digits_read_lem, length_some, length-ten, number_digits, number_only}

-- A text that begins with a word.

starts_own : (word l : List ℕ) → starts_with word (word ++ l) ≡ true
unfolding starts_with
starts_own [] l = refl
starts_own (a ∷ word) l = rw (eq-eqb a a refl, starts_own word l)

starts_split : (word l : List ℕ) → starts_with word l ≡ true → word ++ drop (length word) l ≡ l
unfolding starts_with
starts_split [] l h = refl
starts_split (a ∷ word) [] h = let z : ◌≡◌ {A = ℕ} 0 1 = ap (λ t. cond t 1 0) h in absurd (omega arith)
starts_split (a ∷ word) (b ∷ l) h =
    rw (eqb-true a b (first (eqb a b) (starts_with word l) h))
    (ap (λ m. b ∷ m) (starts_split word l (second (eqb a b) (starts_with word l) h)))

-- Two numbers with a space between.

module _ (m : List ℕ) where
  before-digits : (y : ℕ) (l : List ℕ) (x : ℕ) → digits_read y l ≡ some x → before space (l ++ space ∷ m) ≡ l
  unfolding before digits_read
  before-digits y [] x e = refl
  before-digits y (b ∷ l) x e = on (is_digit b)
      (λ p. let low = digit_low b p in
      rw (ne_eqb b 32 (omega arith)) (ap (λ n. b ∷ n) (before-digits (y * 10 + (b - 48)) l x (rw p at e))))
      (λ p. let z : ◌≡◌ {A = ℕ} 0 1 = (cc (rw p at e)) in absurd (omega arith))

  beyond-digits : (y : ℕ) (l : List ℕ) (x : ℕ) → digits_read y l ≡ some x → beyond space (l ++ space ∷ m) ≡ m
  unfolding beyond digits_read
  beyond-digits y [] x e = refl
  beyond-digits y (b ∷ l) x e = on (is_digit b)
      (λ p. let low = digit_low b p in
      rw (ne_eqb b 32 (omega arith)) (beyond-digits (y * 10 + (b - 48)) l x (rw p at e)))
      (λ p. let z : ◌≡◌ {A = ℕ} 0 1 = (cc (rw p at e)) in absurd (omega arith))

between : (b : ℕ) (l : List ℕ) → 0 < length (beyond b l) → before b l ++ b ∷ beyond b l ≡ l
unfolding before beyond
between b [] h = absurd (omega arith)
between b (a ∷ l) h = on (eqb a b)
    (λ p. rw (p, eqb-true a b p))
    (λ p. rw p (ap (λ m. a ∷ m) (between b l (rw p at h))))

-- Each line's text reads back.

double_reads : (line : ℕ → ℕ → Line) (x y : ℕ) → x < 4294967296 → y < 4294967296 → double line (digits x ++ space ∷ digits y) ≡ line x y
unfolding two_numbers
double_reads line x y p q =
    rw (
      before-digits (digits y) 0 (digits x) x (digits_read_lem x),
      beyond-digits (digits y) 0 (digits x) x (digits_read_lem x),
      number_digits x p,
      number_digits y q,
    )

single_reads : (line : ℕ → Line) (x : ℕ) → x < 4294967296 → single line (digits x) ≡ line x
unfolding one_number
single_reads line x p = rw (number_digits x p)

pub text_reads : (line : Line) → Bounded line → line_of (text_of line) ≡ line
unfolding line_of text_of starts_with
text_reads (writes m v) h = double_reads writes m v h.0 h.1
text_reads (reads m r) h = double_reads reads m r h.0 h.1
text_reads (delivers m) h = single_reads delivers m h
text_reads (crashes m) h = single_reads crashes m h
text_reads malformed h = absurd h

-- No other text reads as a line: a line is malformed, or the text of what it reads as.

abbrev pub Known : List ℕ → Type 0
Known l = (line_of l ≡ malformed) ⊎ (Bounded (line_of l) × (text_of (line_of l) ≡ l))

module _ (word : List ℕ) (line : ℕ → ℕ → Line) (l : List ℕ) (starts : starts_with word l ≡ true)
    (behind : line_of l ≡ double line (drop (length word) l))
    (small : (x y : ℕ) → x < 4294967296 → y < 4294967296 → Bounded (line x y))
    (text : (x y : ℕ) → text_of (line x y) ≡ word ++ (digits x ++ space ∷ digits y)) where
  two-numbers : (o p : Option ℕ) → number_of (before space (drop (length word) l)) ≡ o → number_of (beyond space (drop (length word) l)) ≡ p
      → Known l
  unfolding two_numbers
  two-numbers none p e f = inl (behind ∙ rw e)
  two-numbers (some x) none e f = inl (behind ∙ rw (e, f))
  two-numbers (some x) (some y) e f =
      let r = drop (length word) l in
      let s = number_only (before space r) x e in
      let t = number_only (beyond space r) y f in
      let c : line_of l ≡ line x y = behind ∙ rw (e, f) in
      let some-y : 0 < length (beyond space r) = rw t.0 (length_some y) in
      inr (rw c (
        small x y s.1 t.1,
        text x y
            ∙ ap (λ m. word ++ m)
            (ap (λ m. m ++ space ∷ digits y) (sym s.0) ∙ ap (λ m. before space r ++ space ∷ m) (sym t.0) ∙ between space r some-y)
            ∙ starts_split word l starts,
      ))

  two-known : Known l
  two-known = two-numbers (number_of (before space (drop (length word) l))) (number_of (beyond space (drop (length word) l))) refl refl

module _ (word : List ℕ) (line : ℕ → Line) (l : List ℕ) (starts : starts_with word l ≡ true)
    (behind : line_of l ≡ single line (drop (length word) l))
    (small : (x : ℕ) → x < 4294967296 → Bounded (line x))
    (text : (x : ℕ) → text_of (line x) ≡ word ++ digits x) where
  the_number : (o : Option ℕ) → number_of (drop (length word) l) ≡ o → Known l
  unfolding one_number
  the_number none e = inl (behind ∙ rw e)
  the_number (some x) e =
      let s = number_only (drop (length word) l) x e in
      let c : line_of l ≡ line x = behind ∙ rw e in
      inr (rw c (small x s.1, text x ∙ ap (λ m. word ++ m) (sym s.0) ∙ starts_split word l starts))

  one_known : Known l
  one_known = the_number (number_of (drop (length word) l)) refl

pub line_known : (l : List ℕ) → Known l
unfolding line_of text_of
line_known l = on (starts_with write_word l)
    (λ p. two-known write_word writes l p (rw p) (λ x y m n. (m, n)) (λ x y. refl))
    (λ p. on (starts_with read_word l)
    (λ q. two-known read_word reads l q (rw (p, q)) (λ x y m n. (m, n)) (λ x y. refl))
    (λ q. on (starts_with deliver_word l)
    (λ r. one_known deliver_word delivers l r (rw (p, q, r)) (λ x m. m) (λ x. refl))
    (λ r. on (starts_with crash_word l)
    (λ s. one_known crash_word crashes l s (rw (p, q, r, s)) (λ x m. m) (λ x. refl))
    (λ s. inl (rw (p, q, r, s))))))

-- Long texts. "The longest line is `write 4294967295 4294967295`."

text_short : (line : Line) → Bounded line → length (text_of line) ≤ longest_line
unfolding text_of
text_short (writes m v) h = omega (arith, length-append (digits m) (space ∷ digits v), length-ten m h.0, length-ten v h.1)
text_short (reads m r) h = omega (arith, length-append (digits m) (space ∷ digits r), length-ten m h.0, length-ten r h.1)
text_short (delivers m) h = omega (arith, length-ten m h)
text_short (crashes m) h = omega (arith, length-ten m h)
text_short malformed h = absurd h

pub line_long : (l : List ℕ) → longest_line < length l → line_of l ≡ malformed
line_long l h = ⊎_elim
    (λ e. e)
    (λ k. let s : length l ≤ longest_line = (rw k.1 at (text_short (line_of l) k.0)) in absurd (omega arith))
    (line_known l)

-- The first line.

pub members_reads : (n : ℕ) → n < 4294967296 → first_of (members_word ++ digits n) ≡ some n
unfolding first_of starts_with
members_reads n h = number_digits n h

pub members_only : (l : List ℕ) (n : ℕ) → first_of l ≡ some n → (members_word ++ digits n ≡ l) × (n < 4294967296)
unfolding first_of
members_only l n e = on (starts_with members_word l)
    (λ p. let s = number_only (drop 8 l) n (rw p at e) in
    (ap (λ m. members_word ++ m) (sym s.0) ∙ starts_split members_word l p, s.1))
    (λ p. let z : ◌≡◌ {A = ℕ} 0 1 = (cc (rw p at e)) in absurd (omega arith))

pub members_long : (l : List ℕ) → longest_line < length l → first_of l ≡ none
members_long l h = go (first_of l) refl
  where
    go : (o : Option ℕ) → first_of l ≡ o → first_of l ≡ none
    go none e = e
    go (some n) e =
        let s = members_only l n e in
        absurd (omega (arith, ap length s.0, length-ten n s.1))

-- A program need keep no more of a line than one byte beyond the longest.

module _ {A : Type 0} (f : List ℕ → A) (d : A) (long : (l : List ℕ) → longest_line < length l → f l ≡ d) where
  pub kept : (l : List ℕ) → f (take (longest_line + 1) l) ≡ f l
  kept l = on (ltb longest_line (length l))
      (λ p. let h : longest_line < length l = ltb-true longest_line (length l) p in
      long (take (longest_line + 1) l) (simp length-take (omega arith)) ∙ sym (long l h))
      (λ p. ap f (take_all (longest_line + 1) l (let h : length l ≤ longest_line = ltb-false longest_line (length l) p in omega arith)))

pub line_kept : (l : List ℕ) → line_of (take (longest_line + 1) l) ≡ line_of l
line_kept = kept line_of malformed line_long

pub members_kept : (l : List ℕ) → first_of (take (longest_line + 1) l) ≡ first_of l
members_kept = kept first_of none members_long

-- The lines of a script one by one: the first ends before the first line feed.
pub lines_step : (l : List ℕ) → 0 < length l → lines_of l ≡ before line_feed l ∷ lines_of (beyond line_feed l)
unfolding lines_of with_byte before beyond
lines_step [] h = absurd (omega arith)
lines_step (b ∷ []) h = on (eqb b line_feed) (λ p. rw p) (λ p. rw p)
lines_step (b ∷ (a ∷ l)) h = on (eqb b line_feed)
    (λ p. rw p)
    (λ p. rw (p, lines_step (a ∷ l) (omega arith)))

-- The lines of a text, one after the other: the first is what stands before the first line feed, and the others stand behind that.

pub before_within : (b : ℕ) (l : List ℕ) → length (before b l) ≤ length l
unfolding before
before_within b [] = omega arith
before_within b (a ∷ l) = on (eqb a b) (λ p. rw p (omega arith)) (λ p. rw p (omega (arith, before_within b l)))

pub take-before : (b : ℕ) (l : List ℕ) → take (length (before b l)) l ≡ before b l
unfolding before
take-before b [] = refl
take-before b (a ∷ l) = on (eqb a b) (λ p. rw p) (λ p. rw p (ap (λ m. a ∷ m) (take-before b l)))

pub drop-beyond : (b : ℕ) (l : List ℕ) → drop (length (before b l) + 1) l ≡ beyond b l
unfolding before beyond
drop-beyond b [] = refl
drop-beyond b (a ∷ l) = on (eqb a b)
    (λ p. rw p)
    (λ p. rw (p, add-one) (ap (λ k. drop k l) (sym (add-one (length (before b l)))) ∙ drop-beyond b l))

lines_split : (b : ℕ) (l : List ℕ) → lines_of (b ∷ l) ≡ before line_feed (b ∷ l) ∷ lines_of (beyond line_feed (b ∷ l))
unfolding lines_of with_byte before beyond
lines_split b [] = on (eqb b line_feed) (λ p. rw p) (λ p. rw p)
lines_split b (a ∷ l) = on (eqb b line_feed) (λ p. rw p) (λ p. rw p (ap (with_byte b) (lines_split a l)))

pub first_line_lem : (l : List ℕ) → 0 < length l
    → lines_of l ≡ take (length (before line_feed l)) l ∷ lines_of (drop (length (before line_feed l) + 1) l)
first_line_lem [] h = absurd (omega arith)
first_line_lem (b ∷ l) h = rw (take-before, drop-beyond) (lines_split b l)

pub no_line_lem : (l : List ℕ) → length l ≤ 0 → lines_of l ≡ []
unfolding lines_of
no_line_lem [] h = refl
no_line_lem (b ∷ l) h = absurd (omega arith)

-- The place of the first byte b, as the code finds it.

before_length : (b : ℕ) (l : List ℕ) → length (before b l) ≡ position_or_len (λ x. eqb x b) l
unfolding before
before_length b [] = refl
before_length b (a ∷ l) = on (eqb a b) (λ p. rw p) (λ p. rw p (omega (arith, before_length b l)))

pub found_end : (b : ℕ) (l : List ℕ) → unwrap_or (position (λ x. eqb x b) l) (length l) ≡ length (before b l)
found_end b l = rw (sym (before_length b l)) (on (ltb (length (before b l)) (length l))
    (λ p. rw p)
    (λ p. rw p (omega (arith, before_within b l, ltb-false (length (before b l)) (length l) p))))

pub found_none : (b : ℕ) (l : List ℕ) → position (λ x. eqb x b) l ≡ None → length (beyond b l) ≡ 0
found_none b l e = on (ltb (length (before b l)) (length l))
    (λ p. let z : Some (length (before b l)) ≡ None = (rw (sym (before_length b l), p) at e) in cc)
    (λ p. let z = ltb-false (length (before b l)) (length l) p in rw (← drop-beyond, length-drop) (omega arith))

pub found_at : (b : ℕ) (l : List ℕ) (i : ℕ) → position (λ x. eqb x b) l ≡ Some i
    → (i < length l) × ((take i l ≡ before b l) × (drop (i + 1) l ≡ beyond b l))
found_at b l i e = on (ltb (length (before b l)) (length l))
    (λ p. let z : Some (length (before b l)) ≡ Some i = (rw (sym (before_length b l), p) at e) in
    let z : length (before b l) ≡ i = cc in
    rw (sym z) (ltb-true (length (before b l)) (length l) p, (take-before b l, drop-beyond b l)))
    (λ p. let z : None ≡ Some i = (rw (sym (before_length b l), p) at e) in cc)
