-- Laws of printing: texts written one behind the other.
use Prim.Native.Nat.{ℕ, ◌+◌, ◌≤◌, ◌<◌}
use native.Mathlib.Numerals.{add-one}
use native.Mathlib.Omega.{arith}
use mathlib.Core.Path.{◌≡◌, refl, sym, ap, ◌∙◌}
use mathlib.Core.List.{List, [], ◌∷◌, ◌++◌}
use lib.ListN.{length, take, drop, set, length-append, get_or-append, take-append-drop}
use lib.Seq.{set_split, drop-drop, get_or-append-add}
use Rattle.lists.specs.Functions.{pasted}
use Rattle.lists.specs.Parts.{words, replaced}
use Rattle.lists.proofs.Functions.{pasted_same}
use Rattle.lists.proofs.Functions.{pasted_join}
use Rattle.lists.proofs.Parts.{length-replaced, words_replaced, replaced_by}
use Rattle.model.specs.Script.{or_dash, field, printed_line, board_line, refused_line}
use Rattle.std.specs.Prelude.{Option, Some, None}
use Rattle.std.specs.Option.{IfSome}
use Rattle.std.proofs.Math.Option.{some}
use Rattle.script.specs.Meaning.{longest_printed, given, Printed}
use Rattle.script.proofs.Digits.{length-ten}

-- one byte
pub set-replaced : (l : List ℕ) (a v : ℕ) → a < length l → set l a v ≡ replaced l a (v ∷ [])
set-replaced l a v h = set_split l a v h ∙ ap (λ d. take a l ++ v ∷ d) (sym (drop-drop 1 a l ∙ ap (λ n. drop n l) (add-one a)))

-- a text behind another
module _ (l : List ℕ) (a : ℕ) (p q : List ℕ) (fits : a + length (p ++ q) ≤ length l) where
  room : a + length p + length q ≤ length l
  room = omega (arith, rw length-append at fits)

  pub replaced_append : replaced (replaced l a p) (a + length p) q ≡ replaced l a (p ++ q)
  unfolding room
  replaced_append =
      let one : a + length p ≤ length l = omega (arith, room) in
      let two : a + length p + length q ≤ length (replaced l a p) = rw (length-replaced l a p one) room in
      replaced_by l (replaced (replaced l a p) (a + length p) q) a (p ++ q) fits
      (length-replaced (replaced l a p) (a + length p) q two ∙ length-replaced l a p one)
      (words_replaced (replaced l a p) (a + length p) q two
      ∙ ap (pasted (a + length p) (length q) (words q))
      (words_replaced l a p one
      ∙ pasted_same a (length p) (words p) (words (p ++ q)) (words l) (λ i h. sym (get_or-append p q 0 i h)))
      ∙ pasted_join a (length p) (length q) (words (p ++ q)) (words q) (words l) (λ i h. sym (get_or-append-add p q i 0))
      ∙ ap (λ k. pasted a k (words (p ++ q)) (words l)) (sym (length-append p q)))

-- What one call printed, and then another behind it.

pub printed_one : (l : List ℕ) (a v : ℕ) → a < length l → Printed l (set l a v) a (v ∷ []) (a + 1)
printed_one l a v h = record { behind = refl; bytes = set-replaced l a v h }

pub printed_none : (l : List ℕ) (a : ℕ) → Printed l l a [] a
printed_none l a = record { behind = omega arith; bytes = sym (take-append-drop a l) }

pub room_first : (l : List ℕ) (a : ℕ) (p q : List ℕ) → a + length (p ++ q) ≤ length l → a + length p ≤ length l
room_first l a p q fits = omega (arith, rw length-append at fits)

module _ {l m : List ℕ} {a : ℕ} {p : List ℕ} {r : ℕ} (one : Printed l m a p r) (q : List ℕ) (fits : a + length (p ++ q) ≤ length l) where
  pub room_then : r + length q ≤ length m
  room_then =
      let long : length m ≡ length l = ap length one.bytes ∙ length-replaced l a p (room_first l a p q fits) in
      omega (arith, one.behind, rw length-append at fits)

  pub printed_then : {k : List ℕ} {s : ℕ} → Printed m k r q s → Printed l k a (p ++ q) s
  printed_then two = record {
    behind =
        two.behind ∙ ap (λ n. n + length q) one.behind
        ∙ (let e : a + length p + length q ≡ a + length (p ++ q) = omega (arith, length-append p q) in e);
    bytes =
        two.bytes ∙ ap (λ n. replaced m n q) one.behind ∙ ap (λ x. replaced x (a + length p) q) one.bytes
        ∙ replaced_append l a p q fits;
  }

-- How long a field and a line are at most.

dash_short : (x : Option ℕ) → IfSome x (λ v. v < 4294967296) → length (or_dash (given x)) ≤ 10
unfolding or_dash
dash_short None h = omega arith
dash_short (Some x) h = length-ten x h

pub field_short : (x end : ℕ) → x < 4294967296 → length (field (some x) end) ≤ 11
field_short x end h = simp length-append (omega (arith, dash_short (Some x) h))

pub line_short : (step answer : ℕ) (phase word : Option ℕ) → step < 4294967296 → answer < 4294967296
    → IfSome phase (λ v. v < 4294967296) → IfSome word (λ v. v < 4294967296)
    → length (printed_line step answer (given phase) (given word)) ≤ longest_printed
unfolding printed_line
line_short step answer phase word a b c d =
    simp length-append
    (omega (arith, dash_short (Some step) a, dash_short (Some answer) b, dash_short phase c, dash_short word d))

pub board_short : (n : ℕ) → n < 4294967296 → length (board_line n) ≤ 17
unfolding board_line
board_short n h = simp length-append (omega (arith, dash_short (Some n) h))

pub refused_short : (number : ℕ) → number < 4294967296 → length (refused_line number) ≤ 25
unfolding refused_line
refused_short number h = simp length-append (omega (arith, dash_short (Some number) h))
