-- The next line of a script, as `Lines` gives it: the bytes before the first line feed; then those behind it are left. Whether all lines
-- have the form of a step, by whether each is read. And the lines that are still to run, where one is left out.
use Rattle.std.proofs.Common.{◌≡◌, ◌<◌, ℕ, ◌+◌, ◌-◌, List, [], ◌∷◌, length, Bool, true, false}
use Rattle.std.specs.Bool.{MatchBool}
use Rattle.std.specs.List.{AllWithin, HoldsAt}
use Rattle.std.specs.Option.{is_some}
use Prim.Native.Nat.{zero, suc}
use mathlib.Core.Path.{refl, ap, sym, ◌∙◌}
use native.Mathlib.Omega.{arith}
use borrow.Author.Tests.{ne_eqb}
use lib.ListN.{take, drop}
use lib.Seq.{drop-drop}
use Rattle.lists.proofs.Functions.{fails}
use Rattle.model.specs.Script.{line_feed, before, Line, writes, reads, delivers, crashes, malformed, line_call, call_of, lines_of}
use Rattle.model.specs.Overtaker.{is_call, well_formed}
use Rattle.model.specs.Cause.{without}
use Rattle.model.proofs.Cause.{without_none}
use Rattle.script.specs.Meaning.{held_line}
use Rattle.script.proofs.Lines.{first_line_lem}

pub next_line : (l : List ℕ) (long : ℕ) → 0 < length l → long ≡ length (before line_feed l)
    → lines_of l ≡ take long l ∷ lines_of (drop 1 (drop long l))
next_line l long some ends =
    rw ends (first_line_lem l some
    ∙ ap (λ m. take (length (before line_feed l)) l ∷ lines_of m) (sym (drop-drop 1 (length (before line_feed l)) l)))

-- a line that is read makes a call
pub read_call : (line : Line) → is_some (held_line line) ≡ is_call (call_of line)
unfolding call_of is_call
read_call (writes m v) = refl
read_call (reads m r) = refl
read_call (delivers m) = refl
read_call (crashes m) = refl
read_call malformed = refl

abbrev pub Makes : Bool → List ℕ → Type 0
Makes b line = is_call (line_call line) ≡ b

all_formed : (lines : List (List ℕ)) → AllWithin (Makes true) lines 0 (length lines) → well_formed lines ≡ true
unfolding well_formed
all_formed [] h = refl
all_formed (line ∷ lines) h =
    rw (h 0 line (omega arith) (omega arith)) (all_formed lines (λ k d low high. h (suc k) d (omega arith) (omega arith)))

one_malformed : (lines : List (List ℕ)) (k : ℕ) → k < length lines → HoldsAt (Makes false) lines k → well_formed lines ≡ false
unfolding well_formed
one_malformed [] k h m = absurd (omega arith)
one_malformed (line ∷ lines) zero h m = rw (m line)
one_malformed (line ∷ lines) (suc k) h m = fails (is_call (line_call line)) (one_malformed lines k (omega arith) m)

pub formed_so : (lines : List (List ℕ)) (b : Bool)
    → MatchBool b (AllWithin (Makes true) lines 0 (length lines)) ((k : ℕ) × (k < length lines) × HoldsAt (Makes false) lines k)
    → b ≡ well_formed lines
formed_so lines true h = sym (all_formed lines h)
formed_so lines false h = sym (one_malformed lines h.0 h.1 h.2)

-- The lines that are still to run, when `number` lines are passed and the one of number `skip` is left out.
module _ (skip : ℕ) where
  abbrev pub ahead : ℕ → List (List ℕ) → List (List ℕ)
  ahead number lines = without (skip - number) lines

  pub first_ahead : (lines : List (List ℕ)) → without skip lines ≡ ahead 0 lines
  first_ahead lines = let all : skip ≡ skip - 0 = omega arith in ap (λ k. without k lines) all

  module _ (number : ℕ) (line : List ℕ) (lines : List (List ℕ)) where
    pub skips-line : number + 1 ≡ skip → ahead number (line ∷ lines) ≡ ahead (number + 1) lines
    unfolding without
    skips-line e =
        let here : skip - number ≡ 1 = omega arith in
        let none_left : skip - (number + 1) ≡ 0 = omega arith in
        rw (here, none_left) (sym (without_none lines))

    pub runs-line : (number + 1 ≡ skip → ⊥) → ahead number (line ∷ lines) ≡ line ∷ ahead (number + 1) lines
    unfolding without
    runs-line d =
        let later : skip - number - 1 ≡ skip - (number + 1) = omega arith in
        rw (ne_eqb (skip - number) 1 (λ e. d (omega arith))) (ap (λ k. line ∷ without k lines) later)

  pub none_ahead : (number : ℕ) → ahead number [] ≡ []
  unfolding without
  none_ahead number = refl
