-- The worked cases on tables of words: a case that starts from an opened board holds of every table that opening took.
-- Such a table's run is the board's (Tables.antt).
use Prim.Native.Nat.{ℕ, ◌+◌, ◌-◌}
use native.Mathlib.Omega.{arith}
use mathlib.Core.Path.{◌≡◌, refl, sym, ap, ◌∙◌, fun_ext}
use mathlib.Core.Bool.{true, false, false≢true}
use mathlib.Core.List.{List, [], ◌∷◌, ◌++◌}
use lib.Dec.{eqb}
use borrow.Author.Tests.{eqb-true, eqb-false}
use Rattle.lists.specs.Functions.{put, inside, numbered}
use Rattle.lists.proofs.Functions.{◌and◌, on, inside_low, put_off}
use Rattle.model.specs.Records.{zero_value}
use Rattle.model.specs.Kinds.{Kind, concur, auction}
use Rattle.model.specs.Board.{Board, opened}
use Rattle.model.specs.Runs.{Call, Seen, after, run}
use Rattle.lists.specs.Every.{Every}
use Rattle.model.specs.RecordWords.{value_of}
use Rattle.model.specs.Table.{table_words}
use Rattle.model.specs.TableCalls.{open_number, open_words, board_in, table_run}
use Rattle.runs.specs.Case.{Case, Claim, left, answer_to, found, Holds, table_left, found_in_words, HoldsInWords}
use Rattle.runs.specs.Cases.{p1, p9, p12, refusals, of_either_kind, from_opening}
use Rattle.runs.specs.AuctionCases.{auction_openings, auction_limits}
use Rattle.runs.specs.OwnReadCases.{writes_alone}
use Rattle.runs.specs.ReplyCases.{reply_cases}
use Rattle.runs.proofs.Cases.{every_case, every_auction_case}
use Rattle.laws.proofs.Sound.{SoundBoard}
use Rattle.runs.proofs.Sound.{opened_sound}
use Rattle.runs.proofs.Held.{HeldBoard, ValueHeld, CallHeld, opened_held}
use Rattle.runs.proofs.Tables.{board_in_lem, same_after, after_sound, after_held, same_run, open_size}

module _ (kind : Kind) (n : ℕ) (size : inside kind.most n ≡ true) where
  -- what a list of calls leaves of the table is what it leaves of the board
  same_left : (b : Board) → SoundBoard n b → HeldBoard n b → (calls : List Call) → Every CallHeld calls
      → board_in (table_left kind (table_words n b) calls) ≡ left kind n b calls
  unfolding table_left left
  same_left b s h [] v = board_in_lem n b h
  same_left b s h (call ∷ calls) v =
      ap (λ l. board_in (table_left kind l calls)) (same_after kind n size b s h call)
      ∙ same_left (after kind n b call) (after_sound kind n size b s call) (after_held kind n size b s h call v.0) calls v.1

-- what is asked of the three things that were found to be equal
same_answers : (kind : Kind) (n : ℕ) (calls : List Call) (claims : List Claim) (a b c d : Board) (s t : List Seen)
    → a ≡ b → c ≡ d → s ≡ t
    → Every (λ q. answer_to kind n calls b d t q.question ≡ q.lines) claims
    → Every (λ q. answer_to kind n calls a c s q.question ≡ q.lines) claims
same_answers kind n calls claims a b c d s t p q r h = rw (p, q, r) h

pub case_in_words : (kind : Kind) (c : Case) → c.start ≡ opened c.n → Every CallHeld c.calls → (l : List ℕ)
    → open_number kind c.n l ≡ 0 → Holds kind c → HoldsInWords kind c (open_words kind c.n l)
unfolding found found_in_words open_words
case_in_words kind c e v l o h =
    let n = c.n in
    let size = open_size kind n l o in
    rw o (same_answers kind n c.calls c.claims
    (board_in (table_words n (opened n))) c.start
    (board_in (table_left kind (table_words n (opened n)) c.calls)) (left kind n c.start c.calls)
    (table_run kind (table_words n (opened n)) c.calls) (run kind n c.start c.calls)
    (board_in_lem n (opened n) (opened_held n) ∙ sym e)
    (same_left kind n size (opened n) (opened_sound n) (opened_held n) c.calls v ∙ ap (λ b. left kind n b c.calls) (sym e))
    (same_run kind n size (opened n) (opened_sound n) (opened_held n) c.calls v ∙ ap (λ b. run kind n b c.calls) (sym e))
    h)

-- The values of scripts have 8 words.

-- a value that is zero outside 1 to 8
value_held : (v : ℕ → ℕ) → ((k : ℕ) → inside 8 k ≡ false → v k ≡ 0) → ValueHeld v
unfolding value_of numbered
value_held v off = fun_ext λ k. on (inside 8 k)
    (λ p. let e : k - 1 + 1 ≡ k = omega (arith, inside_low 8 k p) in rw p (ap v e))
    (λ p. rw p (sym (off k p)))

pub zero_held : ValueHeld zero_value
unfolding zero_value
zero_held = value_held (λ k. 0) (λ k p. refl)

pub last_held : (w : ℕ) → ValueHeld (put zero_value 8 w)
unfolding zero_value inside
last_held w = value_held (put zero_value 8 w) (λ k p. on (eqb k 8)
    (λ e. absurd (let d : k ≡ 8 = eqb-true k 8 e in false≢true (sym p ∙ ap (inside 8) d)))
    (λ e. put_off zero_value 8 w k (eqb-false k 8 e)))

-- From an opened board, by calls whose values have 8 words.
abbrev Opened : Case → Type 0
Opened c = (c.start ≡ opened c.n) × Every CallHeld c.calls

ruleset held = (zero_held, last_held)

-- each of P2 to P8 and P10, of the crashes, of the false programs, of own reads, of P12
all_opened : Every Opened from_opening
all_opened =
    (refl, search held depth 40)
    and (refl, search held depth 40)
    and (refl, search held depth 40)
    and (refl, search held depth 40)
    and (refl, search held depth 40)
    and (refl, search held depth 40)
    and (refl, search held depth 40)
    and (refl, search held depth 40)
    and (refl, search held depth 40)
    and (refl, search held depth 40)
    and (refl, search held depth 40)
    and (refl, search held depth 40)
    and (refl, search held depth 40)
    and (refl, search held depth 40)
    and (refl, search held depth 40)
    and (refl, search held depth 40)
    and (refl, search held depth 40)
    and (refl, search held depth 40)
    and (refl, search held depth 40)
    and (refl, search held depth 40)
    and (refl, search held depth 40)
    and (refl, search held depth 40)
    and (refl, search held depth 40)
    and (refl, search held depth 40)
    and tt

module _ {A : Type 0} (P : A → Type 0) where
  behind : (xs ys : List A) → Every P (xs ++ ys) → Every P ys
  behind [] ys h = h
  behind (x ∷ xs) ys h = behind xs ys h.1

  before : (xs ys : List A) → Every P (xs ++ ys) → Every P xs
  before [] ys h = tt
  before (x ∷ xs) ys h = (h.0, before xs ys h.1)

abbrev InWords : Kind → Case → Type 0
InWords kind c = (l : List ℕ) → open_number kind c.n l ≡ 0 → HoldsInWords kind c (open_words kind c.n l)

each_in_words : (kind : Kind) (cs : List Case) → Every Opened cs → Every (Holds kind) cs → Every (InWords kind) cs
each_in_words kind [] o h = tt
each_in_words kind (c ∷ cs) o h =
    ((λ l n. case_in_words kind c o.0.0 o.0.1 l n h.0), each_in_words kind cs o.1 h.1)

-- The cases P2 to P8, P10 and P12, of crashes and own reads, and those against false programs, on whatever table of words opening took.
pub every_case_in_words : Every (InWords concur) from_opening
every_case_in_words =
    each_in_words concur from_opening all_opened
    (before (Holds concur) from_opening rest (behind (Holds concur) p1 (from_opening ++ rest) every_case))
  where
    rest : List Case
    rest = (p9 ∷ refusals ∷ writes_alone ∷ []) ++ reply_cases

-- Those of either kind, on whatever table the auction's opening took.
pub every_auction_case_in_words : Every (InWords auction) of_either_kind
every_auction_case_in_words =
    each_in_words auction of_either_kind (before Opened of_either_kind p12 all_opened)
    (behind (Holds auction) alone of_either_kind (behind (Holds auction) auction_openings (alone ++ of_either_kind) every_auction_case))
  where
    alone : List Case
    alone = auction_limits ++ (refusals ∷ [])
