-- What a call on a table that passed its check leaves and answers.
use Prim.Native.Nat.{ℕ}
use native.Mathlib.Omega.{arith}
use mathlib.Core.Path.{◌≡◌, refl, sym, ap, ◌∙◌}
use mathlib.Core.Bool.{false}
use mathlib.Core.List.{List}
use mathlib.Core.Option.{none}
use lib.Dec.{eqb}
use borrow.Author.Tests.{ne_eqb}
use Rattle.lists.specs.Functions.{inside, Within}
use Rattle.lists.specs.Parts.{words}
use Rattle.lists.proofs.Functions.{inside_in}
use Rattle.model.specs.Kinds.{Kind, concur}
use Rattle.model.specs.Records.{Value}
use Rattle.model.specs.Numbers.{fields_number, begin_answer, deliver_answer, crash_answer}
use Rattle.model.specs.Member.{Member, returned_by}
use Rattle.model.specs.Board.{Board, outcome_taken, board_delivered, board_returned}
use Rattle.model.specs.Runs.{Call, begin, deliver, crash, answer_of, done, after}
use Rattle.model.specs.Table.{board_of, member_of}
use Rattle.model.proofs.Answers.{deliver_taken}
use Rattle.model.proofs.Steps.{board_phase}
use Rattle.laws.proofs.Sound.{board_parts}
use Rattle.std.specs.Prelude.{Result, Ok, Err, IsErr, IsErrAnd, Option as Returned}
use Rattle.rules.specs.Refusals.{number, answer as answered}
use Rattle.rules.specs.declared.refusal.Refusal.{Refusal}
use Rattle.rules.proofs.Refusals.{handed_on, refuses as positive}
use Rattle.member_block.specs.Results.{returned_of}
use Rattle.tables.proofs.Lent.{part, BlockLent, member_lent}
use Rattle.tables.specs.Needs.{Table, Sound, Left}
use Rattle.table_calls.specs.Needs.{Turn, Answered}

module _ (kind : Kind) (n : ℕ) (l : List ℕ) (call : Call) where
  abbrev answer : ℕ
  answer = answer_of kind n (board_of n (words l)) call

  -- A call on a table that passed its check: refused, the table is as it was; else it is the step's.
  pub refuses : (refusal : Refusal) → Table n l → number refusal ≡ answer → Answered kind n l call (number refusal) l
  unfolding after
  refuses refusal t e = record { number = e; left = record { table = t; board = rw (← e, positive refusal) } }

  -- the same of a refusal that `?` hands on
  pub hands_on : {A : Type 0} (r : Result A Refusal) (refusal : Refusal) → IsErrAnd r (λ e. e ≡ refusal) → Table n l
      → number refusal ≡ answer → Answered kind n l call (answered r) l
  hands_on r refusal h t e = rw (handed_on r refusal h refl) (refuses refusal t e)

  pub takes : (exit : List ℕ) → 0 ≡ answer → Left n (done n (board_of n (words l)) call) exit → Answered kind n l call 0 exit
  unfolding after
  takes exit e h = record { number = e; left = rw (← e) h }

-- What a deliver that is refused hands back.
pub none_returned : (r : Result (Returned (List ℕ)) Refusal) → IsErr r → returned_of r ≡ none
none_returned (Ok value) h = cc
none_returned (Err refusal) h = refl

-- What the block that is lent answers is the board's answer.
module _ {n i at size : ℕ} {l : List ℕ} (h : BlockLent n i l at size) where
  abbrev m : Member
  m = member_of n (words (part l at size))

  pub begin-asked : {k : ℕ} (kind : Kind) (r t : ℕ) (v : Value) → k ≡ begin_answer kind n m.phase m.crashed (m.own r) i r t
      → k ≡ answer_of kind n (board_of n (words l)) (begin i r t v)
  unfolding answer_of
  begin-asked kind r t v e = e ∙ ap (λ m. begin_answer kind n m.phase m.crashed (m.own r) i r t) (member_lent h)

  pub deliver-asked : {k : ℕ} → k ≡ deliver_answer n m.phase m.crashed i → k ≡ answer_of concur n (board_of n (words l)) (deliver i)
  unfolding answer_of
  deliver-asked e = e ∙ ap (λ m. deliver_answer n m.phase m.crashed i) (member_lent h)

  pub crash-asked : {k : ℕ} → k ≡ crash_answer n m.phase m.crashed i → k ≡ answer_of concur n (board_of n (words l)) (crash i)
  unfolding answer_of
  crash-asked e = e ∙ ap (λ m. crash_answer n m.phase m.crashed i) (member_lent h)

-- A deliver that nothing refuses has a member whose operation has a slot of the board.
pub turn : {n i : ℕ} {l : List ℕ} → Sound n l → Within n i
    → deliver_answer n ((board_of n (words l)).members i).phase ((board_of n (words l)).members i).crashed i ≡ 0 → Turn n i l
turn {n} {i} {l} s w h =
    let m = (board_of n (words l)).members i in
    let d = deliver_taken n m.phase m.crashed i h in
    let parts = (board_parts n (board_of n (words l)) s.sound).members i (inside_in n i w.least w.most) in
    let p = parts.phase in
    let low = d.not_idle in
    let high = d.not_halted in
    let o = parts.operates (inside_in 5 m.phase (omega arith) (omega arith)) in
    record { table = s.table; member = w; slot = record { least = o.slot_least; most = parts.slot } }

-- No member: number 4 of each call.
module _ (n : ℕ) (b : Board) (i : ℕ) where
  pub no_begin : (kind : Kind) (r t : ℕ) (v : Value) → inside n i ≡ false → 4 ≡ answer_of kind n b (begin i r t v)
  unfolding answer_of begin_answer fields_number
  no_begin kind r t v p = rw p

  pub no_deliver : inside n i ≡ false → 4 ≡ answer_of concur n b (deliver i)
  unfolding answer_of deliver_answer
  no_deliver p = rw p

  pub no_crash : inside n i ≡ false → 4 ≡ answer_of concur n b (crash i)
  unfolding answer_of crash_answer
  no_crash p = rw p

  -- in phases 1 to 3 nothing is returned
  pub none_taken : {p : ℕ} → (b.members i).phase ≡ p → eqb p 4 ≡ false → none ≡ board_returned b i
  unfolding board_returned returned_by
  none_taken e f = rw (e, f)

-- in phases 4 and 5 the outcome is taken
module _ (n : ℕ) (b : Board) (i p : ℕ) (e : (b.members i).phase ≡ p) where
  pub last_returned : returned_by (b.members i) (eqb p 4) ≡ board_returned b i
  unfolding board_returned
  last_returned = rw e

  pub last_phase : (p ≡ 1 → ⊥) → (p ≡ 2 → ⊥) → (p ≡ 3 → ⊥) → outcome_taken b i (eqb p 4) ≡ board_delivered n b i
  last_phase x y z = sym (board_phase n b i p e ∙ rw (ne_eqb p 1 x, ne_eqb p 2 y, ne_eqb p 3 z))
