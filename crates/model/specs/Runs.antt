-- Calls, and what is seen of a run: each call on the board that the one before left. Document 01, demand 3: "any list of begins,
-- delivers and crashes, refused ones included".
use Rattle.std.specs.Prelude.{ℕ, cond, List, [], ◌∷◌, eqb}
use Rattle.std.proofs.Math.Option.{Option, none}
use Rattle.model.specs.Records.{Value}
use Rattle.model.specs.Kinds.{Kind}
use Rattle.model.specs.Numbers.{begin_answer, deliver_answer, crash_answer}
use Rattle.model.specs.Board.{Board, board_begun, board_delivered, board_returned, board_crashed}

-- begin by a member, on a slot, of a type, with a value; deliver and crash of a member
pub data Call : Type 0 where
  begin : ℕ → ℕ → ℕ → Value → Call
  deliver : ℕ → Call
  crash : ℕ → Call

-- what is seen at a call: the answer, every member's phase after it, and the value returned or none
pub record Seen : Type 0 where
  pub answer : ℕ
  pub phases : ℕ → ℕ
  pub returned : Option Value

-- a call and what was seen at it
pub data Step : Type 0 where
  step : Call → Seen → Step

unfoldable pub answer_of : Kind → ℕ → Board → Call → ℕ
answer_of kind n b (begin i r t v) =
    let m = b.members i in
    begin_answer kind n m.phase m.crashed (m.own r) i r t
answer_of kind n b (deliver i) = let m = b.members i in deliver_answer n m.phase m.crashed i
answer_of kind n b (crash i) = let m = b.members i in crash_answer n m.phase m.crashed i

-- the board after a call that is answered 0, and what it returns
unfoldable pub done : ℕ → Board → Call → Board
done n b (begin i r t v) = board_begun b i r t v
done n b (deliver i) = board_delivered n b i
done n b (crash i) = board_crashed b i

unfoldable pub done_returns : Board → Call → Option Value
done_returns b (begin i r t v) = none
done_returns b (deliver i) = board_returned b i
done_returns b (crash i) = none

-- "a refusal changes nothing"
unfoldable pub after : Kind → ℕ → Board → Call → Board
after kind n b call = cond (eqb (answer_of kind n b call) 0) (done n b call) b

unfoldable pub seen_at : Kind → ℕ → Board → Call → Seen
seen_at kind n b call = record {
  answer = answer_of kind n b call;
  phases = λ k. ((after kind n b call).members k).phase;
  returned = cond (eqb (answer_of kind n b call) 0) (done_returns b call) none;
}

unfoldable pub run : Kind → ℕ → Board → List Call → List Seen
run kind n b [] = []
run kind n b (call ∷ calls) = seen_at kind n b call ∷ run kind n (after kind n b call) calls

-- the board on which each call is made
unfoldable pub boards : Kind → ℕ → Board → List Call → List Board
boards kind n b [] = []
boards kind n b (call ∷ calls) = b ∷ boards kind n (after kind n b call) calls
