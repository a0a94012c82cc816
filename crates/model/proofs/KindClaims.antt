-- The two kinds of board are as requested: an opening's numbers by the table of its grounds, a begin's ground by ground. Nothing but these
-- looks at a kind, so that a call which both kinds take does the same on both.
use Prim.Native.Nat.{ℕ}
use mathlib.Core.Path.{◌≡◌, refl, sym, ◌∙◌}
use mathlib.Core.List.{List, [], ◌∷◌}
use mathlib.Core.Logic.{inl, inr}
use native.Mathlib.Omega.{arith}
use lib.Dec.{eqb, leb}
use lib.ListN.{length}
use borrow.Author.Tests.{eqb-true, eqb-false, eq-eqb, ne_eqb, leb-true, le-leb, lt-leb}
use Rattle.lists.specs.Functions.{inside}
use Rattle.lists.specs.Parts.{words}
use Rattle.lists.proofs.Functions.{◌and◌, on}
use Rattle.lists.proofs.Refusals.{no_number, no_failure, grouped}
use Rattle.model.specs.Records.{Value}
use Rattle.model.specs.Kinds.{Kind, concur, auction}
use Rattle.model.specs.Numbers.{or_else, kind_number, begin_answer}
use Rattle.model.specs.NumberClaims.{OneTo}
use Rattle.model.specs.Runs.{Call, begin, deliver, crash, answer_of}
use Rattle.model.specs.Table.{table_size, member_in, table_number}
use Rattle.model.specs.Halves.{lent_number, member_begin_number, member_begin_words}
use Rattle.model.specs.TableCalls.{open_number, open_words, board_in, begin_number, call_number, table_answer, table_after, table_returns}
use Rattle.model.specs.TableCalls.{table_seen}
use Rattle.model.specs.KindClaims.{OpenNumbers, BeginOnLent, BeginOnTable, BeginOnBlock, Common, KindsAsRequested}
use Rattle.model.proofs.NumberTables.{Rows, Some, Give, three_rows}
use Rattle.model.proofs.NumberClaims.{one_to, none_such, is_inside, not_inside, numbers_as_listed}

-- Opening.
module _ (kind : Kind) (n : ℕ) (l : List ℕ) where
  abbrev open-rows : Rows
  open-rows =
      (1, OneTo kind.most n → ⊥)
      ∷ (2, OneTo kind.most n × (length l ≡ table_size n → ⊥))
      ∷ (0, OneTo kind.most n × (length l ≡ table_size n))
      ∷ []

  open-some : Some open-rows
  unfolding Some
  open-some = on (inside kind.most n)
      (λ p. let m = one_to kind.most n p in
      on (eqb (length l) (table_size n))
      (λ q. inr (inr (inl (m, eqb-true (length l) (table_size n) q))))
      (λ q. inr (inl (m, eqb-false (length l) (table_size n) q))))
      (λ p. inl (none_such kind.most n p))

  open_gives : Give (open_number kind n l) open-rows
  unfolding Give open_number
  open_gives =
      (λ g. rw (not_inside kind.most n g))
      and (λ g. rw (is_inside g.0, ne_eqb (length l) (table_size n) g.1))
      and (λ g. rw (is_inside g.0, eq-eqb (length l) (table_size n) g.1))
      and tt

  open-numbers : OpenNumbers kind.most n l (open_number kind n l)
  open-numbers =
      let e = three_rows (open_number kind n l) 1 2 _ _ _ (omega arith) open_gives open-some in
      record { one = e.0; two = e.1; done = e.2; no_other = e.3 }

-- Begin: what is lent, the kind's number, the rest.

begin_on_lent : (kind : Kind) (n own rest : ℕ) → BeginOnLent kind.most n own rest (or_else own (or_else (kind_number kind n) rest))
unfolding kind_number
begin_on_lent kind n own rest = record {
  first = λ h. rw (ne_eqb own 0 h);
  one = λ z h. simp (z, lt-leb n kind.most h);
  others = λ z h. simp (z, le-leb n kind.most h);
}

-- a begin's whole chain, behind whatever number is asked first
abbrev chain : Kind → ℕ → ℕ → ℕ → ℕ → ℕ → ℕ → ℕ → ℕ → ℕ
chain kind own n phase crashed count i r t = or_else own (or_else (kind_number kind n) (begin_answer kind n phase crashed count i r t))

table_chain : (kind : Kind) (l : List ℕ) (i r t : ℕ) (v : Value) → let m = (board_in l).members i in
    table_answer kind l (begin i r t v) ≡ chain kind (table_number l) (words l 0) m.phase m.crashed (m.own r) i r t
unfolding table_answer call_number begin_number answer_of
table_chain kind l i r t v =
    let m = (board_in l).members i in
    let n = words l 0 in
    grouped (table_number l) (kind_number kind n) (begin_answer kind n m.phase m.crashed (m.own r) i r t)

begin_on_table : (kind : Kind) → BeginOnTable kind.most kind
unfolding answer_of
begin_on_table kind l i r t v =
    let m = (board_in l).members i in
    let n = words l 0 in
    rw (table_chain kind l i r t v)
    (begin_on_lent kind n (table_number l) (begin_answer kind n m.phase m.crashed (m.own r) i r t))

begin_on_block : (kind : Kind) → BeginOnBlock kind.most kind
unfolding member_begin_number
begin_on_block kind n i l r t =
    let m = member_in n l in
    begin_on_lent kind n (lent_number n i l) (begin_answer kind n m.phase m.crashed (m.own r) i r t)

-- What the auction's opening and begin take, the common ones take too.

few_of_twelve : (n : ℕ) → OneTo auction.most n → OneTo concur.most n
few_of_twelve n h = omega arith

open_alike_lem : (n : ℕ) (l : List ℕ) → open_number auction n l ≡ 0
    → (open_number concur n l ≡ 0) × (open_words auction n l ≡ open_words concur n l)
unfolding open_words
open_alike_lem n l h =
    let k = (open-numbers auction n l).done.0 h in
    let z = (open-numbers concur n l).done.1 (few_of_twelve n k.0, k.1) in
    (z, rw (h, z))

-- the numbers before 4, where the last of them is the kind's
sized_alike : (n : ℕ) → kind_number auction n ≡ 0 → kind_number concur n ≡ 0
unfolding kind_number
sized_alike n h =
    let few = leb-true n auction.most (no_failure (leb n auction.most) (omega arith) h).0 in
    rw (le-leb n concur.most (omega arith))

begun_alike : (n phase crashed count i r t : ℕ) → begin_answer auction n phase crashed count i r t ≡ 0
    → begin_answer concur n phase crashed count i r t ≡ 0
begun_alike n phase crashed count i r t h =
    let k = ((numbers_as_listed n).auction_begins phase crashed count i r t).done.0 h in
    ((numbers_as_listed n).concur_begins phase crashed count i r t).done.1 (k.0, k.1, k.2, k.3, k.4, omega (arith, k.5))

chain_alike : (own n phase crashed count i r t : ℕ)
    → chain auction own n phase crashed count i r t ≡ 0 → chain concur own n phase crashed count i r t ≡ 0
chain_alike own n phase crashed count i r t h =
    let o = no_number own h in
    let s = no_number (kind_number auction n) o.1 in
    rw (o.0, sized_alike n s.0) (begun_alike n phase crashed count i r t s.1)

begin_alike_lem : (l : List ℕ) (i r t : ℕ) (v : Value) → table_answer auction l (begin i r t v) ≡ 0
    → table_answer concur l (begin i r t v) ≡ 0
begin_alike_lem l i r t v h =
    let m = (board_in l).members i in
    table_chain concur l i r t v
    ∙ chain_alike (table_number l) (words l 0) m.phase m.crashed (m.own r) i r t (sym (table_chain auction l i r t v) ∙ h)

member_alike : (n i : ℕ) (l : List ℕ) (r t : ℕ) → member_begin_number auction n i l r t ≡ 0 → member_begin_number concur n i l r t ≡ 0
unfolding member_begin_number
member_alike n i l r t = let m = member_in n l in chain_alike (lent_number n i l) n m.phase m.crashed (m.own r) i r t

member_left_alike : (n i : ℕ) (l : List ℕ) (r t : ℕ) (v : Value) → member_begin_number auction n i l r t ≡ 0
    → member_begin_words auction n i l r t v ≡ member_begin_words concur n i l r t v
unfolding member_begin_words
member_left_alike n i l r t v h = rw (h, member_alike n i l r t h)

-- a call that both kinds answer alike is seen and done alike
common : (kind : Kind) (l : List ℕ) (call : Call) → table_answer kind l call ≡ table_answer concur l call → Common kind l call
unfolding table_seen table_after table_returns
common kind l call e = (rw e, rw e)

same_deliver : (kind : Kind) (l : List ℕ) (i : ℕ) → table_answer kind l (deliver i) ≡ table_answer concur l (deliver i)
unfolding table_answer call_number answer_of
same_deliver kind l i = refl

same_crash : (kind : Kind) (l : List ℕ) (i : ℕ) → table_answer kind l (crash i) ≡ table_answer concur l (crash i)
unfolding table_answer call_number answer_of
same_crash kind l i = refl

pub kinds_as_requested : KindsAsRequested
kinds_as_requested = record {
  opens = open-numbers;
  concur_opens = open-numbers concur;
  auction_opens = open-numbers auction;
  concur_begins = begin_on_table concur;
  auction_begins = begin_on_table auction;
  concur_member_begins = begin_on_block concur;
  auction_member_begins = begin_on_block auction;
  open_alike = open_alike_lem;
  begin_alike = λ l i r t v h. common auction l (begin i r t v) (h ∙ sym (begin_alike_lem l i r t v h));
  member_begin_alike = λ n i l r t v h. (member_alike n i l r t h, member_left_alike n i l r t v h);
  delivers = λ kind l i. common kind l (deliver i) (same_deliver kind l i);
  crashes = λ kind l i. common kind l (crash i) (same_crash kind l i);
}
