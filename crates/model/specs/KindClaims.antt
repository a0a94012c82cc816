-- What is claimed of the two kinds of board, document 01's and the auction desk's (document 02, (b)): the numbers by which they differ, as
-- the documents print them; the order of a begin's numbers; and that all else is the same on both.
use Rattle.std.specs.Prelude.{ℕ, ◌≤◌, ◌<◌, ◌≡◌, List, ◌↔◌, ◌⊎◌, length}
use Rattle.lists.specs.Parts.{words}
use Rattle.model.specs.Records.{Value}
use Rattle.model.specs.Kinds.{Kind, concur, auction}
use Rattle.model.specs.Numbers.{begin_answer}
use Rattle.model.specs.NumberClaims.{OneTo}
use Rattle.model.specs.Runs.{Call, begin, deliver, crash, answer_of}
use Rattle.model.specs.Table.{table_size, member_in, table_number}
use Rattle.model.specs.Halves.{lent_number, member_begin_number, member_begin_words}
use Rattle.model.specs.TableCalls.{open_number, open_words, board_in, table_answer, table_after, table_seen}

-- opening, for at most so many members: "1 n not 1 to 12", "2 wrong length"
pub record OpenNumbers (most n : ℕ) (l : List ℕ) (answer : ℕ) : Type 0 where
  pub one : (answer ≡ 1) ↔ (OneTo most n → ⊥)
  pub two : (answer ≡ 2) ↔ (OneTo most n × (length l ≡ table_size n → ⊥))
  pub done : (answer ≡ 0) ↔ (OneTo most n × (length l ≡ table_size n))
  pub no_other : (answer ≡ 0) ⊎ (answer ≡ 1) ⊎ (answer ≡ 2)

-- begin, on what is lent of a board of n: the number of that refuses first, then "1 above 4 members, in begin after 3", then the rest, from
-- 4 on
pub record BeginOnLent (most n own rest answer : ℕ) : Type 0 where
  pub first : (own ≡ 0 → ⊥) → answer ≡ own
  pub one : own ≡ 0 → most < n → answer ≡ 1
  pub others : own ≡ 0 → n ≤ most → answer ≡ rest

-- begin on a table, and in the member half
abbrev pub BeginOnTable : ℕ → Kind → Type 0
BeginOnTable most kind = (l : List ℕ) (i r t : ℕ) (v : Value) → let call = begin i r t v in
    BeginOnLent most (words l 0) (table_number l) (answer_of kind (words l 0) (board_in l) call) (table_answer kind l call)

abbrev pub BeginOnBlock : ℕ → Kind → Type 0
BeginOnBlock most kind = (n i : ℕ) (l : List ℕ) (r t : ℕ) → let m = member_in n l in
    BeginOnLent most n (lent_number n i l) (begin_answer kind n m.phase m.crashed (m.own r) i r t) (member_begin_number kind n i l r t)

-- a call that is answered, seen and done alike on a board of this kind and on document 01's
abbrev pub Common : Kind → List ℕ → Call → Type 0
Common kind l call = (table_seen kind l call ≡ table_seen concur l call) × (table_after kind l call ≡ table_after concur l call)

pub record KindsAsRequested : Type 0 where
  -- "at most 12", and "Auction boards of four"
  pub opens : (kind : Kind) (n : ℕ) (l : List ℕ) → OpenNumbers kind.most n l (open_number kind n l)
  pub concur_opens : (n : ℕ) (l : List ℕ) → OpenNumbers 12 n l (open_number concur n l)
  pub auction_opens : (n : ℕ) (l : List ℕ) → OpenNumbers 4 n l (open_number auction n l)
  pub concur_begins : BeginOnTable 12 concur
  pub auction_begins : BeginOnTable 4 auction
  pub concur_member_begins : BeginOnBlock 12 concur
  pub auction_member_begins : BeginOnBlock 4 auction
  -- what an auction opening takes the common one takes too, and so with begin: the table is then left the same
  pub open_alike : (n : ℕ) (l : List ℕ) → open_number auction n l ≡ 0
      → (open_number concur n l ≡ 0) × (open_words auction n l ≡ open_words concur n l)
  pub begin_alike : (l : List ℕ) (i r t : ℕ) (v : Value) → table_answer auction l (begin i r t v) ≡ 0 → Common auction l (begin i r t v)
  pub member_begin_alike : (n i : ℕ) (l : List ℕ) (r t : ℕ) (v : Value) → member_begin_number auction n i l r t ≡ 0
      → (member_begin_number concur n i l r t ≡ 0) × (member_begin_words auction n i l r t v ≡ member_begin_words concur n i l r t v)
  -- "All other steps serve both."
  pub delivers : (kind : Kind) (l : List ℕ) (i : ℕ) → Common kind l (deliver i)
  pub crashes : (kind : Kind) (l : List ℕ) (i : ℕ) → Common kind l (crash i)
