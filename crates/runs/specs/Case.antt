-- The form of a worked case: a board, a list of calls, and what is found, on a board of some kind. Whatever a case asks is answered with
-- lines of numbers, so that one comparison serves every question.
use Rattle.std.specs.Prelude.{ℕ, zero, suc, ◌≡◌, Bool, true, false, cond, ◌&&◌, List, [], ◌∷◌, ◌++◌, map, eqb, length, replicate}
use Rattle.std.proofs.Math.Option.{Option, none, some}
use Rattle.lists.specs.Functions.{put}
use Rattle.lists.specs.Parts.{listed}
use Rattle.model.specs.Rows.{Matrix}
use Rattle.model.specs.Records.{Value, Rec, read, write, zero_value}
use Rattle.model.specs.Kinds.{Kind}
use Rattle.model.specs.Member.{Member, check21, check22, check23, check24, check25, check26, check27, halt_number, replied}
use Rattle.model.specs.Pairs.{halt_pairs}
use Rattle.model.specs.Board.{Board}
use Rattle.model.specs.Runs.{Call, begin, deliver, Seen, run, after}
use Rattle.lists.specs.Every.{Every}
use Rattle.model.specs.History.{Op, Submit, watched}
use Rattle.model.specs.Messages.{reply, commit, encode}
use Rattle.model.specs.Script.{caller}
use Rattle.model.specs.TableCalls.{open_number, open_words, board_in, table_after, table_run}

-- Scripts, as document 01's board program reads them.

-- "V fills the sheet's last word, the other seven being zero"
abbrev pub valued : ℕ → Value
valued v = put zero_value 8 v

abbrev pub writes : ℕ → ℕ → Call
writes i v = begin i i write (valued v)

abbrev pub reads : ℕ → ℕ → Call
reads i r = begin i r read zero_value

-- deliver, k times in a row
abbrev pub delivers : ℕ → ℕ → List Call
delivers i zero = []
delivers i (suc k) = deliver i ∷ delivers i k

-- a whole operation, with nothing in between: its begin and four delivers
abbrev pub whole_write : ℕ → ℕ → List Call
whole_write i v = writes i v ∷ delivers i 4

abbrev pub whole_read : ℕ → ℕ → List Call
whole_read i r = reads i r ∷ delivers i 4

-- lines of two and of three numbers
abbrev pub pair : ℕ → ℕ → List ℕ
pair a b = a ∷ b ∷ []

abbrev pub triple : ℕ → ℕ → ℕ → List ℕ
triple a b c = a ∷ b ∷ c ∷ []

-- what a whole operation prints where it is accepted: `ended` is its last line
abbrev pub prints : List ℕ → List (List ℕ)
prints ended = pair 0 1 ∷ pair 0 2 ∷ pair 0 3 ∷ pair 0 4 ∷ ended ∷ []

-- What can be asked of a case.
pub data Question : Type 0 where
  -- what the board program prints, a line for each call: the answer, the member's phase after it (none for answer 4), and the last word
  -- of a value that was returned
  output : Question
  -- of the board that the calls leave: the matrix of a slot's newest record, a line for each of its rows
  newest : ℕ → Question
  -- a slot's newest and its stored record, a line for each: member, slot, type, count and the last word of the value
  records : ℕ → Question
  -- a member's first and second message record: such a line, then the rows of its matrix
  messages : ℕ → Question
  -- every member's phase, and every member's halt number
  phases : Question
  halts : Question
  -- of the board at the start, where a member takes the reply in its two message records with a seals value: the numbers of all the
  -- checks that fail, and the phase and halt number that the member then has
  failing : ℕ → ℕ → Question
  taking : ℕ → ℕ → Question
  -- of such a reply: its halt number, 0 where it passes, and the pairs of counts that the checks look at
  looking : ℕ → ℕ → Question
  -- of the run: the operations that reached their verdict, the newest first: member, which of its operations, slot, type, the last word
  -- of the value given, the steps of begin, submit and verdict, 1 if accepted, the step of the end, and the last word of a value that was
  -- returned
  decided : Question
  -- the newest operation that a member began, up to the step of its submit; and the submits taken, the newest first: step, member and slot
  running : ℕ → Question
  submits : Question
  -- how many bytes a commit of a slot's newest record is, and a reply with the slot's two records: whole messages
  sizes : ℕ → Question
  -- of a slice of so many words, all 7: the number that opening answers, and how many words are no longer 7 after it
  opens : ℕ → Question

-- a question and the lines that answer it
pub record Claim : Type 0 where
  pub question : Question
  pub lines : List (List ℕ)

infix 70 ◌is◌
abbrev pub ◌is◌ : Question → List (List ℕ) → Claim
question is lines = record { question = question; lines = lines }

-- n, the board at the start, the calls, and what must be found
pub record Case : Type 0 where
  pub n : ℕ
  pub start : Board
  pub calls : List Call
  pub claims : List Claim

-- the board that a list of calls leaves
unfoldable pub left : Kind → ℕ → Board → List Call → Board
left kind n b [] = b
left kind n b (call ∷ calls) = left kind n (after kind n b call) calls

unfoldable pub last_word : Option Value → List ℕ
last_word none = []
last_word (some v) = v 8 ∷ []

unfoldable pub line : ℕ → Seen → List ℕ
line i s = s.answer ∷ (cond (eqb s.answer 4) [] (s.phases i ∷ []) ++ last_word s.returned)

unfoldable pub printed : List Call → List Seen → List (List ℕ)
printed [] seen = []
printed (call ∷ calls) [] = []
printed (call ∷ calls) (s ∷ seen) = line (caller call) s ∷ printed calls seen

-- the rows 1 to k of a matrix, at members 1 to n
unfoldable pub rows_of : ℕ → ℕ → Matrix → List (List ℕ)
rows_of n zero m = []
rows_of n (suc k) m = rows_of n k m ++ (listed n (m (suc k)) ∷ [])

unfoldable pub record_line : Rec → List ℕ
record_line r = r.member ∷ r.slot ∷ r.operation ∷ r.count ∷ r.value 8 ∷ []

unfoldable pub record_lines : ℕ → Rec → List (List ℕ)
record_lines n r = record_line r ∷ rows_of n n r.matrix

-- an operation as a watcher has it, before its verdict and after it
unfoldable pub begun_line : Op → List ℕ
begun_line o =
    o.given.member ∷ o.ordinal ∷ o.given.slot ∷ o.given.operation ∷ o.given.value 8 ∷ o.begin_at ∷ o.submit_at ∷ []

unfoldable pub decided_line : Op → List ℕ
decided_line o = begun_line o ++ (o.verdict_at ∷ cond o.accepted 1 0 ∷ o.end_at ∷ last_word o.returned)

unfoldable pub submit_line : Submit → List ℕ
submit_line s = s.at ∷ s.member ∷ s.slot ∷ []

-- one number more, where a check fails
unfoldable pub unless : Bool → ℕ → List ℕ → List ℕ
unless passes number more = cond passes more (number ∷ more)

unfoldable pub failing_of : ℕ → ℕ → Member → ℕ → List ℕ
failing_of n i m seals =
    let sent = m.first.matrix in
    unless (check21 seals) 21
    (unless (check22 n i m.slot m.known sent) 22
    (unless (check23 i m.slot m.accepted sent) 23
    (unless (check24 m.slot m.second) 24
    (unless (check25 n m.slot m.second.matrix sent) 25
    (unless (check26 n m.slot m.known sent) 26
    (unless (check27 n i m.slot m.accepted sent) 27
    []))))))

unfoldable pub taking_of : ℕ → ℕ → Member → ℕ → List ℕ
taking_of n i m seals = let taken = replied n i m m.first m.second seals in taken.phase ∷ taken.halt ∷ []

unfoldable pub looking_of : ℕ → ℕ → Member → ℕ → List ℕ
looking_of n i m seals = pair (halt_number n i m m.first m.second seals) (halt_pairs n i m m.first m.second seals)

unfoldable pub changed : ℕ → List ℕ → ℕ
changed old [] = 0
changed old (w ∷ l) = cond (eqb w old) (changed old l) (suc (changed old l))

unfoldable pub opens_of : Kind → ℕ → List ℕ → List ℕ
opens_of kind n l = open_number kind n l ∷ changed 7 (open_words kind n l) ∷ []

-- the answer to a question, by the board at the start, the board that the calls left, and what was seen
unfoldable pub answer_to : Kind → ℕ → List Call → Board → Board → List Seen → Question → List (List ℕ)
answer_to kind n calls b after seen output = printed calls seen
answer_to kind n calls b after seen (newest r) = rows_of n n (after.host r).newest.matrix
answer_to kind n calls b after seen (records r) = record_line (after.host r).newest ∷ record_line (after.stored r) ∷ []
answer_to kind n calls b after seen (messages i) = record_lines n (after.members i).first ++ record_lines n (after.members i).second
answer_to kind n calls b after seen phases = listed n (λ i. (after.members i).phase) ∷ []
answer_to kind n calls b after seen halts = listed n (λ i. (after.members i).halt) ∷ []
answer_to kind n calls b after seen (failing i seals) = failing_of n i (b.members i) seals ∷ []
answer_to kind n calls b after seen (taking i seals) = taking_of n i (b.members i) seals ∷ []
answer_to kind n calls b after seen (looking i seals) = looking_of n i (b.members i) seals ∷ []
answer_to kind n calls b after seen decided = map decided_line (watched calls seen).decided
answer_to kind n calls b after seen (running i) = begun_line ((watched calls seen).running i) ∷ []
answer_to kind n calls b after seen submits = map submit_line (watched calls seen).submits
answer_to kind n calls b after seen (sizes r) =
    (length (encode n (commit (after.host r).newest)) ∷ length (encode n (reply (after.host r).newest (after.stored r))) ∷ []) ∷ []
answer_to kind n calls b after seen (opens words) = opens_of kind n (replicate words 7) ∷ []

unfoldable pub found : Kind → Case → Question → List (List ℕ)
found kind c = answer_to kind c.n c.calls c.start (left kind c.n c.start c.calls) (run kind c.n c.start c.calls)

module _ {A : Type 0} where
  -- does the test pass at every element
  unfoldable pub every : (A → Bool) → List A → Bool
  every test [] = true
  every test (x ∷ xs) = test x && every test xs

  -- are two lists of one length and alike, element by element
  unfoldable pub alike : (A → A → Bool) → List A → List A → Bool
  alike same [] [] = true
  alike same [] (y ∷ ys) = false
  alike same (x ∷ xs) [] = false
  alike same (x ∷ xs) (y ∷ ys) = same x y && alike same xs ys

-- A case holds where each of its questions is answered by the lines that it gives: as a statement, and as a test that is computed.

abbrev pub Holds : Kind → Case → Type 0
Holds kind c = Every (λ q. found kind c q.question ≡ q.lines) c.claims

unfoldable pub holds : Kind → Case → Bool
holds kind c = every (λ q. alike (alike eqb) (found kind c q.question) q.lines) c.claims

-- The same on a table of words: the calls by the definitions that the board's contracts cite, and what is asked read off the words.

unfoldable pub table_left : Kind → List ℕ → List Call → List ℕ
table_left kind l [] = l
table_left kind l (call ∷ calls) = table_left kind (table_after kind l call) calls

unfoldable pub found_in_words : Kind → Case → List ℕ → Question → List (List ℕ)
found_in_words kind c l =
    answer_to kind c.n c.calls (board_in l) (board_in (table_left kind l c.calls)) (table_run kind l c.calls)

abbrev pub HoldsInWords : Kind → Case → List ℕ → Type 0
HoldsInWords kind c l = Every (λ q. found_in_words kind c l q.question ≡ q.lines) c.claims
