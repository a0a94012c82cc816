-- The host half's calls on words, one after another from the words of the opening, by the definitions that its contracts cite
-- (Halves.antt); and what is claimed of them: they answer as Algorithm 5's server.
use Rattle.std.specs.Prelude.{ℕ, ◌≡◌, true, cond, List, [], ◌∷◌, ◌++◌, eqb}
use Rattle.model.specs.Records.{write, record_within}
use Rattle.model.specs.Board.{opened}
use Rattle.lists.specs.Every.{Every}
use Rattle.model.specs.Table.{host_words}
use Rattle.model.specs.Halves.{host_number, submit_words, submit_newest, submit_stored, commit_number, commit_outcome, commit_words}
use Rattle.model.specs.Published.{
  ToServer,
  submit,
  commit,
  FromServer,
  submit_r,
  commit_r,
  server_opened,
  line512owner,
  server_answers,
}
use Rattle.model.specs.HostClaims.{fits, id_in, noted_answers, each_once, none_waiting, sample, sample_answers}

-- "Opening sets every word zero but n and the host's opening records": the n host entries of the table
unfoldable pub entries_opened : ℕ → List ℕ
entries_opened n = host_words n (opened n).host (opened n).stored

-- A call's number, the words that it leaves, and what it hands back where the number is 0: two records, or the outcome, 1 for accepted.

unfoldable pub call_number : ℕ → List ℕ → ToServer → ℕ
call_number n l (submit id) = host_number n l id.client id.reg id.operation
call_number n l (commit op) = commit_number n l op

unfoldable pub call_words : ℕ → List ℕ → ToServer → List ℕ
call_words n l (submit id) = submit_words n l id.client id.reg id.operation id.count
call_words n l (commit op) = commit_words n l op

unfoldable pub call_answer : ℕ → List ℕ → ToServer → FromServer
call_answer n l (submit id) = submit_r (submit_stored n l id.reg) (submit_newest n l id.reg)
call_answer n l (commit op) = commit_r (eqb (commit_outcome n l op) 1)

-- each call on the words that the one before left: the answers of those that are not refused
unfoldable pub call_answers : ℕ → List ℕ → List ToServer → List FromServer
call_answers n l [] = []
call_answers n l (message ∷ messages) =
    cond (eqb (call_number n l message) 0) (call_answer n l message ∷ []) []
    ++ call_answers n (call_words n l message) messages

-- the messages that the half does not refuse, which are those that the server is fed
unfoldable pub taken : ℕ → List ToServer → List ToServer
taken n [] = []
taken n (message ∷ messages) =
    cond (fits n (id_in message)) (message ∷ []) [] ++ taken n messages

-- a record as a message of n members has it: nothing beyond its n rows of n counts and its 8 words. The contract of the half's commit
-- hands every record on so (`commit-held`, proofs/HostWords.antt).
abbrev pub MessageHeld : ℕ → ToServer → Type 0
MessageHeld n (submit id) = Unit {0}
MessageHeld n (commit op) = record_within n op ≡ op

pub record WordsAsPublished (n : ℕ) (messages : List ToServer) : Type 0 where
  pub noted : noted_answers server_opened (taken n messages) ≡ call_answers n (entries_opened n) messages
  pub printed : each_once none_waiting (taken n messages) ≡ true
      → server_answers line512owner server_opened (taken n messages) ≡ call_answers n (entries_opened n) messages

-- The sample of HostClaims.antt on words, behind a write to another's slot, which number 7 refuses.
unfoldable pub strayed : List ToServer
strayed = submit (record { client = 2; count = 1; operation = write; reg = 1 }) ∷ sample

pub record SampleInWords : Type 0 where
  pub held : Every (MessageHeld 2) strayed
  pub refused : taken 2 strayed ≡ sample
  pub answers : call_answers 2 (entries_opened 2) strayed ≡ sample_answers
