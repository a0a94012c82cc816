-- The kind of board: what may differ between boards that share all their steps. An opening looks at its `most`, a begin at both numbers,
-- and no other step at anything of it; runs, the reference and the theorems are stated for every kind. Below it, the rules that are the
-- same for all kinds: the sizes of boards, what is an operation, which fields fit, what number 7 refuses, what becomes
-- stored.
use Rattle.std.specs.Prelude.{ℕ, ◌≤◌, Bool, not, ◌&&◌, ◌||◌, eqb}
use Rattle.std.proofs.Common.{arith}
use Rattle.lists.specs.Functions.{inside}
use Rattle.model.specs.Records.{read, write, Rec}

-- "n not 1 to 12": tables, messages and halves of these sizes there are, whatever the kind
abbrev pub most_members : ℕ
most_members = 12

abbrev pub is_size : ℕ → Bool
is_size n = inside most_members n

pub record Kind : Type 0 where
  -- begin answers 9 where the own count has reached this
  pub limit : ℕ
  -- opening and begin answer 1 where there are more members than this, and no kind has more than there are sizes
  pub most : ℕ
  pub sized : most ≤ most_members

-- the board of document 01: "9 own count is 4,294,967,295", "1 n not 1 to 12"
abbrev pub concur : Kind
concur = record { limit = 4294967295; most = most_members; sized = omega arith }

-- document 02, (b), the auction desk's: "closed after 9,999 operations per slot and member", "refuse 1 above 4 members"
abbrev pub auction : Kind
auction = record { limit = 9999; most = 4; sized = omega arith }

-- "type not 1 or 2" is number 6
unfoldable pub is_operation : ℕ → Bool
is_operation t = eqb t read || eqb t write

-- the fields of what comes in a message: "15 .. member or slot not 1 to n, type"
abbrev pub fit_fields : ℕ → ℕ → ℕ → ℕ → Bool
fit_fields n i r t = inside n i && inside n r && is_operation t

-- what number 7 refuses: document 02, (a), "Number 7 stays for a write to another's slot"; every slot may be read, one's own too
unfoldable pub barred : ℕ → ℕ → ℕ → Bool
barred i r t = eqb t write && not (eqb i r)

-- whether an accepted record also becomes the slot's stored record: document 02, (a), "An accepted operation by the slot's owner, read
-- or write, becomes the stored record"
unfoldable pub becomes_stored : Rec → Bool
becomes_stored c = eqb c.member c.slot
