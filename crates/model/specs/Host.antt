-- The host half: what it keeps of a slot, taking a submit, taking a commit. Numbers such as 5.4 are lines of Algorithm 5 in document
-- 000; the sentences are document 01's. Stored records stand apart from the entries here, though not in the table's words.
use Rattle.std.specs.Prelude.{ℕ, Bool, cond, ◌&&◌, eqb}
use Rattle.model.specs.Records.{Rec}
use Rattle.model.specs.Kinds.{becomes_stored}

-- "member and count of the newest submit (0, 0 for none)", and the newest record
pub record Entry : Type 0 where
  pub submit_member : ℕ
  pub submit_count : ℕ
  pub newest : Rec

-- A submit (5.3 to 5.6): "the host notes (member, own count) as newest submit of the slot and sends the newest and stored records."
-- Its reply is the entry's newest record and the slot's stored one.
unfoldable pub submitted : Entry → ℕ → ℕ → Entry
submitted e i count = record { submit_member = i; submit_count = count; newest = e.newest }

-- A commit (5.7 to 5.9), the verdict: accepted "if the newest submit is this member and own count"
unfoldable pub wins : Entry → Rec → Bool
wins e c = eqb e.submit_member c.member && eqb e.submit_count c.count

-- 5.12, 5.13: "the record becomes the slot's newest record", by the slot's owner also the stored one (document 02, (a)), "the mark goes
-- back to (0, 0)"; "Otherwise the host is unchanged" (5.10)
unfoldable pub entry_after : Entry → Rec → Entry
entry_after e c = cond (wins e c) (record { submit_member = 0; submit_count = 0; newest = c }) e

unfoldable pub stored_after : Entry → Rec → Rec → Rec
stored_after e stored c = cond (wins e c && becomes_stored c) c stored
