-- The board: n members and n host entries joined. Document 01, "Steps".
use Rattle.std.specs.Prelude.{ℕ, Bool, cond, eqb}
use Rattle.std.proofs.Math.Option.{Option}
use Rattle.lists.specs.Functions.{put, within}
use Rattle.model.specs.Records.{Value, Rec, opening, zero_record}
use Rattle.model.specs.Member.{Member, idle, begun, answered, replied, judged, outcome, returned_by, crashed_of}
use Rattle.model.specs.Host.{Entry, submitted, wins, entry_after, stored_after}

pub record Board : Type 0 where
  pub members : ℕ → Member
  pub host : ℕ → Entry
  pub stored : ℕ → Rec

-- the entry of no slot, and that of slot k at first
unfoldable pub no_entry : Entry
no_entry = record { submit_member = 0; submit_count = 0; newest = zero_record }

unfoldable pub opening_entry : ℕ → Entry
opening_entry k = record { submit_member = 0; submit_count = 0; newest = opening k }

-- "Opening sets every word zero but n and the host's opening records."
unfoldable pub opened : ℕ → Board
opened n = record { members = λ i. idle; host = within n no_entry opening_entry; stored = within n zero_record opening }

-- one member's state replaced
unfoldable pub with_member : Board → ℕ → Member → Board
with_member b i m = record { members = put b.members i m; host = b.host; stored = b.stored }

unfoldable pub board_begun : Board → ℕ → ℕ → ℕ → Value → Board
board_begun b i r t v = with_member b i (begun (b.members i) r t v)

-- Deliver, phase 1: the host takes the submit of member i and sends the newest and stored records. Phase 2.
unfoldable pub submit_taken : Board → ℕ → Board
submit_taken b i =
    let m = b.members i in
    let r = m.slot in
    record {
      members = put b.members i (answered m (b.host r).newest (b.stored r));
      host = put b.host r (submitted (b.host r) i (m.own r));
      stored = b.stored;
    }

-- Phase 2: the member makes the checks. On the board the seals value is always 3.
unfoldable pub reply_taken : ℕ → Board → ℕ → Board
reply_taken n b i = let m = b.members i in with_member b i (replied n i m m.first m.second 3)

-- Phase 3: the host takes the commit. "Slot, type and own count are the member block's, also where a lent table's message record
-- differs".
unfoldable pub sent_record : ℕ → Member → Rec
sent_record i m = record {
  member = i;
  slot = m.slot;
  operation = m.operation;
  count = m.own m.slot;
  value = m.first.value;
  matrix = m.first.matrix;
}

unfoldable pub commit_taken : Board → ℕ → Board
commit_taken b i =
    let m = b.members i in
    let r = m.slot in
    let c = sent_record i m in
    record {
      members = put b.members i (judged m (wins (b.host r) c));
      host = put b.host r (entry_after (b.host r) c);
      stored = put b.stored r (stored_after (b.host r) (b.stored r) c);
    }

-- Phases 4 and 5: the member takes the outcome.
unfoldable pub outcome_taken : Board → ℕ → Bool → Board
outcome_taken b i won = with_member b i (outcome (b.members i) won)

unfoldable pub board_delivered : ℕ → Board → ℕ → Board
board_delivered n b i =
    let phase = (b.members i).phase in
    cond (eqb phase 1) (submit_taken b i)
    (cond (eqb phase 2) (reply_taken n b i)
    (cond (eqb phase 3) (commit_taken b i)
    (outcome_taken b i (eqb phase 4))))

-- the value that a deliver hands back
unfoldable pub board_returned : Board → ℕ → Option Value
board_returned b i = returned_by (b.members i) (eqb (b.members i).phase 4)

unfoldable pub board_crashed : Board → ℕ → Board
board_crashed b i = with_member b i (crashed_of (b.members i))
