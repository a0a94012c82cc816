-- What passes between the halves when a submit or a commit is delivered.
use Prim.Native.Nat.{ℕ}
use mathlib.Core.Path.{◌≡◌, sym, ap, ◌∙◌}
use mathlib.Core.Bool.{Bool}
use mathlib.Core.List.{List}
use Rattle.lists.specs.Functions.{put, from, Within}
use lib.ListN.{length}
use Rattle.lists.specs.Parts.{words}
use Rattle.model.specs.Records.{Rec, record_within}
use Rattle.model.specs.Member.{Member, answered, judged}
use Rattle.model.specs.Host.{Entry, submitted, wins, entry_after, stored_after}
use Rattle.model.specs.Board.{Board, with_member, submit_taken, sent_record, commit_taken}
use Rattle.model.specs.Table.{block_size, block_at, host_size, entry_at, first_at, newest_at, stored_at, member_of, entry_of}
use Rattle.model.specs.Table.{stored_of, host_of}
use Rattle.model.specs.Table.{stored_records_of, board_of}
use Rattle.laws.proofs.Records.{within_read}
use Rattle.laws.proofs.Tables.{member_at, entry_at_lem, stored_at_lem}
use Rattle.member_block.specs.Needs.{Running}
use Rattle.host.specs.Needs.{Slot}
use Rattle.tables.specs.Needs.{Left, BlockPlace, HostPlace}
use Rattle.table_calls.specs.Needs.{Turn}
use Rattle.tables.proofs.Lent.{part, back, BlockLent, HostLent, block_lent, host_lent, running_block, member_lent, block-left, slot_lent}
use Rattle.tables.proofs.Lent.{host-table, host-changed, entries_lent, stored_lent}

-- the record that a block's member sends
sent_read : (n i : ℕ) (v : ℕ → ℕ) → record_within n (sent_record i (member_of n v)) ≡ sent_record i (member_of n v)
unfolding record_within sent_record member_of
sent_read n i v = λ t. record {
  member = i;
  slot = (member_of n v).slot;
  operation = (member_of n v).operation;
  count = (member_of n v).own (member_of n v).slot;
  value = (within_read n (from v (first_at n)) t).value;
  matrix = (within_read n (from v (first_at n)) t).matrix;
}

-- The records of a table have no count past the first n.
module _ (n : ℕ) (w : ℕ → ℕ) where
  pub newest_within : (r : ℕ) → Within n r → record_within n ((board_of n w).host r).newest ≡ ((board_of n w).host r).newest
  unfolding entry_of
  newest_within r h =
      let e = entry_at_lem n w r h.least h.most in
      ap (λ e. record_within n e.newest) e
      ∙ within_read n (from (from w (entry_at n r)) (newest_at n))
      ∙ sym (ap (λ e. e.newest) e)

  pub stored_within : (r : ℕ) → Within n r → record_within n ((board_of n w).stored r) ≡ (board_of n w).stored r
  unfolding stored_of
  stored_within r h =
      let e = stored_at_lem n w r h.least h.most in
      ap (record_within n) e ∙ within_read n (from (from w (entry_at n r)) stored_at) ∙ sym e

  pub sent_within : (i : ℕ) → Within n i → record_within n (sent_record i ((board_of n w).members i)) ≡ sent_record i
      ((board_of n w).members i)
  sent_within i h =
      let e = member_at n w i h.least h.most in
      ap (λ m. record_within n (sent_record i m)) e ∙ sent_read n i (from w (block_at n i)) ∙ sym (ap (sent_record i) e)

module _ (b : Board) (i : ℕ) (after : Board) (p : Member) where
  abbrev m : Member
  m = b.members i

  -- the host's entries after a submit and the member's state after the reply are the board's
  pub submit_joins : after ≡ record {
    members = b.members;
    host = put b.host m.slot (submitted (b.host m.slot) i (m.own m.slot));
    stored = b.stored;
  }
      → p ≡ answered m (b.host m.slot).newest (b.stored m.slot)
      → with_member after i p ≡ submit_taken b i
  unfolding with_member submit_taken
  submit_joins e f = rw (e, f)

  -- and after a commit and its verdict
  pub commit_joins : (won : Bool)
      → after ≡ record {
        members = b.members;
        host = put b.host m.slot (entry_after (b.host m.slot) (sent_record i m));
        stored = put b.stored m.slot (stored_after (b.host m.slot) (b.stored m.slot) (sent_record i m));
      }
      → p ≡ judged m won → won ≡ wins (b.host m.slot) (sent_record i m)
      → with_member after i p ≡ commit_taken b i
  unfolding with_member commit_taken
  commit_joins won e f g = rw (e, f, g)

-- Member i's block and the host entries, lent in turn, for an operation whose slot the board has.

pub record BothLent (n i : ℕ) (l : List ℕ) (at size host_start host_words : ℕ) : Type 0 where
  pub block : BlockLent n i l at size
  pub host : HostLent n l host_start host_words
  pub running : Within n ((board_of n (words l)).members i).slot

pub both_lent : {n i at size host_start host_words : ℕ} {l : List ℕ} → Turn n i l → BlockPlace n i at → size ≡ block_size n
    → HostPlace n host_start → host_words ≡ host_size n → BothLent n i l at size host_start host_words
both_lent t p s q r = record { block = block_lent t.table t.member p s; host = host_lent t.table q r; running = t.slot }

module _ {n i at size host_start host_words : ℕ} {l : List ℕ} (h : BothLent n i l at size host_start host_words) where
  slot-sent : {r : ℕ} → r ≡ (member_of n (words (part l at size))).slot → r ≡ ((board_of n (words l)).members i).slot
  slot-sent e = e ∙ ap (λ m. m.slot) (member_lent h.block)

  pub both_running : Running n (part l at size)
  both_running = running_block h.block h.running

  -- the entries have the slot that the member sends
  pub slot_of : {r : ℕ} → r ≡ (member_of n (words (part l at size))).slot → Slot n r (part l host_start host_words)
  slot_of e = slot_lent h.host (rw (slot-sent e) h.running)

-- l after the host, l after the member
module _ {n i at size host_start host_words : ℕ} {l : List ℕ} (h : BothLent n i l at size host_start host_words)
    (p : List ℕ) (kept : length p ≡ length (part l host_start host_words)) where
  abbrev before : Board
  before = board_of n (words l)

  abbrev entries : ℕ → Entry
  entries = host_of n (words (part l host_start host_words))

  abbrev storeds : ℕ → Rec
  storeds = stored_records_of n (words (part l host_start host_words))

  abbrev middle : List ℕ
  middle = back l host_start host_words p

  -- the block is lent from the table that the host left
  pub lent_again : BlockLent n i middle at size
  lent_again = block_lent (host-table h.host p kept) h.block.member h.block.place h.block.sized

  same-member : member_of n (words (part middle at size)) ≡ before.members i
  same-member = member_lent lent_again ∙ ap (λ b. b.members i) (host-changed h.host p kept)

  joined : (host : ℕ → Entry) (stored : ℕ → Rec) → host_of n (words p) ≡ host → stored_records_of n (words p) ≡ stored
      → board_of n (words middle) ≡ record { members = before.members; host = host; stored = stored }
  joined host stored e f = host-changed h.host p kept ∙ (λ s. record { members = before.members; host = e s; stored = f s })

  module _ (q : List ℕ) (same : length q ≡ length (part middle at size)) where
    pub submit-left : (slot count : ℕ) (newest stored : Rec) → slot ≡ (member_of n (words (part l at size))).slot
        → count ≡ (member_of n (words (part l at size))).own (member_of n (words (part l at size))).slot
        → newest ≡ (entries slot).newest → stored ≡ storeds slot
        → host_of n (words p) ≡ put entries slot (submitted (entries slot) i count) → stored_records_of n (words p) ≡ storeds
        → member_of n (words q) ≡ answered (member_of n (words (part middle at size))) (record_within n newest) (record_within n stored)
        → Left n (submit_taken before i) (back middle at size q)
    submit-left slot count newest stored x y c d e f g =
        let m = before.members i in
        let r = m.slot in
        let a = slot-sent h x in
        let b = y ∙ ap (λ m. m.own m.slot) (member_lent h.block) in
        let newest_is = c ∙ ap (λ f. (f slot).newest) (entries_lent h.host) ∙ ap (λ r. (before.host r).newest) a in
        let stored_is = d ∙ ap (λ f. f slot) (stored_lent h.host) ∙ ap before.stored a in
        block-left lent_again q same (submit_joins before i (board_of n (words middle)) (member_of n (words q))
        (joined (put before.host r (submitted (before.host r) i (m.own r))) before.stored
        (e
        ∙ ap (λ f. put f slot (submitted (f slot) i count)) (entries_lent h.host)
        ∙ ap (λ r. put before.host r (submitted (before.host r) i count)) a
        ∙ ap (λ k. put before.host r (submitted (before.host r) i k)) b)
        (f ∙ stored_lent h.host))
        (g
        ∙ ap (λ m. answered m (record_within n newest) (record_within n stored)) same-member
        ∙ ap (λ k. answered m k (record_within n stored)) (ap (record_within n) newest_is ∙ newest_within n (words l) r h.running)
        ∙ ap (answered m (before.host r).newest) (ap (record_within n) stored_is ∙ stored_within n (words l) r h.running)))

    pub commit-left : (slot : ℕ) (sent : Rec) (won : Bool) → sent ≡ sent_record i (member_of n (words (part l at size))) → slot ≡ sent.slot
        → won ≡ wins (entries slot) sent
        → host_of n (words p) ≡ put entries slot (entry_after (entries slot) (record_within n sent))
        → stored_records_of n (words p) ≡ put storeds slot (stored_after (entries slot) (storeds slot) (record_within n sent))
        → member_of n (words q) ≡ judged (member_of n (words (part middle at size))) won
        → Left n (commit_taken before i) (back middle at size q)
    unfolding sent_record
    commit-left slot sent won a b c d e f =
        let m = before.members i in
        let r = m.slot in
        let sent_is : sent ≡ sent_record i m = a ∙ ap (sent_record i) (member_lent h.block) in
        let slot_is : slot ≡ r = b ∙ ap (λ c. c.slot) sent_is in
        let within : record_within n sent ≡ sent_record i m = ap (record_within n) sent_is ∙ sent_within n (words l) i h.block.member in
        block-left lent_again q same (commit_joins before i (board_of n (words middle)) (member_of n (words q)) won
        (joined (put before.host r (entry_after (before.host r) (sent_record i m)))
        (put before.stored r (stored_after (before.host r) (before.stored r) (sent_record i m)))
        (d
        ∙ ap (λ f. put f slot (entry_after (f slot) (record_within n sent))) (entries_lent h.host)
        ∙ ap (λ r. put before.host r (entry_after (before.host r) (record_within n sent))) slot_is
        ∙ ap (λ c. put before.host r (entry_after (before.host r) c)) within)
        (e
        ∙ ap (λ f. put storeds slot (stored_after (f slot) (storeds slot) (record_within n sent))) (entries_lent h.host)
        ∙ ap (λ g. put g slot (stored_after (before.host slot) (g slot) (record_within n sent))) (stored_lent h.host)
        ∙ ap (λ r. put before.stored r (stored_after (before.host r) (before.stored r) (record_within n sent))) slot_is
        ∙ ap (λ c. put before.stored r (stored_after (before.host r) (before.stored r) c)) within))
        (f ∙ ap (λ m. judged m won) same-member)
        (c
        ∙ ap (λ f. wins (f slot) sent) (entries_lent h.host)
        ∙ ap (λ r. wins (before.host r) sent) slot_is
        ∙ ap (wins (before.host r)) sent_is))
