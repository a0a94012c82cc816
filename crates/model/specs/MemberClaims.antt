-- What is claimed of the member's steps beside the published variables (PublishedClaims.antt): phase, crash mark, halt number, slot, type
-- and message records are document 01's, so here are its sentences under "Steps", with all that a step leaves as it was.
use Rattle.std.specs.Prelude.{ℕ, ◌≡◌, Bool, true, false, cond, ◌⊎◌}
use mathlib.Core.List.{List, [], ◌∷◌, Memᴰ}
use Rattle.model.specs.Records.{Value, Rec, zero_value, zero_record}
use Rattle.model.specs.Member.{Member, idle, begun, answered, passed, failed, judged, outcome, crashed_of}

-- the parts of a member's state, and that one is the same in two states
pub data Part : Type 0 where
  phase crashed halt slot operation own accepted last pending known first second : Part

unfoldable pub Same : Part → Member → Member → Type 0
Same phase m left = left.phase ≡ m.phase
Same crashed m left = left.crashed ≡ m.crashed
Same halt m left = left.halt ≡ m.halt
Same slot m left = left.slot ≡ m.slot
Same operation m left = left.operation ≡ m.operation
Same own m left = left.own ≡ m.own
Same accepted m left = left.accepted ≡ m.accepted
Same last m left = left.last ≡ m.last
Same pending m left = left.pending ≡ m.pending
Same known m left = left.known ≡ m.known
Same first m left = left.first ≡ m.first
Same second m left = left.second ≡ m.second

-- the step from m to left changes at most the parts listed: every other stays
unfoldable pub ChangesOnly : List Part → Member → Member → Type 0
ChangesOnly parts m left = (part : Part) → Memᴰ part parts ⊎ Same part m left

-- "Phase 0; slot, type, pending sheet and messages zeroed"
pub record AtRest (m : Member) : Type 0 where
  pub phase : m.phase ≡ 0
  pub slot : m.slot ≡ 0
  pub operation : m.operation ≡ 0
  pub pending : m.pending ≡ zero_value
  pub first : m.first ≡ zero_record
  pub second : m.second ≡ zero_record

abbrev pub zeroed : List Part
zeroed = phase ∷ slot ∷ operation ∷ pending ∷ first ∷ second ∷ []

pub record MemberAsDescribed (n i : ℕ) : Type 0 where
  -- "Opening sets every word zero"; counts, values and matrix are in MemberAsPublished.opens
  pub opens : AtRest idle × (idle.crashed ≡ 0) × (idle.halt ≡ 0)
  -- "slot and type are noted .. phase 1."; own count and pending value are in MemberAsPublished.begins
  pub begins : (m : Member) (r t : ℕ) (v : Value)
      → let left = begun m r t v in
      (left.phase ≡ 1)
      × (left.slot ≡ r)
      × (left.operation ≡ t)
      × ChangesOnly (phase ∷ slot ∷ operation ∷ own ∷ pending ∷ []) m left
  -- "sends the newest and stored records. Phase 2."
  pub answers : (m : Member) (newest stored : Rec)
      → let left = answered m newest stored in
      (left.phase ≡ 2) × (left.first ≡ newest) × (left.second ≡ stored) × ChangesOnly (phase ∷ first ∷ second ∷ []) m left
  -- "On a failure: phase 6, the halt number, both message records zeroed."
  pub fails : (m : Member) (number : ℕ)
      → let left = failed m number in
      (left.phase ≡ 6)
      × (left.halt ≡ number)
      × (left.first ≡ zero_record)
      × (left.second ≡ zero_record)
      × ChangesOnly (phase ∷ halt ∷ first ∷ second ∷ []) m left
  -- "Else the first message record becomes its own record .. and phase 3. .. The second message record stays."; the first is in
  -- MemberAsPublished.commits
  pub passes : (m : Member) (newest stored : Rec)
      → let left = passed n i m newest stored in
      (left.phase ≡ 3) × (left.second ≡ stored) × ChangesOnly (phase ∷ first ∷ second ∷ []) m left
  -- the verdict: "phase 4. Otherwise phase 5"
  pub judges : (m : Member) (won : Bool) → ((judged m won).phase ≡ cond won 4 5) × ChangesOnly (phase ∷ []) m (judged m won)
  -- the outcome: the zeroing; accepted, also "the known matrix .., the accepted count .., for a write the last own sheet", which are in
  -- MemberAsPublished.accepts; aborted, "nothing else"
  pub rests : (m : Member) (won : Bool) → AtRest (outcome m won)
  pub accepts : (m : Member) → ChangesOnly (known ∷ accepted ∷ last ∷ zeroed) m (outcome m true)
  pub aborts : (m : Member) → ChangesOnly zeroed m (outcome m false)
  -- "Crash sets the mark only."
  pub crashes : (m : Member) → ((crashed_of m).crashed ≡ 1) × ChangesOnly (crashed ∷ []) m (crashed_of m)
