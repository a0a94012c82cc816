-- Demand 3: every reply that a member took went through all of document 01's checks. `boards` are those on which the calls were made, and
-- `seen` is what was seen at each call.
use Rattle.std.specs.Prelude.{ℕ, ◌≡◌, true, List, [], ◌∷◌}
use Rattle.model.specs.Member.{Member, check21, check22, check23, check24, check25, check26, check27}
use Rattle.model.specs.Board.{Board}
use Rattle.model.specs.Runs.{Call, begin, deliver, crash, Seen}

-- "Halts, in this order": none of the seven grounds holds of what member i knows and of the two records that it was sent. On the board
-- the seals value "is always 3".
pub record AllPass (n i : ℕ) (m : Member) : Type 0 where
  pub pass21 : check21 3 ≡ true
  pub pass22 : check22 n i m.slot m.known m.first.matrix ≡ true
  pub pass23 : check23 i m.slot m.accepted m.first.matrix ≡ true
  pub pass24 : check24 m.slot m.second ≡ true
  pub pass25 : check25 n m.slot m.second.matrix m.first.matrix ≡ true
  pub pass26 : check26 n m.slot m.known m.first.matrix ≡ true
  pub pass27 : check27 n i m.slot m.accepted m.first.matrix ≡ true

-- a deliver answered 0 to a member in phase 2 is the reply; and one after which the phase is 3 was it
pub record Reply (n i : ℕ) (m : Member) (s : Seen) : Type 0 where
  pub checks : m.phase ≡ 2 → AllPass n i m
  pub only : s.phases i ≡ 3 → m.phase ≡ 2

abbrev pub CheckedAt : ℕ → Board → Call → Seen → Type 0
CheckedAt n b (begin i r t v) s = Unit {0}
CheckedAt n b (deliver i) s = s.answer ≡ 0 → Reply n i (b.members i) s
CheckedAt n b (crash i) s = Unit {0}

-- at every call; a call without a board or without what was seen at it would be none of a run
abbrev pub Checked : ℕ → List Call → List Board → List Seen → Type 0
Checked n [] boards seen = Unit {0}
Checked n (call ∷ calls) [] seen = ⊥
Checked n (call ∷ calls) (b ∷ boards) [] = ⊥
Checked n (call ∷ calls) (b ∷ boards) (s ∷ seen) = CheckedAt n b call s × Checked n calls boards seen
