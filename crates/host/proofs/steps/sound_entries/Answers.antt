-- `sound_entries` meets its contract: the entries before this one passed; this one is lent, and stops the loop or is one more that passed.
use Prim.Native.Nat.{◌+◌, ◌<◌, ℕ}
use native.Mathlib.Omega.{arith}
use mathlib.Core.List.{List}
use mathlib.Core.Path.{◌∙◌, ◌≡◌}
use Rattle.lists.proofs.Functions.{each_none}
use Rattle.model.specs.Table.{sound_host}
use Rattle.laws.proofs.Tests.{ends, goes_on, stops}
use Rattle.host.specs.Needs.{Entries, Slot}
use Rattle.host.proofs.Lent.{Lent, lent, sound_lent, sound_slot}
use Rattle.host.proofs.steps.sound_entries.Goals as goal
use Rattle.host.proofs.steps.sound_entries.Goals.{After-entry_place-at, After-sound_entry}

slot : {n i : ℕ} {l : List ℕ} → Entries n l → i < n → Slot n (i + 1) l
slot h p = record { most = h.most; long = h.long; slot_least = omega arith; slot_most = omega arith }

pub loop-passed-init : goal.loop-passed-init
loop-passed-init c = each_none _

entry : (c : After-entry_place-at) → let a = c.args in
    Lent a.n (c.loop-passed.passed + 1) a.entries.now c.entry_place-at.result c.entry_size-size.result
entry c =
    lent (slot c.requires c.loop-passed-test.true) c.entry_place-at.ensures c.entry_size-size.ensures

judged : (c : After-sound_entry) → let a = c.args in
    c.sound_entry.result ≡ sound_slot a.n a.entries.now (c.loop-passed.passed + 1)
judged c = c.sound_entry.ensures ∙ sound_lent (entry (goal.at.After-sound_entry c).After-entry_place-at)

pub returns-then-not-sound_entry : goal.returns-then-not-sound_entry
unfolding sound_host
returns-then-not-sound_entry c = stops _ _ _ c.loop-passed-test.true
    (judged (goal.at.returns-then-not-sound_entry c).After-sound_entry) c.if-not-sound_entry.true-raw

pub loop-passed-preserved : goal.loop-passed-preserved
loop-passed-preserved c = goes_on c.args.n _ _ c.loop-passed.invariant
    (judged (goal.at.loop-passed-preserved c).After-sound_entry) c.if-not-sound_entry.false-raw

pub returns : goal.returns
unfolding sound_host
returns c = ends _ _ c.loop-passed.passed (omega arith) c.loop-passed.invariant
