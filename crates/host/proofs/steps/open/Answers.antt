-- `open` meets its contract: the entries passed are as at first, and each turn lends one more and opens it.
use Prim.Native.Nat.{◌+◌, ◌<◌, ◌≤◌, ℕ}
use native.Mathlib.Omega.{arith}
use mathlib.Core.List.{List}
use mathlib.Core.Path.{◌∙◌, ◌≡◌, ap}
use lib.ListN.{length}
use Rattle.lists.specs.Functions.{put}
use Rattle.lists.specs.Parts.{words}
use Rattle.model.specs.Board.{no_entry, opened, opening_entry}
use Rattle.model.specs.Records.{opening, zero_record}
use Rattle.model.specs.Table.{entry_of, entry_size, host_of, host_size, stored_of, stored_records_of}
use Rattle.host.specs.Needs.{Slot}
use Rattle.host.proofs.Lent.{Lent, host-changed, length_back, lent, stored-changed}
use Rattle.host.proofs.Slots.{agree_all, agree_more}
use Rattle.host.proofs.steps.open.Goals as goal
use Rattle.host.proofs.steps.open.Goals.{After-entry_place-at}

slot : {n i : ℕ} {l : List ℕ} → n ≤ 12 → length l ≡ host_size n → i < n → Slot n (i + 1) l
slot most long p = record { most = most; long = long; slot_least = omega arith; slot_most = omega arith }

entry : (c : After-entry_place-at) → Lent c.args.n (c.loop-done.done + 1) c.loop-done.entries c.entry_place-at.result
    c.entry_size-size.result
entry c =
    lent (slot c.requires.most c.loop-done.invariant.0 c.loop-done-test.true) c.entry_place-at.ensures
    c.entry_size-size.ensures

pub loop-done-preserved : goal.loop-done-preserved
loop-done-preserved c =
    let n = c.args.n in
    let l = c.loop-done in
    let h = entry (goal.at.loop-done-preserved c).After-entry_place-at in
    let p = c.open_entry.new.entry in
    let k = c.open_entry.auto.entry in
    let post = c.open_entry.ensures in
    let host = host-changed h p k ∙ ap (put (host_of n (words l.entries)) (l.done + 1)) post.after in
    let stored = stored-changed h p k ∙ ap (put (stored_records_of n (words l.entries)) (l.done + 1)) post.after_2 in (
      length_back h p k,
      (
        rw host (agree_more l.done (host_of n (words l.entries)) opening_entry l.invariant.1.0),
        rw stored (agree_more l.done (stored_records_of n (words l.entries)) opening l.invariant.1.1),
      ),
    )

pub returns-clause-entries_after : goal.returns-clause-entries_after
unfolding opened host_of stored_records_of
returns-clause-entries_after c =
    let l = c.loop-done in
    let n = c.args.n in
    let e : l.done ≡ n = omega arith in
    agree_all n no_entry (entry_size n) (entry_of n) (words l.entries) opening_entry (rw e at l.invariant.1.0)

pub returns-clause-entries_after_2 : goal.returns-clause-entries_after_2
unfolding opened host_of stored_records_of
returns-clause-entries_after_2 c =
    let l = c.loop-done in
    let n = c.args.n in
    let e : l.done ≡ n = omega arith in
    agree_all n zero_record (entry_size n) (stored_of n) (words l.entries) opening (rw e at l.invariant.1.1)
