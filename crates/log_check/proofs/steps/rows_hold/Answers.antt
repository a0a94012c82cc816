-- `rows_hold` meets its contract: the rows passed hold, and a row that does not is one of the log's.
use Prim.Native.Nat.{◌*◌, ◌+◌, ◌/◌, ◌≤◌}
use mathlib.Core.Path.{◌≡◌}
use native.Mathlib.Omega.{arith}
use lib.ListN.{length}
use Rattle.lists.specs.Functions.{from, Within}
use Rattle.lists.specs.Parts.{words}
use Rattle.lists.proofs.Functions.{widened}
use Rattle.logs.specs.Log.{row_of, rows_of, log_of, row_size, RowHolds, holding, failing}
use Rattle.log_check.proofs.Values.{granted, denied}
use Rattle.log_check.proofs.Remembered.{row_more, row_in, row_first, remembers_none, row_member, remembers-more}
use Rattle.log_check.proofs.steps.rows_hold.Goals as goal
use Rattle.log_check.proofs.steps.rows_hold.Goals.{Else-not-row_holds}

-- the row at hand, behind its test
holds : (c : Else-not-row_holds) → let w = words c.args.log.now in
    RowHolds c.args.n (row_of (from w (c.loop-k.k * row_size))) (rows_of w c.loop-k.k)
holds c = granted c.if-not-row_holds.ensures

member_in : (c : Else-not-row_holds) → Within 12 (words c.args.log.now (c.loop-k.k * row_size))
member_in c =
    let m = row_member (words c.args.log.now) c.loop-k.k in
    let h = (holds c).member in
    widened c.args.n _ c.requires (rw m at h)

slot_in : (c : Else-not-row_holds) → Within 12 (words c.args.log.now (c.loop-k.k * row_size + 2))
unfolding row_of from
slot_in c = widened c.args.n _ c.requires (holds c).slot

pub loop-k-init : goal.loop-k-init
unfolding rows_of
loop-k-init c = record { holds = tt; remembers = remembers_none (words c.args.log.now) }

pub returns-then-not-row_holds : goal.returns-then-not-row_holds
unfolding log_of
returns-then-not-row_holds c =
    let w = words c.args.log.now in
    let k = c.loop-k.k in
    let below : k + 1 ≤ length c.args.log.now / 14 = omega arith in
    failing (λ h. denied c.if-not-row_holds.ensures
    (row_in c.args.n w k (row_first c.args.n w (length c.args.log.now / 14) (k + 1) below h)))

pub overflow_sub-m : goal.overflow_sub-m
overflow_sub-m c = omega (arith, (member_in (goal.at.overflow_sub-m c).Else-not-row_holds).least)

pub overflow_sub-s : goal.overflow_sub-s
overflow_sub-s c = omega (arith, (slot_in (goal.at.overflow_sub-s c).Else-not-row_holds).least)

pub bounds-until-m : goal.bounds-until-m
bounds-until-m c = let m = member_in (goal.at.bounds-until-m c).Else-not-row_holds in omega (arith, m.least, m.most)

pub bounds-written-s : goal.bounds-written-s
bounds-written-s c = let r = slot_in (goal.at.bounds-written-s c).Else-not-row_holds in omega (arith, r.least, r.most)

pub bounds-written-s-in-loop-k : goal.bounds-written-s-in-loop-k
bounds-written-s-in-loop-k c =
    let r = slot_in (goal.at.bounds-written-s-in-loop-k c).Else-not-row_holds in omega (arith, r.least, r.most)

pub loop-k-preserved : goal.loop-k-preserved
loop-k-preserved c =
    let w = words c.args.log.now in
    let at = (goal.at.loop-k-preserved c).Else-not-row_holds in
    let i = c.loop-k.invariant in
    record {
      holds = row_more c.args.n w c.loop-k.k (holds at) i.holds;
      remembers =
          remembers-more w c.loop-k.k i.remembers (member_in at) (slot_in at) c.barred_until.ensures c.written_after.ensures;
    }

pub returns : goal.returns
unfolding log_of
returns c =
    let e : c.loop-k.k ≡ length c.args.log.now / 14 = omega arith in
    holding (rw e at c.loop-k.invariant.holds)
