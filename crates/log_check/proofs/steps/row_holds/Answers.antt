-- `row_holds` meets its contract: the tests of its fields and of its positions beside what is remembered, and the read's clause, say of
-- every clause of a row whether it holds.
use Prim.Native.Nat.{ℕ, ◌*◌, ◌+◌, ◌≤◌}
use mathlib.Core.Path.{◌≡◌, sym, ap, ap₂, ◌∙◌}
use mathlib.Core.Bool.{true, not, ◌&&◌}
use native.Mathlib.Omega.{arith}
use Rattle.lists.specs.Functions.{from, Within}
use Rattle.lists.specs.Parts.{words}
use Rattle.lists.proofs.Functions.{apart, widened}
use Rattle.model.specs.Kinds.{fit_fields, barred}
use Rattle.laws.proofs.Tests.{refused, allowed}
use Rattle.logs.specs.Log.{LogRow, row_of, rows_of, row_size, failing}
use Rattle.log_check.specs.Remembered.{never, positions_test}
use Rattle.log_check.proofs.Values.{said}
use Rattle.log_check.proofs.RowTests.{fields_test, turn_test, fields_of_lem, turn_of, member-within, slot-within, row-holds}
use Rattle.log_check.proofs.Remembered.{row_member, row_value, bar-read, value_read, place_read}
use Rattle.log_check.proofs.steps.row_holds.Goals as goal
use Rattle.log_check.proofs.steps.row_holds.Goals.{After-fields_hold, After-positions_hold, Else-not-fields_hold}

-- The row, and those above it.

abbrev row : (ℕ → ℕ) → ℕ → LogRow
row w k = row_of (from w (k * row_size))

-- What is known behind each test, built on the one before.

fields : (c : After-fields_hold) → let w = words c.args.log.now in
    c.fields_hold.result ≡ fields_test c.args.n (row w c.args.k) (rows_of w c.args.k)
unfolding row_of from
fields c =
    let w = words c.args.log.now in
    let r = row w c.args.k in
    c.fields_hold.ensures
    ∙ ap (λ i. fit_fields c.args.n i r.slot r.operation && not (barred i r.slot r.operation)) (sym (row_member w c.args.k))

fit : (c : Else-not-fields_hold) → let w = words c.args.log.now in fields_test c.args.n (row w c.args.k) (rows_of w c.args.k) ≡ true
fit c = allowed (fields (goal.at.Else-not-fields_hold c).After-fields_hold) c.if-not-fields_hold.false-raw

member_in : (c : Else-not-fields_hold) → Within 12 (words c.args.log.now (c.args.k * row_size))
member_in c =
    let w = words c.args.log.now in
    let m = row_member w c.args.k in
    let h = member-within c.args.n (row w c.args.k) (rows_of w c.args.k) (fit c) in
    widened c.args.n _ c.requires.size (rw m at h)

slot_in : (c : Else-not-fields_hold) → Within 12 (words c.args.log.now (c.args.k * row_size + 2))
unfolding row_of from
slot_in c =
    let w = words c.args.log.now in
    widened c.args.n _ c.requires.size (slot-within c.args.n (row w c.args.k) (rows_of w c.args.k) (fit c))

turn : (c : After-positions_hold) → let w = words c.args.log.now in
    c.positions_hold.result ≡ turn_test c.args.n (row w c.args.k) (rows_of w c.args.k)
unfolding row_of from
turn c =
    let w = words c.args.log.now in
    let r = row w c.args.k in
    let known = c.requires.remembers in
    c.positions_hold.ensures
    ∙ ap₂ (λ bar last. positions_test bar last r.begin_at r.accepted_at r.end_at)
    (bar-read w c.args.k known (member_in (goal.at.After-positions_hold c).Else-not-fields_hold)) known.accepted

-- The goals.

pub returns-then-not-fields_hold : goal.returns-then-not-fields_hold
returns-then-not-fields_hold c =
    let w = words c.args.log.now in
    let tested = fields (goal.at.returns-then-not-fields_hold c).After-fields_hold in
    failing (λ h. apart (fields_of_lem c.args.n (row w c.args.k) (rows_of w c.args.k) h) (refused tested c.if-not-fields_hold.true-raw))

pub overflow_sub-bar : goal.overflow_sub-bar
overflow_sub-bar c = omega (arith, (member_in (goal.at.overflow_sub-bar c).Else-not-fields_hold).least)

pub bounds-until-member : goal.bounds-until-member
bounds-until-member c = let m = member_in (goal.at.bounds-until-member c).Else-not-fields_hold in omega (arith, m.least, m.most)

pub returns-else-positions_hold : goal.returns-else-positions_hold
returns-else-positions_hold c =
    let w = words c.args.log.now in
    let tested = turn (goal.at.returns-else-positions_hold c).After-positions_hold in
    rw c.if-positions_hold.false
    (failing (λ h. apart (turn_of c.args.n (row w c.args.k) (rows_of w c.args.k) h) (sym tested ∙ c.if-positions_hold.false)))

pub overflow_sub-before : goal.overflow_sub-before
overflow_sub-before c = omega (arith, (slot_in (goal.at.overflow_sub-before c).Else-not-fields_hold).least)

pub bounds-written-slot : goal.bounds-written-slot
bounds-written-slot c = let r = slot_in (goal.at.bounds-written-slot c).Else-not-fields_hold in omega (arith, r.least, r.most)

pub read_holds-requires : goal.read_holds-requires
read_holds-requires c =
    let there = c.requires.there in
    let slot = slot_in (goal.at.read_holds-requires c).Else-not-fields_hold in
    let place = place_read (words c.args.log.now) c.args.k c.requires.remembers slot in
    (omega arith, omega arith)

pub returns-then-positions_hold : goal.returns-then-positions_hold
unfolding row_of from
returns-then-positions_hold c =
    let w = words c.args.log.now in
    let k = c.args.k in
    let e = (goal.at.returns-then-positions_hold c).Else-not-fields_hold in
    let own = row_value w k in
    let last = value_read w k c.requires.remembers (slot_in e) in
    let small : words c.args.log.now (k * row_size + 11) ≤ never = omega (arith, c.type_inv.log (k * 14 + 11)) in
    said
    (λ reads. row-holds c.args.n (row w k) (rows_of w k) (fit e) small
    (sym (turn (goal.at.returns-then-positions_hold c).After-positions_hold) ∙ c.if-positions_hold.true)
    (λ r h. sym own ∙ reads r h ∙ last))
    (λ h r ended. own ∙ h.reads r ended ∙ sym last)
    c.read_holds.ensures
