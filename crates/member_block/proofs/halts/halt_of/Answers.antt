-- `halt_of` meets its contract: the slot's row and what the block knows are read, and the two parts of the chain give the number and the
-- pairs.
use Rattle.std.proofs.lemmas.Grind.{common_steps}
use Rattle.std.proofs.Common.{rules}
use Prim.Native.Nat.{◌+◌}
use native.Mathlib.Omega.{arith}
use mathlib.Core.Path.{◌∙◌, ◌≡◌, sym, ap}
use Rattle.lists.specs.Functions.{from}
use Rattle.lists.specs.Parts.{words}
use Rattle.checks.specs.Halts.{number_of}
use Rattle.model.specs.Member.{halt_number}
use Rattle.model.specs.Pairs.{halt_pairs}
use Rattle.model.specs.RecordWords.{matrix_of, row_of}
use Rattle.model.specs.Table.{accepted_at, known_at, member_of}
use Rattle.rows.specs.Meaning.{matrix_in, row_in}
use Rattle.records.specs.Meaning.{record_in}
use Rattle.member_block.proofs.InOrder.{unsealed, slot_stops, slot_passes}
use Rattle.member_block.proofs.Laws.{few_pairs, ceiling_small}
use Rattle.member_block.proofs.halts.halt_of.Goals as goal
use Rattle.member_block.proofs.halts.halt_of.Goals.{After-load_row-accepted, Then-is_some, After-matrix_halt-rest}

-- what was read
accepted : (c : After-load_row-accepted) → let a = c.args in
    row_in c.load_row-accepted.result ≡ row_of a.n (from (words a.block.now) (accepted_at a.n))
accepted c =
    let a = c.args in
    c.load_row-accepted.ensures ∙ ap (λ k. row_of a.n (from (words a.block.now) k)) c.layout-at.ensures.accepted

known : (c : After-load_row-accepted) → let a = c.args in
    matrix_in a.known ≡ matrix_of a.n (from (words a.block.now) (known_at a.n))
unfolding member_of
known c = c.requires.1.1

pub returns-then-seals-ne3-clause-pairs_value : goal.returns-then-seals-ne3-clause-pairs_value
returns-then-seals-ne3-clause-pairs_value c = sym (unsealed _ _ _ _ _ _ c.if-seals-ne3.true).1

-- the first part says it
stops : (c : Then-is_some) →
    let a = c.args in
    let m = member_of a.n (words a.block.now) in
    let found = c.slot_halt-first.result in
    (number_of found.halt ≡ halt_number a.n a.member m (record_in a.newest) (record_in a.stored) a.seals)
    × (found.pairs ≡ halt_pairs a.n a.member m (record_in a.newest) (record_in a.stored) a.seals)
stops c =
    let a = c.args in
    let read = (goal.at.Then-is_some c).After-load_row-accepted in
    let e = c.slot_halt-first.ensures in
    slot_stops a.n a.member (words a.block.now) a.known c.load_row-accepted.result a.newest a.stored (known read) (accepted read)
    c.if-seals-ne3.false e.number_value e.pairs_value (search rules)

-- the second part does
passes : (c : After-matrix_halt-rest) →
    let a = c.args in
    let m = member_of a.n (words a.block.now) in
    let found = c.matrix_halt-rest.result in
    (number_of found.halt ≡ halt_number a.n a.member m (record_in a.newest) (record_in a.stored) a.seals)
    × (c.slot_halt-first.result.pairs + found.pairs ≡ halt_pairs a.n a.member m (record_in a.newest) (record_in a.stored) a.seals)
passes c =
    let a = c.args in
    let read = (goal.at.After-matrix_halt-rest c).After-load_row-accepted in
    let e = c.slot_halt-first.ensures in
    let f = c.matrix_halt-rest.ensures in
    slot_passes a.n a.member (words a.block.now) a.known c.load_row-accepted.result a.newest a.stored (known read) (accepted read)
    c.if-seals-ne3.false e.number_value e.pairs_value (grind (arith, common_steps)) f.number_value f.pairs_value

pub returns-then-is_some-clause-number_value : goal.returns-then-is_some-clause-number_value
returns-then-is_some-clause-number_value c = (stops (goal.at.returns-then-is_some-clause-number_value c).Then-is_some).0

pub returns-then-is_some-clause-pairs_value : goal.returns-then-is_some-clause-pairs_value
returns-then-is_some-clause-pairs_value c = (stops (goal.at.returns-then-is_some-clause-pairs_value c).Then-is_some).1

-- the ceiling is far below 2³²
pub overflow_add-pairs : goal.overflow_add-pairs
overflow_add-pairs c =
    let all = passes (goal.at.overflow_add-pairs c).After-matrix_halt-rest in
    omega (arith, few_pairs c.requires.0 c.requires.1.0 _ _ _ all.1, ceiling_small c.args.n c.requires.0.block.most)

pub returns-clause-number_value : goal.returns-clause-number_value
returns-clause-number_value c = (passes (goal.at.returns-clause-number_value c).After-matrix_halt-rest).0

pub returns-clause-pairs_value : goal.returns-clause-pairs_value
returns-clause-pairs_value c = (passes (goal.at.returns-clause-pairs_value c).After-matrix_halt-rest).1
