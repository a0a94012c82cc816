-- `open_by` meets its contract for the kind that has the most members: n is refused, or the table's length, or all of it is opened.
use Prim.Native.Nat.{◌≤◌}
use native.Mathlib.Omega.{arith}
use mathlib.Core.Bool.{true}
use mathlib.Core.Path.{◌∙◌, ◌≡◌, ap, sym}
use lib.ListN.{length}
use Rattle.lists.specs.Functions.{inside}
use Rattle.lists.proofs.Functions.{inside_high, inside_low}
use Rattle.model.specs.Kinds.{Kind}
use Rattle.model.specs.Table.{table_size}
use Rattle.laws.proofs.Tests.{allowed, refused}
use Rattle.tables.proofs.Opened.{length-refused, opens, size_refused}
use Rattle.board.proofs.kinds.open_by.Goals as goal
use Rattle.board.proofs.kinds.open_by.Goals.{Else-not-is_numbered, Else-table-table_size}

sized : (c : Else-not-is_numbered) → let a = c.args in inside a.kind.most a.n ≡ true
sized c = allowed c.is_numbered.ensures c.if-not-is_numbered.false-raw

small : (c : Else-not-is_numbered) → c.args.n ≤ 12
small c = let most = c.requires in let few = inside_high c.args.kind.most _ (sized c) in omega arith

-- the same for a kind that has as many members at most
sized_for : (c : Else-not-is_numbered) (k : Kind) → c.args.kind.most ≡ k.most → inside k.most c.args.n ≡ true
sized_for c k most = ap (λ most. inside most c.args.n) (sym most) ∙ sized c

long : (c : Else-table-table_size) → let a = c.args in length a.table.now ≡ table_size a.n
long c = c.if-table-table_size.false ∙ c.table_size.ensures.0

pub returns-then-not-is_numbered : goal.returns-then-not-is_numbered
returns-then-not-is_numbered c k most =
    let n = c.args.n in
    size_refused k _ _ (ap (λ most. inside most n) (sym most) ∙ refused c.is_numbered.ensures c.if-not-is_numbered.true-raw)

pub table_size-requires : goal.table_size-requires
table_size-requires c = small c

pub returns-then-table-table_size : goal.returns-then-table-table_size
returns-then-table-table_size c k most =
    length-refused k _ _ (sized_for (goal.at.returns-then-table-table_size c).Else-not-is_numbered k most)
    (λ e. c.if-table-table_size.true (e ∙ sym c.table_size.ensures.0))

pub open_all-requires : goal.open_all-requires
open_all-requires c =
    let place = goal.at.open_all-requires c in
    let fits = place.Else-not-is_numbered in
    (inside_low c.args.kind.most _ (sized fits), (small fits, long place.Else-table-table_size))

pub returns : goal.returns
returns c k most =
    opens k _ _ (sized_for (goal.at.returns c).Else-not-is_numbered k most) (long (goal.at.returns c).Else-table-table_size)
    c.open_all.ensures
