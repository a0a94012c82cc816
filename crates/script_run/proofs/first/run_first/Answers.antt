-- `run_first` meets its contract: the line is refused, or the board is opened on the part of the words that it fills.
use Prim.Native.Nat.{ℕ}
use mathlib.Core.Path.{◌≡◌, refl, sym, ap, ◌∙◌}
use mathlib.Core.List.{List}
use native.Mathlib.Omega.{arith}
use lib.ListN.{length, take}
use lib.Seq.{length-take-le}
use Rattle.lists.proofs.Functions.{inside_in}
use Rattle.model.specs.Board.{opened}
use Rattle.model.specs.Table.{table_words}
use Rattle.laws.proofs.Tables.{length-table}
use Rattle.script_run.specs.Feeding.{refuses, opens, over_step, ended}
use Rattle.script_run.specs.Meaning.{first_line}
use Rattle.script_run.proofs.Held.{whole_words, opened_words, opened_done}
use Rattle.script_run.proofs.States.{refused_ran, ended-ran}
use Rattle.script_run.proofs.first.run_first.Goals as goal
use Rattle.script_run.proofs.first.run_first.Goals.{After-open, After-table_size-size, In-Ok}

-- What is known at each place, built on the place before: the part of the words that is lent to open, and what it leaves there.

abbrev lent : After-table_size-size → List ℕ
lent c = take c.table_size-size.result c.args.table.now

lent_long : (c : After-table_size-size) → length (lent c) ≡ c.table_size-size.result
lent_long c =
    let r = c.requires in
    length-take-le c.table_size-size.result c.args.table.now (omega (arith, c.table_size-size.ensures.1, r.room))

opens_words : (c : After-open) → c.open.new.table ≡ table_words c.in-Ok.n (opened c.in-Ok.n)
opens_words c =
    let p = (goal.at.After-open c).After-table_size-size in
    let within = c.in-Ok.ensures.within in
    c.open.ensures.table_after
    ∙ opened_words c.in-Ok.n (lent p) (inside_in 12 c.in-Ok.n within.least within.most) (lent_long p ∙ c.table_size-size.ensures.0)

-- The goals.

-- nothing refuses the opening
pub unwrap-requires : goal.unwrap-requires
unwrap-requires c =
    let p = (goal.at.unwrap-requires c).After-table_size-size in
    let within = c.in-Ok.ensures.within in
    opened_done c.in-Ok.n (lent p) (inside_in 12 c.in-Ok.n within.least within.most) (lent_long p ∙ c.table_size-size.ensures.0)
    c.open.result c.open.ensures.value

pub returns-in-Err : goal.returns-in-Err
returns-in-Err c =
    let a = c.args in
    let table = take a.p.size a.table.now in
    refused_ran a.p a.table.now a.kept.now c.requires (first_line a.p a.table.now a.kept.now) _ c.number.result
    (c.in-Err.ensures.ends table ∙ ap (λ k. ended over_step table (refuses k)) (sym c.number.ensures)) refl

pub returns-in-Ok : goal.returns-in-Ok
returns-in-Ok c =
    let a = c.args in
    let n = c.in-Ok.n in
    let words = c.open.new.table in
    let known = c.table_size-size in
    let e = c.in-Ok.ensures.ends (take a.p.size a.table.now)
    ∙ ap (λ t. ended 1 t (opens n)) (sym (opens_words (goal.at.returns-in-Ok c).After-open)) in
    ended-ran a.p a.table.now a.kept.now c.requires (first_line a.p a.table.now a.kept.now) _ 1 known.result words
    (ap length (opens_words (goal.at.returns-in-Ok c).After-open) ∙ length-table n (opened n) ∙ sym known.ensures.0) known.ensures.1
    (rw (opens_words (goal.at.returns-in-Ok c).After-open)
    (whole_words n (opened n) c.in-Ok.ensures.within.least c.in-Ok.ensures.within.most))
    (opens n) e refl (refl, c.in-Ok.ensures.within.most)
