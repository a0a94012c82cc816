-- `parse_pair` meets its contract: there is no space, or one of the two numbers about the first space cannot be read, or both are read.
use Prim.Native.Nat.{◌+◌, ◌-◌}
use mathlib.Core.Path.{◌≡◌, sym, ap, ◌∙◌}
use mathlib.Core.Option.{some}
use lib.ListN.{length, take, drop}
use Rattle.model.specs.Script.{space, before, beyond, number_of}
use Rattle.script.proofs.Reading.{number_empty, held_none, held_some, pair_none, rest_all}
use Rattle.script.proofs.Lines.{found_none, found_at}
use Rattle.script.proofs.parse_pair.Goals as goal
use Rattle.script.proofs.parse_pair.Goals.{In_ok-at, In_ok-first}

-- the part before the space, and the part beyond it, as they are lent

front : (c : In_ok-at) → before space c.args.t.now ≡ take c.in_ok-at.at c.args.t.now
front c = sym (found_at space c.args.t.now c.in_ok-at.at (sym c.in_ok-at.ensures)).1.0

back : (c : In_ok-at) → let i = c.in_ok-at.at + 1 in beyond space c.args.t.now ≡ take (length c.args.t.now - i) (drop i c.args.t.now)
back c =
    let t = c.args.t.now in
    sym (rest_all t (c.in_ok-at.at + 1) ∙ (found_at space t c.in_ok-at.at (sym c.in_ok-at.ensures)).1.1)

first : (c : In_ok-first) → number_of (before space c.args.t.now) ≡ some c.in_ok-first.first
first c = ap number_of (front (goal.at.In_ok-first c).In_ok-at) ∙ held_some _ c.in_ok-first.first (sym c.in_ok-first.ensures)

-- The goals.

pub returns-in_err-at : goal.returns-in_err-at
returns-in_err-at c =
    let t = c.args.t.now in
    let e = found_none space t (sym c.in_err-at.ensures) in
    c.from_residual.ensures ∙ sym (pair_none (number_of (before space t)) (number_of (beyond space t)) (number_empty (beyond space t) e))

pub returns-in_err-first : goal.returns-in_err-first
returns-in_err-first c =
    let none_first = ap number_of (front (goal.at.returns-in_err-first c).In_ok-at) ∙ held_none _ (sym c.in_err-first.ensures) in
    c.from_residual-in_err-first.ensures ∙ rw none_first

pub returns-in_err-second : goal.returns-in_err-second
returns-in_err-second c =
    let none_second = ap number_of (back (goal.at.returns-in_err-second c).In_ok-at) ∙ held_none _ (sym c.in_err-second.ensures) in
    c.from_residual-in_err-second.ensures ∙ sym (pair_none _ _ none_second)

pub returns : goal.returns
returns c =
    let second = ap number_of (back (goal.at.returns c).In_ok-at) ∙ held_some _ c.in_ok-second.second (sym c.in_ok-second.ensures) in
    rw (first (goal.at.returns c).In_ok-first, second)
