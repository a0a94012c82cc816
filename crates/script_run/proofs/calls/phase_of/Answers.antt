-- `phase_of` meets its contract: the member has its number and its phase is read, or it has none.
use mathlib.Core.Path.{◌≡◌, sym, ◌∙◌}
use Prim.Native.Nat.{◌+◌}
use mathlib.Core.Bool.{true, false}
use Rattle.lists.specs.Functions.{inside}
use Rattle.lists.specs.Parts.{words}
use Rattle.lists.proofs.Functions.{inside_low, inside_high, within_off}
use Rattle.model.specs.Table.{block_at, phase_at}
use Rattle.model.specs.TableCalls.{phase_words}
use Rattle.script_run.proofs.calls.phase_of.Goals as goal

pub phase-requires : goal.phase-requires
phase-requires c =
    let n = words c.args.table.now 0 in
    let e : inside n c.args.member ≡ true = sym c.is_numbered.ensures ∙ c.if-is_numbered.true in
    (c.requires, record { least = inside_low n c.args.member e; most = inside_high n c.args.member e })

pub returns : goal.returns
unfolding phase_words
returns c =
    let a = c.args in
    let l = a.table.now in
    let n = words l 0 in
    let e : inside n a.member ≡ false = sym c.is_numbered.ensures ∙ c.if-is_numbered.false in
    sym (within_off n 0 (λ k. words l (block_at n k + phase_at)) a.member e)
