-- `Row::with` meets its contract: one count is replaced at its place.
use borrow.Author.Rules.{rules}
use Prim.Native.Nat.{◌+◌, ◌-◌}
use mathlib.Core.Path.{◌≡◌, refl, sym, ap, ◌∙◌}
use native.Mathlib.Omega.{arith}
use lib.ListN.{length}
use Rattle.lists.proofs.Functions.{inside_zero, inside_above}
use Rattle.lists.specs.Functions.{put}
use Rattle.model.proofs.Rows.{with_count_in, with_count_out}
use Rattle.rows.specs.Meaning.{row_in}
use Rattle.rows.proofs.Laws.{count_set}
use Rattle.rows.proofs.Row.with.Goals as goal
use Rattle.rows.proofs.Row.with.Goals.{then-member-lt1-via-then-member-lt1, then-member-lt1-via-else-member-lt1+then-member-gt12}

pub returns-then-member-lt1 : goal.returns-then-member-lt1
returns-then-member-lt1 c =
    let a = c.args in
    sym (with_count_out 12 (row_in a.self) a.member a.count (elim c.then-member-lt1.branch [
      | then-member-lt1-via-then-member-lt1 w ↦ let e : a.member ≡ 0 = omega arith in rw e (inside_zero 12)
      | then-member-lt1-via-else-member-lt1+then-member-gt12 w ↦ inside_above 12 a.member (omega arith)
    ]))

pub returns : goal.returns
returns c =
    let a = c.args in
    let e : a.member - 1 + 1 ≡ a.member = omega arith in
    let l : length a.self.counts ≡ 12 = search rules in
    count_set a.self _ (a.member - 1) a.count (omega arith) (omega arith) refl
    ∙ ap (λ k. put (row_in a.self) k a.count) e
    ∙ sym (with_count_in 12 (row_in a.self) a.member a.count (omega arith) (omega arith))
