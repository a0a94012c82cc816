-- `find_on` meets its contract: the script is too long, or has no line, or its first line is malformed; or that line names n, and the
-- others decide.
use Rattle.std.proofs.Common.{rules, ◌≡◌, ◌≤◌, ◌∷◌, length}
use mathlib.Core.Path.{sym, ap, ◌∙◌}
use native.Mathlib.Omega.{arith}
use Rattle.model.specs.Script.{lines_of}
use Rattle.model.specs.Overtaker.{most_bytes}
use Rattle.runs.proofs.Overtakers.{few_lines}
use Rattle.overtaker.specs.Lines.{lines_left}
use Rattle.overtaker.proofs.Answers.{no_lines, first_malformed, first_named}
use Rattle.overtaker.proofs.steps.find_on.Goals as goal
use Rattle.overtaker.proofs.steps.find_on.Goals.{After-next, In_ok-first}

short : (c : After-next) → length c.args.script.now ≤ most_bytes
short c = omega (arith, c.if-script-gt-MOST_BYTES.false)

-- the first line, and those behind it
lines : (c : In_ok-first) → lines_of c.args.script.now ≡ c.in_ok-first.first.now ∷ lines_left c.next.new.self
lines c = search rules

pub returns-in_err-first : goal.returns-in_err-first
returns-in_err-first c =
    let a = c.args in
    let none = no_lines a.script.now a.member a.ordinal (short (goal.at.returns-in_err-first c).After-next) (search rules) in
    search rules

pub returns-in_err-n : goal.returns-in_err-n
returns-in_err-n c =
    let a = c.args in
    let none = first_malformed a.script.now a.member a.ordinal (short (goal.at.returns-in_err-n c).After-next) c.in_ok-first.first.now
    (lines_left c.next.new.self) (lines (goal.at.returns-in_err-n c).In_ok-first) (search rules) in
    search rules

pub find_behind-requires : goal.find_behind-requires
find_behind-requires c = omega (
  arith,
  few_lines c.args.script.now,
  ap length (lines (goal.at.find_behind-requires c).In_ok-first),
  short (goal.at.find_behind-requires c).After-next,
)

pub returns : goal.returns
returns c =
    let a = c.args in
    c.find_behind.ensures
    ∙ sym (first_named a.script.now a.member a.ordinal (short (goal.at.returns c).After-next) c.in_ok-first.first.now
    (lines_left c.next.new.self) (lines (goal.at.returns c).In_ok-first) c.in_ok-n.n (search rules))
