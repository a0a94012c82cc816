-- `find_on` meets its contract: the script is too long, or has no line, or too many, or its first is malformed, or the earlier tool
-- refuses it; or somebody overtook the operation, and its step is looked for.
use Rattle.std.proofs.Common.{rules, ◌≡◌, ◌≤◌, ◌∷◌, length}
use mathlib.Core.Bool.{true}
use mathlib.Core.Option.{some}
use mathlib.Core.Path.{refl, sym, ap, ◌∙◌}
use Rattle.std.proofs.lemmas.Iterator.Consumers.{count_from_yields_List, YieldsList-from_first}
use native.Mathlib.Omega.{arith}
use Rattle.lists.specs.Functions.{inside}
use Rattle.lists.proofs.Functions.{inside_low, inside_high}
use Rattle.model.specs.Script.{lines_of}
use Rattle.model.specs.Overtaker.{most_bytes, lines_overtaker}
use Rattle.model.specs.Cause.{answered, most_lines, unless_refused, lines_cause, cause}
use Rattle.runs.proofs.Overtakers.{few_lines}
use Rattle.overtaker.specs.Lines.{lines_left}
use Rattle.cause.specs.Meaning.{Named}
use Rattle.cause.proofs.Answers.{answered_so, too_long, no_lines, too_many, first_malformed, first_named}
use Rattle.cause.proofs.Searching.{size}
use Rattle.cause.proofs.steps.find_on.Goals as goal
use Rattle.cause.proofs.steps.find_on.Goals.{After-next, In_ok-first, After-count, Else-count-gt-MOST_LINES, In_ok-n, In_ok-find_behind}

short : (c : After-next) → length c.args.script.now ≤ most_bytes
short c = omega (arith, c.if-script-gt-MOST_BYTES.false)

-- the first line, and those behind it
lines : (c : In_ok-first) → lines_of c.args.script.now ≡ c.in_ok-first.first.now ∷ lines_left c.next.new.self
lines c = search rules

fewer : (c : In_ok-first) → length (lines_left c.next.new.self) ≤ most_bytes
fewer c = omega (arith, few_lines c.args.script.now, ap length (lines c), short (goal.at.In_ok-first c).After-next)

counts : (c : After-count) → c.count.result ≡ length (lines_left c.next.new.self)
counts c = count_from_yields_List c.next.new.self c.count.result c.count.ensures.ran
    (YieldsList-from_first (λ x. x.now) lines_left (lines_left c.next.new.self) refl)

few : (c : Else-count-gt-MOST_LINES) → length (lines_left c.next.new.self) ≤ most_lines
few c = omega (arith, counts (goal.at.Else-count-gt-MOST_LINES c).After-count, c.if-count-gt-MOST_LINES.false)

by_overtaker : (c : In_ok-n) → let a = c.args in
    cause a.script.now a.member a.ordinal
    ≡ unless_refused (lines_overtaker c.in_ok-n.n (lines_left c.next.new.self) a.member a.ordinal)
    (lines_cause (some c.in_ok-n.n) (lines_left c.next.new.self) a.member a.ordinal)
by_overtaker c =
    let a = c.args in
    first_named a.script.now a.member a.ordinal (short (goal.at.In_ok-n c).After-next) c.in_ok-first.first.now
    (lines_left c.next.new.self) (lines (goal.at.In_ok-n c).In_ok-first) (few (goal.at.In_ok-n c).Else-count-gt-MOST_LINES)
    c.in_ok-n.n (search rules)

named : (c : In_ok-find_behind) → Named (lines_overtaker c.in_ok-n.n (lines_left c.next.new.self) c.args.member c.args.ordinal)
named c = search rules

sized : (c : In_ok-find_behind) → inside 12 c.in_ok-n.n ≡ true
sized c = size c.in_ok-n.n (lines_left c.next.new.self) c.args.member c.args.ordinal (named c)

pub returns-then-script-gt-MOST_BYTES : goal.returns-then-script-gt-MOST_BYTES
returns-then-script-gt-MOST_BYTES c =
    sym (too_long c.args.script.now c.args.member c.args.ordinal c.if-script-gt-MOST_BYTES.true)

pub returns-in_err-first : goal.returns-in_err-first
returns-in_err-first c =
    let a = c.args in
    let none = no_lines a.script.now a.member a.ordinal (short (goal.at.returns-in_err-first c).After-next) (search rules) in
    search rules

pub count-requires-clause-fits : goal.count-requires-clause-fits
count-requires-clause-fits c = let f = fewer (goal.at.count-requires-clause-fits c).In_ok-first in search rules

pub returns-then-count-gt-MOST_LINES : goal.returns-then-count-gt-MOST_LINES
returns-then-count-gt-MOST_LINES c =
    let a = c.args in
    sym (too_many a.script.now a.member a.ordinal (short (goal.at.returns-then-count-gt-MOST_LINES c).After-next) c.in_ok-first.first.now
    (lines_left c.next.new.self) (lines (goal.at.returns-then-count-gt-MOST_LINES c).In_ok-first)
    (omega (arith, counts (goal.at.returns-then-count-gt-MOST_LINES c).After-count, c.if-count-gt-MOST_LINES.true)))

pub returns-in_err-n : goal.returns-in_err-n
returns-in_err-n c =
    let a = c.args in
    let none = first_malformed a.script.now a.member a.ordinal (short (goal.at.returns-in_err-n c).After-next) c.in_ok-first.first.now
    (lines_left c.next.new.self) (lines (goal.at.returns-in_err-n c).In_ok-first)
    (few (goal.at.returns-in_err-n c).Else-count-gt-MOST_LINES) (search rules) in
    search rules

pub returns-in_err-find_behind : goal.returns-in_err-find_behind
unfolding unless_refused
returns-in_err-find_behind c =
    let e = by_overtaker (goal.at.returns-in_err-find_behind c).In_ok-n in
    let f = c.find_behind.ensures in
    search rules

pub table_size-size-requires : goal.table_size-size-requires
table_size-size-requires c = inside_high 12 c.in_ok-n.n (sized c)

pub search_steps-requires-clause-within : goal.search_steps-requires-clause-within
search_steps-requires-clause-within c =
    let w = sized (goal.at.search_steps-requires-clause-within c).In_ok-find_behind in (
      record { least = inside_low 12 c.in_ok-n.n w; most = inside_high 12 c.in_ok-n.n w },
      (search rules, fewer (goal.at.search_steps-requires-clause-within c).In_ok-first),
    )

pub returns : goal.returns
returns c =
    let e = by_overtaker (goal.at.returns c).In_ok-n in
    let f = named (goal.at.returns c).In_ok-find_behind in
    sym (e ∙ answered_so _ _ f ∙ ap answered (sym c.search_steps.ensures))
