-- `search_steps` meets its contract: no line before a place is the step that is looked for, and the line there is it, or is passed.
use Rattle.std.proofs.Common.{rules, ◌≡◌, ◌∷◌, ◌+◌, length, ℕ}
use borrow.Author.Tests.{tests}
use mathlib.Core.Path.{sym, ap, subst, ◌∙◌}
use mathlib.Core.List.{List}
use native.Mathlib.Omega.{arith}
use Rattle.std.specs.Iterator.Adapters.{enumerate_source, enumerate_count}
use Rattle.model.specs.Overtaker.{lines_overtaker}
use Rattle.model.specs.Cause.{without}
use mathlib.Core.Option.{some}
use Rattle.model.specs.Script.{line_of}
use Rattle.script.specs.Meaning.{held_line}
use Rattle.overtaker.specs.Lines.{lines_left}
use Rattle.overtaker_search.specs.Meaning.{told_overtaker}
use Rattle.cause.proofs.Searching.{Searching, searching_first, passes-own, passes-other, finds, finds_none, is_own, is_spared}
use Rattle.cause.proofs.lines.search_steps.Invariants.{Passed}
use Rattle.cause.proofs.lines.search_steps.Goals as goal
use Rattle.cause.proofs.lines.search_steps.Goals.{In-Some, After-is_some_and, After-is_err}

abbrev all : In-Some → List (List ℕ)
all c = lines_left c.args.lines

abbrev behind : In-Some → List (List ℕ)
behind c = lines_left (enumerate_source c.next.new.self)

left : (c : In-Some) → lines_left (enumerate_source c.loop-passed.passed-iterator) ≡ c.in-Some.line.now ∷ behind c
left c = search rules

number : (c : In-Some) → enumerate_count c.next.new.self ≡ enumerate_count c.loop-passed.passed-iterator + 1
number c = search rules

searching : (c : In-Some) → Searching c.args.n (all c) c.args.asked.member c.args.asked.ordinal c.loop-passed.invariant.overtaken
    (c.in-Some.line.now ∷ behind c) (enumerate_count c.loop-passed.passed-iterator)
searching c =
    subst (λ l. Searching c.args.n (all c) c.args.asked.member c.args.asked.ordinal c.loop-passed.invariant.overtaken l
    (enumerate_count c.loop-passed.passed-iterator)) (left c) c.loop-passed.invariant.searching

passed : (c : In-Some) → Searching c.args.n (all c) c.args.asked.member c.args.asked.ordinal c.loop-passed.invariant.overtaken (behind c)
    (enumerate_count c.loop-passed.passed-iterator + 1)
    → Passed c.args.n c.args.asked.member c.args.asked.ordinal (all c) c.next.new.self
passed c s = record {
  overtaken = c.loop-passed.invariant.overtaken;
  few = omega (arith, c.loop-passed.invariant.few, ap length (left c), number c);
  searching = subst (Searching c.args.n (all c) c.args.asked.member c.args.asked.ordinal c.loop-passed.invariant.overtaken (behind c))
      (sym (number c)) s;
}

own : (c : After-is_some_and) → c.is_some_and.result ≡ is_own c.args.asked.member (held_line (line_of c.in-Some.line.now))
own c = let e = c.parse_line.ensures in search (rules, tests)

place : (c : In-Some) → c.in-Some.passed + 1 ≡ enumerate_count c.loop-passed.passed-iterator + 1
place c = search rules

tells : (c : After-is_err) → c.is_err.result ≡ is_spared (told_overtaker c.search_board.result)
tells c = search (rules, tests)

-- nobody is named without this line, or somebody
spared : (c : After-is_err) → let a = c.args in
    c.is_err.result
    ≡ is_spared (lines_overtaker a.n (without (enumerate_count c.loop-passed.passed-iterator + 1) (lines_left a.lines)) a.asked.member
    a.asked.ordinal)
spared c =
    let a = c.args in
    tells c ∙ ap is_spared (c.search_board.ensures
    ∙ ap (λ k. lines_overtaker a.n (without k (lines_left a.lines)) a.asked.member a.asked.ordinal)
    (place (goal.at.After-is_err c).In-Some))

pub loop-passed-init : goal.loop-passed-init
loop-passed-init c =
    let all = searching_first c.args.n (lines_left c.args.lines) c.args.asked.member c.args.asked.ordinal c.requires.named in
    record { overtaken = c.requires.named; few = search rules; searching = search rules }

pub loop-passed-preserved-then-is_some_and : goal.loop-passed-preserved-then-is_some_and
loop-passed-preserved-then-is_some_and c =
    let here = (goal.at.loop-passed-preserved-then-is_some_and c).In-Some in
    let o = own (goal.at.loop-passed-preserved-then-is_some_and c).After-is_some_and in
    passed here (passes-own c.args.n (all here) c.args.asked.member c.args.asked.ordinal c.loop-passed.invariant.overtaken
    c.in-Some.line.now (behind here) (enumerate_count c.loop-passed.passed-iterator) (searching here) (sym o ∙ c.if-is_some_and.true))

pub loop-passed-preserved : goal.loop-passed-preserved
loop-passed-preserved c =
    let here = (goal.at.loop-passed-preserved c).In-Some in
    let o = own (goal.at.loop-passed-preserved c).After-is_some_and in
    passed here (passes-other c.args.n (all here) c.args.asked.member c.args.asked.ordinal c.loop-passed.invariant.overtaken
    c.in-Some.line.now (behind here) (enumerate_count c.loop-passed.passed-iterator) (searching here) (sym o ∙ c.if-is_some_and.false)
    (sym (spared (goal.at.loop-passed-preserved c).After-is_err) ∙ c.if-is_err.false))

pub returns-then-is_err : goal.returns-then-is_err
returns-then-is_err c =
    let here = (goal.at.returns-then-is_err c).In-Some in
    let o = own (goal.at.returns-then-is_err c).After-is_some_and in
    let found = finds c.args.n (all here) c.args.asked.member c.args.asked.ordinal c.loop-passed.invariant.overtaken
    c.in-Some.line.now (behind here) (enumerate_count c.loop-passed.passed-iterator) (searching here) (sym o ∙ c.if-is_some_and.false)
    (sym (spared (goal.at.returns-then-is_err c).After-is_err) ∙ c.if-is_err.true) in
    sym (found ∙ ap some (sym (place here)))

pub returns : goal.returns
returns c =
    sym (finds_none c.args.n (lines_left c.args.lines) c.args.asked.member c.args.asked.ordinal c.loop-passed.invariant.overtaken
    (enumerate_count c.loop-passed.passed-iterator)
    (subst (λ l. Searching c.args.n (lines_left c.args.lines) c.args.asked.member c.args.asked.ordinal c.loop-passed.invariant.overtaken l
    (enumerate_count c.loop-passed.passed-iterator)) (search rules) c.loop-passed.invariant.searching))
