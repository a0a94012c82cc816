-- `search_lines` meets its contract: what the lines ahead give, with what is remembered, is what all give; and a line more is refused or
-- leaves that so.
use Rattle.std.proofs.Common.{rules, ◌≡◌, ◌∷◌, ℕ, ◌+◌, ◌≤◌, List, [], length, nat_eq, Some, None}
use borrow.Author.Tests.{tests, eqb-true, eqb-false}
use mathlib.Core.Path.{refl, sym, ap, subst, ◌∙◌}
use native.Mathlib.Omega.{arith}
use Rattle.std.specs.Option.{unwrap_or}
use Rattle.std.specs.Iterator.Adapters.{enumerate_source, enumerate_count}
use Rattle.model.specs.Overtaker.{most_bytes}
use Rattle.script_run.proofs.Held.{step_whole}
use Rattle.overtaker_search.specs.Search.{Search, search_of, search_start, lines_searched}
use Rattle.overtaker_search.proofs.LineTaken.{NamedOr31, answer_named, held_counts, held_named, search_ends, search_goes}
use Rattle.overtaker.specs.Lines.{lines_left}
use Rattle.overtaker.proofs.Answers.{as_refused}
use Rattle.overtaker.proofs.NextLine.{ahead, first_ahead, skips-line, runs-line, none_ahead}
use Rattle.overtaker.proofs.passes.search_lines.Goals as goal
use Rattle.overtaker.proofs.passes.search_lines.Goals.{In-Some, After-is_some_and, Then-is_some_and, Else-is_some_and}

-- the line at hand, and those behind it
abbrev behind : In-Some → List (List ℕ)
behind c = lines_left (enumerate_source c.next.new.self)

left : (c : In-Some)
    → lines_left (enumerate_source c.loop-passed.passed-iterator) ≡ c.in-Some.line.now ∷ behind c
left c = search rules

number : (c : In-Some) → enumerate_count c.next.new.self ≡ enumerate_count c.loop-passed.passed-iterator + 1
number c = search rules

place : (c : In-Some) → c.in-Some.passed + 1 ≡ enumerate_count c.loop-passed.passed-iterator + 1
place c = search rules

few : (c : In-Some) → enumerate_count c.next.new.self + length (behind c) ≤ most_bytes
few c = omega (arith, c.loop-passed.invariant.few, ap length (left c), number c)

-- is the line at hand the one that is left out?
tells : (c : After-is_some_and) → c.is_some_and.result ≡ nat_eq (unwrap_or c.args.skip 0) (c.in-Some.passed + 1)
tells c = search (rules, tests)

skipped : (c : Then-is_some_and) → c.in-Some.passed + 1 ≡ unwrap_or c.args.skip 0
skipped c = sym (eqb-true _ _ (sym (tells (goal.at.Then-is_some_and c).After-is_some_and) ∙ c.if-is_some_and.true))

runs_here : (c : Else-is_some_and) → c.in-Some.passed + 1 ≡ unwrap_or c.args.skip 0 → ⊥
runs_here c e = eqb-false _ _ (sym (tells (goal.at.Else-is_some_and c).After-is_some_and) ∙ c.if-is_some_and.false) (sym e)

pub loop-passed-init : goal.loop-passed-init
unfolding search_start
loop-passed-init c =
    let a = c.args in
    let e = c.start-search.ensures in
    let lines : lines_left (enumerate_source c.into_iter-passed-iterator.result) ≡ lines_left a.lines = search rules in
    let none : enumerate_count c.into_iter-passed-iterator.result ≡ 0 = search rules in
    record {
      whole = c.requires.0;
      few = omega (arith, ap length lines, none, c.requires.1);
      begun = omega (arith, ap (λ x. x.begun) e);
      steps = omega (arith, ap (λ x. x.steps) e);
      named = subst (λ (x : Search). NamedOr31 x.first) (sym e) refl;
      same = rw (lines, none, e) (ap (lines_searched a.asked.member a.asked.ordinal a.table.now search_start)
          (first_ahead (unwrap_or a.skip 0) (lines_left a.lines)));
    }

pub loop-passed-preserved-then-is_some_and : goal.loop-passed-preserved-then-is_some_and
loop-passed-preserved-then-is_some_and c =
    let here = (goal.at.loop-passed-preserved-then-is_some_and c).In-Some in
    let a = c.args in
    let i = c.loop-passed.invariant in
    record {
      whole = i.whole;
      few = few here;
      begun = i.begun;
      steps = omega (arith, i.steps, number here);
      named = i.named;
      same = rw (number here) (i.same ∙ ap (λ l. lines_searched a.asked.member a.asked.ordinal c.loop-passed.table
          (search_of c.loop-passed.search) (ahead (unwrap_or a.skip 0) (enumerate_count c.loop-passed.passed-iterator) l)) (left here)
          ∙ ap (lines_searched a.asked.member a.asked.ordinal c.loop-passed.table (search_of c.loop-passed.search))
          (skips-line (unwrap_or a.skip 0) (enumerate_count c.loop-passed.passed-iterator) c.in-Some.line.now (behind here)
          (sym (place here) ∙ skipped c)));
    }

-- A line that runs.

-- the lines from it on
runs : (c : Else-is_some_and) → let here = (goal.at.Else-is_some_and c).In-Some in
    ahead (unwrap_or c.args.skip 0) (enumerate_count c.loop-passed.passed-iterator)
    (lines_left (enumerate_source c.loop-passed.passed-iterator))
    ≡ c.in-Some.line.now ∷ ahead (unwrap_or c.args.skip 0) (enumerate_count c.next.new.self) (behind here)
runs c =
    let here = (goal.at.Else-is_some_and c).In-Some in
    rw (left here, number here) (runs-line (unwrap_or c.args.skip 0) (enumerate_count c.loop-passed.passed-iterator) c.in-Some.line.now
    (behind here) (λ e. runs_here c (place here ∙ e)))

pub returns-in_err-done : goal.returns-in_err-done
returns-in_err-done c =
    let here = (goal.at.returns-in_err-done c).Else-is_some_and in
    let a = c.args in
    let s = search_of c.loop-passed.search in
    let none : c.run_line.result ≡ None = search rules in
    let held = rw none at c.run_line.ensures.step_held in
    let ends = search_ends a.asked.member a.asked.ordinal c.in-Some.line.now
    (ahead (unwrap_or a.skip 0) (enumerate_count c.next.new.self) (behind (goal.at.returns-in_err-done c).In-Some))
    c.loop-passed.table s held in
    let all = c.loop-passed.invariant.same
    ∙ ap (lines_searched a.asked.member a.asked.ordinal c.loop-passed.table s) (runs here) ∙ ends in
    search rules

pub loop-passed-preserved : goal.loop-passed-preserved
loop-passed-preserved c =
    let here = (goal.at.loop-passed-preserved c).Else-is_some_and in
    let at = (goal.at.loop-passed-preserved c).In-Some in
    let a = c.args in
    let i = c.loop-passed.invariant in
    let d = c.in_ok-done.done in
    let some : c.run_line.result ≡ Some d = search rules in
    let held = rw some at c.run_line.ensures.step_held in
    let counts = held_counts a.asked.member a.asked.ordinal c.loop-passed.search c.step-search.result d _ held c.step-search.ensures in
    record {
      whole = rw c.run_line.ensures.table_after (step_whole c.loop-passed.table _ i.whole);
      few = few at;
      begun = omega (arith, i.begun, counts.0, counts.1);
      steps = omega (arith, i.steps, counts.0, number at);
      named = held_named a.asked.member a.asked.ordinal c.loop-passed.search c.step-search.result d _ held c.step-search.ensures i.named;
      same = i.same
          ∙ ap (lines_searched a.asked.member a.asked.ordinal c.loop-passed.table (search_of c.loop-passed.search)) (runs here)
          ∙ search_goes a.asked.member a.asked.ordinal c.in-Some.line.now
          (ahead (unwrap_or a.skip 0) (enumerate_count c.next.new.self) (behind at)) c.loop-passed.table (search_of c.loop-passed.search)
          d held c.run_line.new.table c.run_line.ensures.table_after (search_of c.step-search.result) c.step-search.ensures;
    }

pub returns : goal.returns
unfolding lines_searched
returns c =
    let a = c.args in
    let none : lines_left (enumerate_source c.loop-passed.passed-iterator) ≡ [] = search rules in
    as_refused c.answer.result c.map_err.result
    (subst NamedOr31 (sym c.answer.ensures) (answer_named (search_of c.loop-passed.search) c.loop-passed.invariant.named))
    (search rules)
    ∙ c.answer.ensures
    ∙ sym (c.loop-passed.invariant.same
    ∙ ap (λ l. lines_searched a.asked.member a.asked.ordinal c.loop-passed.table (search_of c.loop-passed.search)
    (ahead (unwrap_or a.skip 0) (enumerate_count c.loop-passed.passed-iterator) l)) none
    ∙ ap (lines_searched a.asked.member a.asked.ordinal c.loop-passed.table (search_of c.loop-passed.search))
    (none_ahead (unwrap_or a.skip 0) (enumerate_count c.loop-passed.passed-iterator)))
