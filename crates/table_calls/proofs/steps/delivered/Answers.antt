-- `delivered` meets its contract: the phase is 1, 2 or 3, whose step hands back nothing, or else the outcome is taken.
use native.Mathlib.Omega.{arith}
use mathlib.Core.Path.{◌∙◌, refl, sym}
use Rattle.lists.specs.Parts.{words}
use Rattle.model.specs.Board.{Board}
use Rattle.model.specs.Table.{board_of}
use Rattle.model.proofs.Steps.{board_phase}
use Rattle.table_calls.proofs.Answers.{last_phase, last_returned, none_taken}
use Rattle.table_calls.proofs.steps.delivered.Goals as goal
use Rattle.table_calls.proofs.steps.delivered.Goals.{Start}

abbrev board : Start → Board
board s = board_of s.args.n (words s.args.table.now)

pub returns-in-1-clause-taken : goal.returns-in-1-clause-taken
returns-in-1-clause-taken c = none_taken c.args.n (board (goal.at.returns-in-1-clause-taken c).Start) _ (sym c.requires.1 ∙ c.in-1.is) refl

pub returns-in-1-clause-left : goal.returns-in-1-clause-left
returns-in-1-clause-left c =
    rw (board_phase _ (board (goal.at.returns-in-1-clause-left c).Start) _ 1 (sym c.requires.1 ∙ c.in-1.is)) c.submit_taken.ensures

pub returns-in-2-clause-taken : goal.returns-in-2-clause-taken
returns-in-2-clause-taken c = none_taken c.args.n (board (goal.at.returns-in-2-clause-taken c).Start) _ (sym c.requires.1 ∙ c.in-2.is) refl

pub returns-in-2-clause-left : goal.returns-in-2-clause-left
returns-in-2-clause-left c =
    rw (board_phase _ (board (goal.at.returns-in-2-clause-left c).Start) _ 2 (sym c.requires.1 ∙ c.in-2.is)) c.reply_taken.ensures

pub returns-in-3-clause-taken : goal.returns-in-3-clause-taken
returns-in-3-clause-taken c = none_taken c.args.n (board (goal.at.returns-in-3-clause-taken c).Start) _ (sym c.requires.1 ∙ c.in-3.is) refl

pub returns-in-3-clause-left : goal.returns-in-3-clause-left
returns-in-3-clause-left c =
    rw (board_phase _ (board (goal.at.returns-in-3-clause-left c).Start) _ 3 (sym c.requires.1 ∙ c.in-3.is)) c.commit_taken.ensures

pub returns-in_default-clause-taken : goal.returns-in_default-clause-taken
returns-in_default-clause-taken c =
    c.outcome_taken.ensures.taken
    ∙ last_returned c.args.n (board (goal.at.returns-in_default-clause-taken c).Start) c.args.member _ (sym c.requires.1)

pub returns-in_default-clause-left : goal.returns-in_default-clause-left
returns-in_default-clause-left c =
    rw (← last_phase c.args.n (board (goal.at.returns-in_default-clause-left c).Start) c.args.member _ (sym c.requires.1)
    (λ e. omega arith) (λ e. omega arith) (λ e. omega arith))
    c.outcome_taken.ensures.left
