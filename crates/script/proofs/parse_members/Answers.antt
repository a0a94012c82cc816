-- `parse_members` meets its contract: behind the word stands a number, or the text does not begin with the word.
use mathlib.Core.Path.{sym, ap, ◌∙◌}
use Rattle.model.specs.Script.{members_word, number_of, first_of}
use Rattle.script.specs.Meaning.{held_number}
use Rattle.script.proofs.Reading.{starts_front}
use Rattle.script.proofs.parse_members.Goals as goal

pub returns-in_err-rest : goal.returns-in_err-rest
unfolding first_of
returns-in_err-rest c = c.from_residual.ensures ∙ rw (sym (starts_front members_word c.args.t.now) ∙ c.in_err-rest.ensures.cases)

pub returns : goal.returns
unfolding first_of
returns c =
    let h = c.in_ok-rest.ensures.cases in
    rw (sym (starts_front members_word c.args.t.now) ∙ h.0) (c.parse_number.ensures ∙ ap (λ l. held_number (number_of l)) h.1)
