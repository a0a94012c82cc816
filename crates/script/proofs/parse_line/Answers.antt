-- `parse_line` meets its contract: the words are tried one after the other, and the numbers behind the first that fits are read.
use mathlib.Core.Path.{◌≡◌, sym, ap, ◌∙◌}
use mathlib.Core.Bool.{false}
use Rattle.model.specs.Script.{starts_with, write_word, read_word, deliver_word, crash_word}
use Rattle.model.specs.Script.{writes, reads, delivers, crashes, single, double, line_of}
use Rattle.script.specs.Meaning.{held_line}
use Rattle.script.proofs.Reading.{starts_front, no_number, a_number, no_pair, a_pair}
use Rattle.script.proofs.parse_line.Goals as goal
use Rattle.script.proofs.parse_line.Goals.{In-Some, In_default, In-Some-strip_prefix, In_default-strip_prefix}
use Rattle.script.proofs.parse_line.Goals.{In-Some-strip_prefix-2, In_default-strip_prefix-2, In_ok-rest}

-- What stands behind the word that the text begins with.

no_write : (c : In_default) → starts_with write_word c.args.t.now ≡ false
no_write c = sym (starts_front write_word c.args.t.now) ∙ c.in_default.ensures.cases

no_read : (c : In_default-strip_prefix) → starts_with read_word c.args.t.now ≡ false
no_read c = sym (starts_front read_word c.args.t.now) ∙ c.in_default-strip_prefix.ensures.cases

no_deliver : (c : In_default-strip_prefix-2) → starts_with deliver_word c.args.t.now ≡ false
no_deliver c = sym (starts_front deliver_word c.args.t.now) ∙ c.in_default-strip_prefix-2.ensures.cases

is_write : (c : In-Some) → line_of c.args.t.now ≡ double writes c.in-Some.rest.now
unfolding line_of
is_write c =
    let h = c.in-Some.ensures.cases in
    rw (sym (starts_front write_word c.args.t.now) ∙ h.0, h.1)

is_read : (c : In-Some-strip_prefix) → line_of c.args.t.now ≡ double reads c.in-Some-strip_prefix.rest.now
unfolding line_of
is_read c =
    let h = c.in-Some-strip_prefix.ensures.cases in
    rw (no_write (goal.at.In-Some-strip_prefix c).In_default, sym (starts_front read_word c.args.t.now) ∙ h.0, h.1)

is_deliver : (c : In-Some-strip_prefix-2) → line_of c.args.t.now ≡ single delivers c.in-Some-strip_prefix-2.rest.now
unfolding line_of
is_deliver c =
    let h = c.in-Some-strip_prefix-2.ensures.cases in
    rw (
      no_write (goal.at.In-Some-strip_prefix-2 c).In_default,
      no_read (goal.at.In-Some-strip_prefix-2 c).In_default-strip_prefix,
      sym (starts_front deliver_word c.args.t.now) ∙ h.0,
      h.1,
    )

is_crash : (c : In_ok-rest) → line_of c.args.t.now ≡ single crashes c.in_ok-rest.rest.now
unfolding line_of
is_crash c =
    let h = c.in_ok-rest.ensures.cases in
    rw (
      no_write (goal.at.In_ok-rest c).In_default,
      no_read (goal.at.In_ok-rest c).In_default-strip_prefix,
      no_deliver (goal.at.In_ok-rest c).In_default-strip_prefix-2,
      sym (starts_front crash_word c.args.t.now) ∙ h.0,
      h.1,
    )

-- The goals.

pub returns-in_err-member : goal.returns-in_err-member
returns-in_err-member c =
    c.from_residual.ensures
    ∙ ap held_line (sym (is_write (goal.at.returns-in_err-member c).In-Some ∙ no_pair writes _ _ c.in_err-member.ensures))

pub returns-in-Some : goal.returns-in-Some
returns-in-Some c =
    ap held_line (sym (is_write (goal.at.returns-in-Some c).In-Some ∙ a_pair writes _ _ _ _ c.in_ok-member.ensures))

pub returns-in_err-member-2 : goal.returns-in_err-member-2
returns-in_err-member-2 c =
    c.from_residual-in_err-member-2.ensures
    ∙ ap held_line (sym (is_read (goal.at.returns-in_err-member-2 c).In-Some-strip_prefix ∙ no_pair reads _ _ c.in_err-member-2.ensures))

pub returns-in-Some-strip_prefix : goal.returns-in-Some-strip_prefix
returns-in-Some-strip_prefix c =
    ap held_line
    (sym (is_read (goal.at.returns-in-Some-strip_prefix c).In-Some-strip_prefix ∙ a_pair reads _ _ _ _ c.in_ok-member-2.ensures))

pub returns-in_err-member-3 : goal.returns-in_err-member-3
returns-in_err-member-3 c =
    c.from_residual-in_err-member-3.ensures
    ∙ ap held_line
    (sym (is_deliver (goal.at.returns-in_err-member-3 c).In-Some-strip_prefix-2 ∙ no_number delivers _ c.in_err-member-3.ensures))

pub returns-in-Some-strip_prefix-2 : goal.returns-in-Some-strip_prefix-2
returns-in-Some-strip_prefix-2 c =
    ap held_line
    (sym (is_deliver (goal.at.returns-in-Some-strip_prefix-2 c).In-Some-strip_prefix-2 ∙ a_number delivers _ _ c.in_ok-member-3.ensures))

pub returns-in_err-rest : goal.returns-in_err-rest
unfolding line_of
returns-in_err-rest c =
    c.from_residual-in_err-rest.ensures
    ∙ rw (
      no_write (goal.at.returns-in_err-rest c).In_default,
      no_read (goal.at.returns-in_err-rest c).In_default-strip_prefix,
      no_deliver (goal.at.returns-in_err-rest c).In_default-strip_prefix-2,
      sym (starts_front crash_word c.args.t.now) ∙ c.in_err-rest.ensures.cases,
    )

pub returns-in_err-member-4 : goal.returns-in_err-member-4
returns-in_err-member-4 c =
    c.from_residual-in_err-member-4.ensures
    ∙ ap held_line (sym (is_crash (goal.at.returns-in_err-member-4 c).In_ok-rest ∙ no_number crashes _ c.in_err-member-4.ensures))

pub returns : goal.returns
returns c = ap held_line (sym (is_crash (goal.at.returns c).In_ok-rest ∙ a_number crashes _ _ c.in_ok-member-4.ensures))
