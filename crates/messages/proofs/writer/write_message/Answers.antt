-- `write_message` meets its contract: the message that is handed over, by its kind, and what number 0 says of it.
use Prim.Native.Nat.{ℕ}
use mathlib.Core.Path.{◌≡◌, sym, ap, ◌∙◌}
use mathlib.Core.List.{List}
use mathlib.Core.Option.{none}
use mathlib.Core.Bool.{cond}
use native.Mathlib.Omega.{arith}
use lib.Dec.{eqb}
use Rattle.lists.proofs.Functions.{first, second, inside_high}
use Rattle.model.specs.Halves.{fit_record}
use Rattle.model.specs.Messages.{length_of, record_length, fit_message, writable, written_to}
use Rattle.laws.proofs.Messages.{fit_small, submit_parts, outcome_parts}
use Rattle.records.specs.Meaning.{record_in}
use Rattle.message_numbers.specs.Kinds.{kind_number}
use Rattle.message_numbers.specs.declared.kind.MessageKind.{MessageKind}
use Rattle.message_numbers.specs.declared.kind.MessageKind.TheVariants.{Submit, Reply, Commit, Outcome}
use Rattle.messages.specs.Meaning.{Fields, fields_in, message_of, number_written, output_after}
use Rattle.messages.proofs.Laws.{Taken, taken, given_submit, given_reply, given_commit, given_outcome, fronted_same}
use Rattle.messages.proofs.writer.write_message.Goals as goal
use Rattle.messages.proofs.writer.write_message.Goals.{Start}

-- What number 0 says of the message, and its kind.

abbrev fields : Start → Fields
fields s = fields_in s.args.message

-- no number refuses it
abbrev Unrefused : Start → Type 0
Unrefused s = 0 ≡ number_written s.args.n (fields s) s.args.t.now

handed : (s : Start) → Unrefused s → Taken s.args.n (fields s) s.args.t.now
handed s z = taken s.args.n (fields s) s.args.t.now (sym z)

is : (s : Start) (kind : MessageKind) → s.args.kind ≡ kind → (fields s).kind ≡ kind_number kind
is s kind e = sym s.requires.1.1 ∙ ap kind_number e

-- what is due is what the output is after it
due : (s : Start) (t : List ℕ) → Unrefused s → t ≡ written_to s.args.n (message_of (fields s)) s.args.t.now
    → t ≡ output_after s.args.n (fields s) s.args.t.now
unfolding writable
due s t z e = e ∙ ap (λ k. written_to s.args.n (cond (eqb k 0) (message_of (fields s)) none) s.args.t.now) z

-- The goals.

pub write_submit-requires : goal.write_submit-requires
unfolding fit_message length_of
write_submit-requires c =
    let s = (goal.at.write_submit-requires c).Start in
    let k = is s Submit c.in-Submit.is in
    let h = handed s c.in_ok-length-in-Submit.ensures.number_value in
    (h.room 1 k, fit_small c.args.n _ _ _ h.high (h.fit _ (given_submit (fields s) k)))

pub returns-in_ok-length-in-Submit-clause-out_after : goal.returns-in_ok-length-in-Submit-clause-out_after
returns-in_ok-length-in-Submit-clause-out_after c =
    let s = (goal.at.returns-in_ok-length-in-Submit-clause-out_after c).Start in
    let z = c.in_ok-length-in-Submit.ensures.number_value in
    let m = c.args.message in
    let t = c.write_submit.new.t in
    due s t z ((handed s z).written _ t (given_submit (fields s) (is s Submit c.in-Submit.is)) c.write_submit.auto.t
    (fronted_same c.args.t.now t (sym (submit_parts c.args.n m.member m.slot m.operation m.count)) c.write_submit.ensures))

pub write_reply-requires : goal.write_reply-requires
unfolding fit_message fit_record record_in length_of record_length
write_reply-requires c =
    let s = (goal.at.write_reply-requires c).Start in
    let k = is s Reply c.in-Reply.is in
    let h = handed s c.in_ok-length-in-Reply.ensures.number_value in
    let a = record_in c.args.message.newest in
    let b = record_in c.args.message.stored in
    let both = h.fit _ (given_reply (fields s) k) in
    let newest = fit_small c.args.n _ _ _ h.high (first (fit_record c.args.n a) (fit_record c.args.n b) both) in
    let stored = fit_small c.args.n _ _ _ h.high (second (fit_record c.args.n a) (fit_record c.args.n b) both) in
    (h.low, (h.high, (omega (arith, h.room 2 k), (newest, stored))))

pub returns-in_ok-length-in-Reply-clause-out_after : goal.returns-in_ok-length-in-Reply-clause-out_after
returns-in_ok-length-in-Reply-clause-out_after c =
    let s = (goal.at.returns-in_ok-length-in-Reply-clause-out_after c).Start in
    let z = c.in_ok-length-in-Reply.ensures.number_value in
    let t = c.write_reply.new.t in
    due s t z
    ((handed s z).written _ t (given_reply (fields s) (is s Reply c.in-Reply.is)) c.write_reply.auto.t c.write_reply.ensures)

pub write_commit-requires : goal.write_commit-requires
unfolding fit_message fit_record record_in length_of record_length
write_commit-requires c =
    let s = (goal.at.write_commit-requires c).Start in
    let k = is s Commit c.in-Commit.is in
    let h = handed s c.in_ok-length-in-Commit.ensures.number_value in
    (h.low, (h.high, (omega (arith, h.room 3 k), fit_small c.args.n _ _ _ h.high (h.fit _ (given_commit (fields s) k)))))

pub returns-in_ok-length-in-Commit-clause-out_after : goal.returns-in_ok-length-in-Commit-clause-out_after
returns-in_ok-length-in-Commit-clause-out_after c =
    let s = (goal.at.returns-in_ok-length-in-Commit-clause-out_after c).Start in
    let z = c.in_ok-length-in-Commit.ensures.number_value in
    let t = c.write_commit.new.t in
    due s t z
    ((handed s z).written _ t (given_commit (fields s) (is s Commit c.in-Commit.is)) c.write_commit.auto.t c.write_commit.ensures)

pub write_outcome-requires : goal.write_outcome-requires
unfolding fit_message length_of
write_outcome-requires c =
    let s = (goal.at.write_outcome-requires c).Start in
    let k = is s Outcome c.in-Outcome.is in
    let h = handed s c.in_ok-length-in-Outcome.ensures.number_value in
    let small = inside_high 2 c.args.message.outcome (h.fit _ (given_outcome (fields s) k)) in
    (h.room 4 k, omega arith)

pub returns-in_ok-length-in-Outcome-clause-out_after : goal.returns-in_ok-length-in-Outcome-clause-out_after
returns-in_ok-length-in-Outcome-clause-out_after c =
    let s = (goal.at.returns-in_ok-length-in-Outcome-clause-out_after c).Start in
    let z = c.in_ok-length-in-Outcome.ensures.number_value in
    let t = c.write_outcome.new.t in
    due s t z ((handed s z).written _ t (given_outcome (fields s) (is s Outcome c.in-Outcome.is)) c.write_outcome.auto.t
    (fronted_same c.args.t.now t (sym (outcome_parts c.args.n c.args.message.outcome)) c.write_outcome.ensures))
