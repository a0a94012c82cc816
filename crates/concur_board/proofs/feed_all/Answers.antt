-- `feed_all` meets its contract: the state is that of the bytes fed so far, until all are fed or what they print cannot be written.
use Rattle.std.proofs.Common.{◌≤◌, ◌<◌, ◌+◌, length}
use mathlib.Core.Path.{refl, ◌∙◌}
use native.Mathlib.Omega.{arith}
use Rattle.script.specs.Meaning.{longest_printed}
use Rattle.script_run.specs.Feeding.{fed}
use Rattle.script_run.specs.Meaning.{state_of}
use Rattle.script_run.proofs.States.{rest_long, fed_then, took_some}
use Rattle.concur_board.proofs.feed_all.Goals as goal

pub loop-from-init : goal.loop-from-init
unfolding fed
loop-from-init g c =
    record { first = c.requires.0; within = omega arith; ready = c.requires.0; state = refl; same = refl; room = c.requires.1 }

pub loop-from-smaller : goal.loop-from-smaller
loop-from-smaller g c =
    let i = c.loop-from.invariant in
    let f = c.feed-fed in
    let more = c.loop-from-test.true in
    let left = rest_long c.args.bytes.now c.loop-from.from i.within in
    let room : longest_printed ≤ length f.new.out = omega (arith, i.room, f.auto.out) in
    let some : 0 < f.result.taken = took_some f.ensures.fed_into f.ensures.out_len_bound room (omega arith) in
    omega (arith, f.ensures.fed_into.within, left)

pub loop-from-preserved : goal.loop-from-preserved
loop-from-preserved g c =
    let i = c.loop-from.invariant in
    let f = c.feed-fed in
    let a = c.args in
    let within : c.loop-from.from + f.result.taken ≤ length a.bytes.now =
    omega (arith, f.ensures.fed_into.within, rest_long a.bytes.now c.loop-from.from i.within, i.within) in
    let all = fed_then (state_of a.p a.table.now a.kept.now) a.bytes.now c.loop-from.from f.result.taken
    (state_of c.loop-from.progress c.loop-from.table c.loop-from.kept) within i.state in
    record {
      first = i.first;
      within = within;
      ready = f.ensures.fed_into.ready;
      state = rw all f.ensures.fed_into.state;
      same = f.auto.out ∙ i.same;
      room = omega (arith, i.room, f.auto.out);
    }
