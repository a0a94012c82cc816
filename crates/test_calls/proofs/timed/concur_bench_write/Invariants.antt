-- The loop's invariant: each round leaves what the first writing left.
use Rattle.std.proofs.Common.{◌≡◌}
use Rattle.test_calls.proofs.timed.concur_bench_write.Given as goal

abbrev pub invariant-loop : goal.invariant-loop
invariant-loop l = l.out ≡ l.initial.out
