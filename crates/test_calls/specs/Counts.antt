-- What the reader's call answers: the counts of a message's two records, added up in 32 bits.
use Rattle.std.specs.Prelude.{ℕ, ◌+◌, ◌%◌, ◌^◌}
use Rattle.messages.specs.Meaning.{Fields}

unfoldable pub both_counts : Fields → ℕ
both_counts f = (f.newest.count + f.stored.count) % 2 ^ 32
