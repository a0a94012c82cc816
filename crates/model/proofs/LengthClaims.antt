-- The lengths of messages are the published ones: the sums by arithmetic, the table by computing all of it.
use mathlib.Core.Path.{refl}
use native.Mathlib.Omega.{arith}
use Rattle.lists.specs.Parts.{tabulate}
use Rattle.model.specs.Messages.{record_length, length_of}
use Rattle.model.specs.LengthClaims.{published_lengths, LengthsAsPublished}

pub lengths_as_published : LengthsAsPublished
unfolding record_length length_of published_lengths tabulate
lengths_as_published = record {
  submit = λ n. refl;
  reply = λ n. omega arith;
  commit = λ n. omega arith;
  outcome = λ n. refl;
  table = refl;
}
