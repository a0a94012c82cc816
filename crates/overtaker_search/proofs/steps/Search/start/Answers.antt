-- `start` meets its contract: twelve zeros are no slots.
use Rattle.std.proofs.Common.{ℕ}
use Rattle.lists.proofs.Functions.{numbered_blank}
use Rattle.lists.proofs.Parts.{words_zeros}
use Rattle.overtaker_search.specs.Search.{search_start}
use Rattle.overtaker_search.proofs.steps.Search.start.Goals as goal

pub returns : goal.returns
unfolding search_start
returns c = rw (c.number.ensures, words_zeros 12, numbered_blank {A = ℕ} 12 0)
