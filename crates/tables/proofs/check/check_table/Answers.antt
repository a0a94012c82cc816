-- `check_table` meets its contract: an empty table's n is 0, and the tests that passed show a table of n that is sound; the check finds the
-- other numbers.
use mathlib.Core.Bool.{true}
use mathlib.Core.Path.{◌≡◌, ◌∙◌, sym}
use borrow.Author.Tests.{eqb-true}
use Rattle.lists.specs.Functions.{inside}
use Rattle.lists.specs.Parts.{words}
use Rattle.lists.proofs.Functions.{both, inside_high}
use Rattle.laws.proofs.Tests.{allowed}
use Rattle.model.specs.Table.{sound_board}
use Rattle.tables.specs.Needs.{Table}
use Rattle.tables.proofs.Numbers.{empty_refused, whole_table}
use Rattle.tables.proofs.check.check_table.Goals as goal
use Rattle.tables.proofs.check.check_table.Goals.{Else-not-is_numbered, Else-table-table_size}

size : (c : Else-not-is_numbered) → inside 12 (words c.args.table.now 0) ≡ true
size c = allowed c.is_numbered.ensures c.if-not-is_numbered.false-raw

whole : (c : Else-table-table_size) → let l = c.args.table.now in Table (words l 0) l
whole c = whole_table _ (size (goal.at.Else-table-table_size c).Else-not-is_numbered) (c.if-table-table_size.false ∙ c.table_size.ensures.0)

pub returns-then-is_empty-clause-number_value : goal.returns-then-is_empty-clause-number_value
returns-then-is_empty-clause-number_value c = empty_refused _ (eqb-true _ 0 (sym c.is_empty.ensures ∙ c.if-is_empty.true))

pub table_size-requires : goal.table_size-requires
table_size-requires c = inside_high 12 _ (size c)

pub sound_blocks-requires : goal.sound_blocks-requires
sound_blocks-requires c = whole c

pub sound_host-requires : goal.sound_host-requires
sound_host-requires c = whole (goal.at.sound_host-requires c).Else-table-table_size

pub returns-clause-sound : goal.returns-clause-sound
unfolding sound_board
returns-clause-sound c = record {
  table = whole (goal.at.returns-clause-sound c).Else-table-table_size;
  sound =
      both (allowed c.sound_blocks.ensures c.if-not-sound_blocks.false-raw)
      (allowed c.sound_host.ensures c.if-not-sound_host.false-raw);
}
