-- What the steps on bytes ask.
use Rattle.std.specs.Prelude.{◌<◌}
use Rattle.records.specs.declared.Record.{Record}

-- "A record's member, slot and type are a byte each"
abbrev pub InBytes : Record → Type 0
InBytes r = (r.member < 256) × ((r.slot < 256) × (r.operation < 256))
