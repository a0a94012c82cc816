-- What the programs read, as the code holds it.
use Rattle.std.specs.Prelude.{◌≡◌, Option as Code}
use Rattle.std.proofs.Math.Option.{Option}
use Rattle.model.specs.Overtaker.{Asked}
use Rattle.overtaker.specs.Meaning.{held_asked}
use Rattle.overtaker.specs.declared.Asked.{Asked as AskedStruct}

-- two numbers or none, so that what is answered of any such holds of it
pub record Held (asked : Code AskedStruct) : Type 0 where
  pub operation : Option Asked
  pub is : asked ≡ held_asked operation
