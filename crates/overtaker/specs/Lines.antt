-- What the code takes for the lines of a script.
use Rattle.std.specs.Prelude.{ℕ, List}
use Rattle.model.specs.Script.{lines_of}
use Rattle.overtaker.specs.declared.lines.Lines.{Lines}

-- the lines that are left
abbrev pub lines_left : Lines → List (List ℕ)
lines_left s = lines_of s.rest.now
