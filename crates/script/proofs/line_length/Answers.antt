-- `line_length` meets its contract: the line ends where the first line feed is found, or where the text ends.
use mathlib.Core.Path.{ap, ◌∙◌}
use lib.ListN.{length}
use Rattle.std.specs.Option.{unwrap_or}
use Rattle.model.specs.Script.{line_feed}
use Rattle.script.proofs.Lines.{found_end}
use Rattle.script.proofs.line_length.Goals as goal

pub returns : goal.returns
returns c =
    let t = c.args.t.now in
    c.unwrap_or.ensures ∙ ap (λ o. unwrap_or o (length t)) c.find.ensures ∙ found_end line_feed t
