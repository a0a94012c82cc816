-- `well_formed` meets its contract: each line is read, or one is not.
use Rattle.std.proofs.Common.{rules, refl, true, false}
use borrow.Author.Tests.{tests}
use Rattle.std.proofs.lemmas.Iterator.{cases_from_all}
use Rattle.std.proofs.lemmas.Iterator.Consumers.{YieldsList-from_first}
use Rattle.model.specs.Script.{line_of}
use Rattle.overtaker.specs.Lines.{lines_left}
use Rattle.overtaker.proofs.NextLine.{Makes, read_call, formed_so}
use Rattle.overtaker.proofs.lines.well_formed.Goals as goal

pub returns : goal.returns
returns c =
    let lines = lines_left c.args.lines in
    formed_so lines c.all.result (cases_from_all c.all.new.self _ _ (Makes true) (Makes false) c.all.ensures.ran
    (YieldsList-from_first (λ x. x.now) lines_left lines refl)
    (λ x q k. let e = read_call (line_of x.now) in search (rules, tests))
    (λ x q k. let e = read_call (line_of x.now) in search (rules, tests)))
