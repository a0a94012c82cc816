-- `run` meets its contract: a script that has not begun, and nothing counted, is held at the start.
use mathlib.Core.Path.{refl}
use Rattle.bill.proofs.Lines.{start_going}
use Rattle.concur_bill.proofs.run.Goals as goal

pub loop-turns-init : goal.loop-turns-init
loop-turns-init g c =
    let a = c.args in
    let s = c.start in
    record {
      going = start_going s.result a.table.now a.kept.now s.ensures c.requires.0 c.requires.1.0;
      table-long = refl;
      kept-long = refl;
      input-long = refl;
      room = c.requires.1.1;
    }
