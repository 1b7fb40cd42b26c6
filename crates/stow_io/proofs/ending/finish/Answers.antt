use Rattle.std.proofs.Common.{Err}
use Rattle.stow_io.proofs.ending.finish.Goals as goal

pub returns-in-Failed-clause-finishes : goal.returns-in-Failed-clause-finishes
returns-in-Failed-clause-finishes g c = record {
  end = Err c.in-Err.stop;
  written = c.in-Err.ensures.written;
  ends = (c.in-Failed.is, c.in-Err.ensures.failed c.in-Failed.is, (c.at.result.now, c.at.ensures, rw c.as_str-name.ensures at c.say_name.ensures.printed));
}
