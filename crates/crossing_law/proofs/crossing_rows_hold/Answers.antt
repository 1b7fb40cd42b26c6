use Rattle.crossing_law.proofs.Crossed.{every_cross}
use Rattle.crossing_law.proofs.crossing_rows_hold.Goals as goal

pub returns : goal.returns
returns c = every_cross
