use Rattle.baplie.proofs.Defaults.{all_told}
use Rattle.baplie.proofs.law.nothing_left_out.Goals as goal

pub returns : goal.returns
returns c = all_told
