use Rattle.baplie.proofs.ReadBack.{read_is_whole}
use Rattle.baplie.proofs.read_back.read_is_whole.Goals as goal

pub returns : goal.returns
returns c = read_is_whole
