use Rattle.greedy_loader.proofs.OneVoyage.{one_voyage}
use Rattle.greedy_loader.proofs.law.one_voyage.Goals as goal

pub returns : goal.returns
returns c = one_voyage
