use Rattle.shared_search.proofs.Keeps.{pops}
use Rattle.shared_search.proofs.deques.take.Goals as goal

pub pop_as-requires-clause-lifo : goal.pop_as-requires-clause-lifo
pop_as-requires-clause-lifo g c _ = pops _ _ _ c.requires.part
