use Rattle.shared_search.proofs.Keeps.{puts}
use Rattle.shared_search.proofs.deques.put.Goals as goal

pub push_as-requires-clause-pushes : goal.push_as-requires-clause-pushes
push_as-requires-clause-pushes g c = puts _ _ _ _ c.requires.part c.requires.node
