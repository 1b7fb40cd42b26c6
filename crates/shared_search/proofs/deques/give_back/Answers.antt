use Rattle.shared_search.proofs.Keeps.{merges}
use Rattle.shared_search.proofs.deques.give_back.Goals as goal

pub absorb-requires-clause-rule : goal.absorb-requires-clause-rule
absorb-requires-clause-rule g c = merges _ _ _ _ _ c.requires.part c.requires.more
