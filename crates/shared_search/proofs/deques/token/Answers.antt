use Rattle.shared_search.proofs.Keeps.{forks}
use Rattle.shared_search.proofs.deques.token.Goals as goal

pub another-requires : goal.another-requires
another-requires g c = forks _ _ _ c.requires
