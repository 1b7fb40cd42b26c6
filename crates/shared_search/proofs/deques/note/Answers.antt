use Rattle.shared_search.proofs.Keeps.{notes}
use Rattle.shared_search.proofs.deques.note.Goals as goal

pub another-requires : goal.another-requires
another-requires g c = notes _ _ _
