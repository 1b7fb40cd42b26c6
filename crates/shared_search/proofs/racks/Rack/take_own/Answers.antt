use Rattle.shared_search.proofs.Keeps.{took_by, took_none}
use Rattle.shared_search.proofs.racks.Rack.take_own.Goals as goal

pub returns-clause-took : goal.returns-clause-took
returns-clause-took g c = took_by _ _ _ _ _ c.take.ensures.took

pub returns-clause-none : goal.returns-clause-none
returns-clause-none g c = took_none _ _ _ _ _ c.take.ensures.none
