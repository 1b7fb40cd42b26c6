use Rattle.shared_search.proofs.Tallies.{bag_by}
use Rattle.shared_search.proofs.racks.Rack.close.Goals as goal

pub returns-clause-bag : goal.returns-clause-bag
returns-clause-bag g c h = bag_by c.args.passes.items c.in_ok-passes.passes.items c.in_ok-rest.rest.items c.in_ok-passes.ensures.same c.in_ok-rest.ensures.bag h
