-- What handling a node tells a seat.
use Rattle.std.proofs.Common.{◌≡◌, ap}
use Rattle.shared_search.specs.declared.view.View.{View}
use Rattle.node_solver.specs.declared.worked.Worked.{Worked}
use Rattle.node_solver.specs.declared.worked.Worked.TheVariants.{Closed, Branched, Full, NoMemory}
use Rattle.steal_pool.specs.UnderWay.{Tells}

pub tells_tickets : (w : Worked) (v u : View) → Tells w v u → u.tickets ≡ v.tickets
tells_tickets (Closed r) v u is = ap (λ (x : View). x.tickets) is
tells_tickets (Branched r) v u is = ap (λ (x : View). x.tickets) is
tells_tickets (Full r b cost) v u is = ap (λ (x : View). x.tickets) is.2
tells_tickets NoMemory v u is = ap (λ (x : View). x.tickets) is
