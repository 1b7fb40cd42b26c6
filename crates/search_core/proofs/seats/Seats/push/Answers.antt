use Rattle.std.proofs.Common.{arith}
use Rattle.search_core.proofs.Workers.{pushes_by}
use Rattle.search_core.proofs.seats.Seats.push.Goals as goal

pub returns-clause-done : goal.returns-clause-done
returns-clause-done g c =
    pushes_by c.args.self.now.state c.self.inside.seats.items (grind arith) c.args.worker (grind arith) _ c.index_mut.result.now c.push.new.self (grind arith) c.push.ensures.worker (grind arith)
