use Rattle.std.proofs.Common.{arith}
use Rattle.search_core.proofs.Workers.{loads_by}
use Rattle.search_core.proofs.seats.Seats.load.Goals as goal

pub returns-clause-done : goal.returns-clause-done
returns-clause-done g c =
    loads_by c.args.self.now.state c.self.inside.seats.items (grind arith) c.args.worker (grind arith) _ c.index_mut.result.now c.see.new.self (grind arith) (grind arith) (grind arith)
