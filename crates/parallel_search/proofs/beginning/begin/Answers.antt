use Rattle.std.proofs.Common.{rules}
use Rattle.parallel_search.proofs.Ends.{worker_started}
use Rattle.parallel_search.proofs.beginning.begin.Goals as goal

pub returns-in-Ok-clause-worker_start : goal.returns-in-Ok-clause-worker_start
returns-in-Ok-clause-worker_start g c = let v = c.split-seat.ensures.views in
    worker_started g.M.Wanted.meets c.args.shared.now.rack c.args.shared.now.board c.args.shared.now.spare c.args.owner.now c.args.pass _ _ v.0 c.requires.maker c.requires.pass.1 c.put_root.ensures.pass c.put_root.ensures.number c.split-seat.ensures.board.1 v.3 c.requires.solver
    c.in-Ok.ensures.aside (search rules) c.put_root.ensures.took c.in-Ok.ensures.bag c.in-Ok.ensures.within
