use Rattle.std.proofs.Common.{refl, subst}
use Rattle.zero_one_rows.specs.Variables.{Voyage}
use Rattle.steal_pool.proofs.Steps.{if_ok}
use Rattle.parallel_search.specs.Ends.{IsWorkerEnd}
use Rattle.parallel_search.proofs.Ends.{starts}
use Rattle.parallel_search.proofs.threading.take_turns.Goals as goal

pub serve_on-requires-clause-job : goal.serve_on-requires-clause-job
serve_on-requires-clause-job g c κs within = starts g.M.Wanted.meets c.args.shared.now.rack c.args.shared.now.board c.args.shared.now.spare c.args.worker_start _ c.requires c.requires.solver refl refl refl c.none.ensures

pub returns : goal.returns
returns g c = if_ok c.serve_on.result _ _
    (λ worker_end h. record { worker_end = subst (λ (m : Voyage). IsWorkerEnd g.M.Wanted.meets c.args.shared.now.board m worker_end) c.requires.solver h.0; pass = h.1; number = h.2; board = h.3; own = h.4 }) c.serve_on.ensures
