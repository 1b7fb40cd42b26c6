use Rattle.parallel_search.proofs.Ends.{comes_back}
use Rattle.parallel_search.proofs.threading.serve_on.Goals as goal

pub returns : goal.returns
returns g c = comes_back g.M.Wanted.meets c.args.shared.now.rack c.args.shared.now.board c.args.job c.in_ok-served.served c.worker_end_of.result c.in_ok-served.ensures c.worker_end_of.ensures.pass c.worker_end_of.ensures.seat c.worker_end_of.ensures.deeds c.worker_end_of.ensures.aside
