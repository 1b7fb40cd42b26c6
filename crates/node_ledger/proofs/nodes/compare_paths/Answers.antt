use Rattle.std.proofs.Common.{rules}
use Rattle.node_ledger.proofs.Parting.{by_parting}
use Rattle.node_ledger.proofs.nodes.compare_paths.Goals as goal

pub returns : goal.returns
returns c = search (rules, by_parting c.args.a.now c.args.b.now)
