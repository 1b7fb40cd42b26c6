use Rattle.zero_one_rows.proofs.EachOnce.{each_once}
use Rattle.zero_one_rows.proofs.all_chains.Chains.over.Goals as goal

pub returns : goal.returns
returns c = each_once c.args.calls
