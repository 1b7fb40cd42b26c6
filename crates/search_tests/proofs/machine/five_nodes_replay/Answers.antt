use Rattle.search_core.proofs.Samples.{five_replayed}
use Rattle.search_tests.proofs.machine.five_nodes_replay.Goals as goal

pub returns : goal.returns
returns c = five_replayed
