use Rattle.search_parts.proofs.Divided.{descended}
use Rattle.search_parts.proofs.nodes.descend.Goals as goal

pub returns : goal.returns
returns c = λ m most cut here ends. descended m c.args.node.now c.args.entry most cut c.push_shared.new.trail c.push.new.self c.push.result c.in_ok-push_shared.ensures c.push.ensures here ends
