use Rattle.std.proofs.Common.{rules, map, ap, ◌∙◌, arith}
use Rattle.event_search.specs.Cores.{node_at}
use Rattle.event_search.proofs.Ways
use Rattle.event_search.proofs.event_nodes.paths_of.Goals as goal

pub loop-k-preserved : goal.loop-k-preserved
loop-k-preserved c = λ m.
    Ways.one_more (λ n. (node_at m c.args.ended.now n).path) c.loop-k.paths c.push.new.self c.args.nodes.now c.loop-k.k c.in_ok-path_of.field-0 c.item_at-node.result
    (search rules) c.loop-k-test.true (Ways.there c.args.nodes.now c.loop-k.k c.item_at-node.result c.item_at-node.ensures) (c.in_ok-path_of.ensures m) (c.loop-k.invariant m)

pub returns : goal.returns
returns c = λ m. c.loop-k.invariant m ∙ ap (map (λ n. (node_at m c.args.ended.now n).path)) (Ways.taken c.args.nodes.now c.loop-k.k (omega (arith, c.loop-k-test.false)))
