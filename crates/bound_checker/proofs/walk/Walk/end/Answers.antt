use Rattle.bound_checker.proofs.Walks.{leaf_or_left}
use Rattle.bound_checker.proofs.walk.Walk.end.Goals as goal

pub returns-in-Leaf : goal.returns-in-Leaf
returns-in-Leaf c = λ q qs stands. leaf_or_left c.args.model.now c.args.bounds c.args.node q qs c.args.end.now c.close.result c.close.new.self c.in-Leaf.is (c.close.ensures q qs stands)
