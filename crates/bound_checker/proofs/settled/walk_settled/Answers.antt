use Rattle.bound_checker.proofs.Passing.{stays_at_root}
use Rattle.bound_checker.proofs.settled.walk_settled.Goals as goal

pub go_through-best-requires-clause-begins : goal.go_through-best-requires-clause-begins
go_through-best-requires-clause-begins c = stays_at_root c.args.model.now c.args.most c.args.tree.now c.in_ok-walk.walk c.requires.settled c.in_ok-walk.ensures
