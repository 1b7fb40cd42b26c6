use Rattle.bound_checker.proofs.Passing.{record_taken, none_refused}
use Rattle.bound_checker.proofs.settled.take_at.Goals as goal

pub returns-clause-best : goal.returns-clause-best
returns-clause-best c = λ most stays.
    record_taken c.args.model.now most c.args.tree.now c.args.at.place c.args.at.best c.args.walk.now stays c.index-tree-at.result c.requires.place c.index-tree-at.is c.take.new.self c.take.result c.take.ensures

pub returns-clause-refused : goal.returns-clause-refused
returns-clause-refused c = λ most stays.
    none_refused c.args.model.now most c.args.tree.now c.args.at.place c.args.at.best c.args.walk.now stays c.index-tree-at.result c.requires.place c.index-tree-at.is c.take.new.self c.take.result c.take.ensures
