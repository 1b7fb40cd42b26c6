use Rattle.certificate.specs.Entries.{entry_of}
use Rattle.bound_checker.proofs.Walks.{taken}
use Rattle.bound_checker.proofs.walk.Walk.take.Goals as goal

pub returns : goal.returns
returns c = λ qs at. taken c.args.model.now c.args.bounds c.args.node c.args.self.now c.open.new.self _ qs (entry_of c.args.model.now c.args.entry.now) c.end.result c.if-self.false at c.in_ok-open.ensures c.end.ensures
