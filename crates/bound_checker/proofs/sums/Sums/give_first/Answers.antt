use Rattle.bound_checker.proofs.GivingBack.{sum_stays, still_to_come}
use Rattle.bound_checker.proofs.sums.Sums.give_first.Goals as goal

pub returns-clause-sum : goal.returns-clause-sum
returns-clause-sum c = sum_stays c.args.rest.now c.args.self.now.amounts c.take_first.new.self c.give_more.new.self.amounts c.in-Some.row c.in-Some.amount c.in-Some.ensures.was c.in-Some.ensures.rest c.in_ok-give_more.ensures.more

pub returns-clause-come : goal.returns-clause-come
returns-clause-come c = still_to_come c.args.rest.now c.args.self.now.amounts c.take_first.new.self c.give_more.new.self.amounts c.in-Some.row c.in-Some.amount c.in-Some.ensures.was c.in-Some.ensures.rest c.in_ok-give_more.ensures.more c.args.model.now c.requires.come
