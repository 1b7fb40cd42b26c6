use Rattle.bound_checker.proofs.Blanks.{all_kept}
use Rattle.bound_checker.proofs.blank.Blank.keep.Goals as goal

pub returns : goal.returns
returns c = λ m b blank clean. record { here = blank.here; zero = blank.zero; clean = all_kept m _ c.args.self.now.spare.items _ c.args.costs c.push.ensures.items blank.clean clean }
