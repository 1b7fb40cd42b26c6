use Rattle.std.proofs.Common.{[], refl, sym}
use Rattle.std.proofs.lemmas.Bool.{false≢true}
use Rattle.bound_checker.proofs.GivingBack.{all_to_come, given_back}
use Rattle.bound_checker.proofs.sums.Sums.give_back.Goals as goal

pub loop-more-init : goal.loop-more-init
loop-more-init c = record {
  carries = ([], c.requires.1);
  come = all_to_come c.args.model.now c.args.b.now c.args.amounts c.requires.0 c.args.self.now c.requires.1 c.requires.2 c.requires.3;
  sum = λ r. refl;
  none = λ e. absurd (false≢true (sym e));
}

pub returns : goal.returns
returns c = λ ms carries are small.
    let i = c.loop-more.invariant in
    given_back c.args.model.now c.args.b.now c.args.amounts ms c.args.self.now carries are small i.carries.0 c.loop-more.self c.loop-more.rest i.carries.1 (i.none c.loop-more-test.false) i.sum
