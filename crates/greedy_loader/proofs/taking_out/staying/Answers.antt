use Rattle.std.proofs.Common.{length, sym, ◌∙◌, arith}
use Rattle.stow_data.specs.Ship.{places}
use Rattle.greedy_loader.proofs.Taken.{all_held, starts_held}
use Rattle.greedy_loader.proofs.taking_out.staying.Goals as goal

pub loop-p-init : goal.loop-p-init
loop-p-init c = record {
  kept = c.in_ok-layout.ensures.kept;
  holds = starts_held c.args.before.now c.in_ok-layout.layout.plan c.args.set.now (length (places c.args.ship.now)) c.requires.formed.each_place c.in_ok-layout.ensures.plan;
}

pub returns-clause-plan : goal.returns-clause-plan
returns-clause-plan c = all_held c.args.before.now c.loop-p.layout.plan c.args.set.now c.loop-p.p (omega (arith, c.requires.formed.each_place)) (c.requires.each_flag ∙ sym c.requires.formed.each_place) c.loop-p.invariant.holds
