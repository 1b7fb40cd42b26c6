use Rattle.std.proofs.Common.{◌≡◌, ◌<◌, length, ℕ, true, arith}
use Rattle.plan_lifts.specs.Spread.{has}
use Rattle.plan_lifts.proofs.Spreads.{picked_none, picked_all}
use Rattle.plan_lifts.proofs.LiftsHold.{has_inside}
use Rattle.plan_lifts.proofs.moving.add_all.Goals as goal

pub loop-p-init : goal.loop-p-init
loop-p-init c = record { picked = picked_none (has c.args.set.now) (λ (p : ℕ). has c.args.other.now p ≡ true); each_flag = c.requires.second }

pub returns-clause-adds : goal.returns-clause-adds
returns-clause-adds c = picked_all (has c.args.set.now) (λ (p : ℕ). has c.args.other.now p ≡ true) (has c.loop-p.set) c.loop-p.p (λ p x. let l : p < length c.args.other.now = has_inside c.args.other.now p x in omega (arith, l, c.requires.first)) c.loop-p.invariant.picked
