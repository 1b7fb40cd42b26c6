use Rattle.std.proofs.Common.{arith, below_more}
use Rattle.std.proofs.lemmas.Option.{slice_get_within}
use Rattle.stow_data.specs.Ship.{places}
use Rattle.stowage_rules.proofs.separation.first_near.Goals as goal

pub loop-p-preserved : goal.loop-p-preserved
loop-p-preserved c = below_more _ _ c.loop-p.invariant c.in_default.ensures

pub returns : goal.returns
returns c = λ p q x. c.loop-p.invariant p (omega (arith, slice_get_within (places c.args.ship.now) p x.first x.is_first)) q x
