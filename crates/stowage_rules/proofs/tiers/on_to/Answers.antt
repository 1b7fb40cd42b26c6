use Rattle.std.proofs.Common.{arith, length, ◌<◌}
use Rattle.std.proofs.lemmas.Option.{slice_get_within}
use Rattle.stow_data.specs.Ship.{places}
use Rattle.std.proofs.lemmas.Bool.{both_ways}
use Rattle.stowage_rules.proofs.Rising.{up_to, first_at, first_past}
use Rattle.stowage_rules.proofs.tiers.on_to.Goals as goal

pub loop-p-preserved : goal.loop-p-preserved
loop-p-preserved c = up_to c.args.ship.now c.loop-p.p c.args.stack c.args.tier c.place.result c.place.ensures (c.is_before.ensures.0 c.if-not-is_before.false)

pub returns-then-not-is_before-clause-first : goal.returns-then-not-is_before-clause-first
returns-then-not-is_before-clause-first c = first_at c.args.ship.now c.loop-p.p c.args.stack c.args.tier c.place.result c.loop-p.invariant c.place.ensures (λ x. both_ways c.is_before.result c.if-not-is_before.true (c.is_before.ensures.1 x))

pub returns-clause-first : goal.returns-clause-first
returns-clause-first c = first_past c.args.ship.now c.places.result c.args.stack c.args.tier (λ p place l at. c.loop-p.invariant p place (let i : p < length (places c.args.ship.now) = slice_get_within (places c.args.ship.now) p place at in omega arith) at) (omega arith)
