use Rattle.std.proofs.Common.{◌<◌, arith, length, rules}
use Rattle.std.specs.Prelude.{Some}
use Rattle.std.proofs.lemmas.Option.{slice_get_within}
use Rattle.stow_data.specs.Ship.{places}
use Rattle.plan_lifts.specs.Spread.{has, IsHeldIn}
use Rattle.plan_lifts.proofs.Picked.{told}
use Rattle.plan_lifts.proofs.lifting.held_of.Goals as goal

pub returns-clause-filled : goal.returns-clause-filled
returns-clause-filled c = told c.places_where.result (length (places c.args.ship.now)) (IsHeldIn c.args.plan.now (has c.args.set.now)) _ c.places_where.ensures.answers c.places_where.ensures.each_flag (λ set answers p l. let answer = answers p l in search rules) (λ p x. let l : p < length c.args.plan.now = slice_get_within c.args.plan.now p (Some x.container) x.holds in omega (arith, l, c.requires.each_place))
