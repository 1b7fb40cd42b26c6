use Rattle.std.proofs.Common.{length, rules}
use Rattle.std.proofs.lemmas.Option.{slice_get_within}
use Rattle.stow_data.specs.Ship.{places}
use Rattle.plan_lifts.specs.Passes.{IsOnCover}
use Rattle.plan_lifts.proofs.Picked.{told}
use Rattle.plan_lifts.proofs.moving.on_covers.Goals as goal

pub returns-clause-stand : goal.returns-clause-stand
returns-clause-stand c = told c.places_where.result (length (places c.args.ship.now)) (IsOnCover c.args.ship.now) _ c.places_where.ensures.answers c.places_where.ensures.each_flag (λ set answers p l. let answer = answers p l in search rules) (λ p x. slice_get_within (places c.args.ship.now) p x.place x.is_place)
