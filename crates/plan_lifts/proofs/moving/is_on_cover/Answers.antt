use Rattle.std.proofs.Common.{refl, false, subst, sym, ◌∙◌}
use Rattle.std.proofs.lemmas.Bool.{both_ways}
use Rattle.std.proofs.lemmas.Option.{same_Some}
use Rattle.stow_data.specs.declared.geometry.Place.{Place}
use Rattle.stow_data.specs.Ship.{StandsOn}
use Rattle.plan_lifts.proofs.moving.is_on_cover.Goals as goal

pub returns-in-None : goal.returns-in-None
returns-in-None c = (λ h. absurd (both_ways false refl h), λ x. absurd (c.in-None.ensures.is x.cover (subst (λ (z : Place). StandsOn c.args.ship.now z.stack x.cover) (same_Some x.place c.place.result (sym x.is_place ∙ c.place.ensures)) x.on)))
