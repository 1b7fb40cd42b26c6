use Rattle.std.proofs.Common.{◌∙◌, ap, sym, Some}
use Rattle.std.proofs.lemmas.Option.{slice_get-get_or}
use Rattle.stow_data.specs.declared.geometry.Place.{Place}
use Rattle.stow_data.specs.Ship.{places}
use Rattle.stow_data.specs.Plans.{no_place}
use Rattle.stow_data.proofs.Made.{stack_in}
use Rattle.zero_one_rows.proofs.row_tests.are_near.Goals as goal

pub is_near-requires-clause-first : goal.is_near-requires-clause-first
is_near-requires-clause-first g c = stack_in c.args.ship.now c.args.p c.place_at.result (slice_get-get_or (places c.args.ship.now) c.args.p no_place c.requires.1.0 ∙ ap (λ (z : Place). Some z) (sym c.place_at.ensures))

pub is_near-requires-clause-second : goal.is_near-requires-clause-second
is_near-requires-clause-second g c = stack_in c.args.ship.now c.args.q c.place_at-2.result (slice_get-get_or (places c.args.ship.now) c.args.q no_place c.requires.1.1 ∙ ap (λ (z : Place). Some z) (sym c.place_at-2.ensures))
