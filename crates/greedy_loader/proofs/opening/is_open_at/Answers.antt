use Rattle.std.proofs.Common.{arith, false, refl}
use Rattle.std.proofs.lemmas.Bool.{both_ways}
use Rattle.std.proofs.lemmas.Option.{slice_get_within}
use Rattle.stow_data.specs.Ship.{places}
use Rattle.stow_data.proofs.Made.{stack_in}
use Rattle.greedy_loader.proofs.Parts.{fits_place}
use Rattle.greedy_loader.proofs.opening.is_open_at.Goals as goal

pub is_within-requires-clause-inside : goal.is_within-requires-clause-inside
is_within-requires-clause-inside c = stack_in c.args.ship.now c.args.p c.args.place.now c.requires.at

pub is_apart-requires-clause-inside : goal.is_apart-requires-clause-inside
is_apart-requires-clause-inside c = stack_in c.args.ship.now c.args.p c.args.place.now c.requires.at

pub returns-then-is_barred : goal.returns-then-is_barred
returns-then-is_barred c = (λ h. absurd (both_ways false refl h), λ x. absurd (c.is_barred.ensures c.if-is_barred.true c.args.x.now x))

pub fits-requires : goal.fits-requires
fits-requires c = slice_get_within (places c.args.ship.now) c.args.p c.args.place.now c.requires.at

pub is_empty-requires-clause-inside : goal.is_empty-requires-clause-inside
is_empty-requires-clause-inside c = let l = slice_get_within (places c.args.ship.now) c.args.p c.args.place.now c.requires.at in omega (arith, l)

pub is_borne-requires-clause-inside : goal.is_borne-requires-clause-inside
is_borne-requires-clause-inside c = let l = slice_get_within (places c.args.ship.now) c.args.p c.args.place.now c.requires.at in omega (arith, l)

pub returns : goal.returns
returns c = (
  λ h. record {
    fits = fits_place c.args.ship.now c.args.p c.args.place.now c.args.x.now c.requires.at (c.fits.ensures.0 c.if-not-fits.false);
    empty = c.is_empty.ensures.0 c.if-not-is_empty.false;
    borne = c.is_borne.ensures.0 c.if-not-is_borne.false;
    within = c.is_within.ensures.0 c.if-not-is_within.false;
    apart = c.is_apart.ensures.0 h;
    uncovered = c.is_uncovered.ensures.0 c.if-not-is_uncovered.false;
  },
  λ x. c.is_apart.ensures.1 x.apart,
)
