use Rattle.std.proofs.Common.{◌≡◌, ◌∙◌, ap, subst}
use Rattle.stow_data.specs.Profile.{IsShip}
use Rattle.zero_one_rows.specs.Variables.{Voyage, all_kinds}
use Rattle.zero_one_rows.proofs.Sizes.{in_range}
use Rattle.zero_one_model.proofs.Sized.{halves_low}
use Rattle.zero_one_model.proofs.model.Model.coefficient_of.Goals as goal

pub coefficient-requires : goal.coefficient-requires
coefficient-requires g c =
    let ship : c.self.inside.ship.now ≡ g.m.ship = ap (λ (v : Voyage). v.ship) (c.self.view_is ∙ c.requires.0) in (
      ship,
      (
        c.self.invariant.kinds.list ∙ ap all_kinds (c.self.view_is ∙ c.requires.0),
        (
          in_range g.m c.args.r.now (subst IsShip ship c.obeys_rules.ensures) c.requires.1.0,
          (
            c.requires.1.1.0,
            (
              c.requires.1.1.1,
              (halves_low g.m (subst IsShip ship c.obeys_rules.ensures)),
            ),
          ),
        ),
      ),
    )
