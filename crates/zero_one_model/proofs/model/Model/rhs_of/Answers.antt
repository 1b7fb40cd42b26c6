use Rattle.std.proofs.Common.{◌≡◌, ◌∙◌, ap, subst}
use Rattle.stow_data.specs.Profile.{IsShip}
use Rattle.stow_data.specs.Kinds.{AreKinds}
use Rattle.zero_one_rows.specs.Variables.{Voyage}
use Rattle.zero_one_rows.proofs.Sizes.{in_range}
use Rattle.zero_one_model.proofs.model.Model.rhs_of.Goals as goal

pub right_side-requires : goal.right_side-requires
right_side-requires g c =
    let ship : c.self.inside.ship.now ≡ g.m.ship = ap (λ (v : Voyage). v.ship) (c.self.view_is ∙ c.requires.0) in
    let cargo : c.self.inside.cargo.now ≡ g.m.cargo = ap (λ (v : Voyage). v.cargo) (c.self.view_is ∙ c.requires.0) in (
      ship,
      (
        cargo,
        (
          subst (λ (v : Voyage). AreKinds v.ship.weight_step v.cargo.containers c.self.inside.kinds) (c.self.view_is ∙ c.requires.0) c.self.invariant.kinds,
          in_range g.m c.args.r.now (subst IsShip ship c.obeys_rules.ensures) c.requires.1,
        ),
      ),
    )
