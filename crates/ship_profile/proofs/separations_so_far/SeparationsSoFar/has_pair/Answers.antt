use Rattle.std.proofs.Common.{ap, ◌∙◌}
use Rattle.std.specs.List.{list_any}
use Rattle.ship_profile.specs.Separations.{is_same_pair}
use Rattle.ship_profile.proofs.separations_so_far.SeparationsSoFar.has_pair.Goals as goal

pub returns : goal.returns
returns c = c.contains.ensures ∙ rw (c.copy.ensures, c.copy-2.ensures) (c.self.invariant.same c.args.e.now) ∙ ap (list_any (λ d. is_same_pair d c.args.e.now)) c.self.view_is
