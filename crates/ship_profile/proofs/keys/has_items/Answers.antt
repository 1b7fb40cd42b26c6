use Rattle.std.proofs.Common.{ap, length, ◌∙◌}
use Rattle.std.specs.Prelude.{not, ◌==◌}
use Rattle.toml.proofs.Views.{has_items-view}
use Rattle.ship_profile.proofs.keys.has_items.Goals as goal

pub returns : goal.returns
returns c = rw has_items-view (ap not (c.is_empty.ensures ∙ ap (λ xs. length xs == 0) c.as_slice.ensures.value))
