-- The items of a list that is mostly short. No public clause cites this module.
use Rattle.std.specs.Prelude.{List, [], ◌∷◌}
use Rattle.certificate.specs.declared.few.Kept.{Kept}
use Rattle.certificate.specs.declared.few.Kept.TheVariants.{Nothing, One, Many}

module _ {T : Type 0} where
  abbrev pub items_of : Kept T → List T
  items_of Nothing = []
  items_of (One item) = item.value ∷ []
  items_of (Many items) = items.value.items
