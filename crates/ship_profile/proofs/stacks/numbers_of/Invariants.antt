use Rattle.std.proofs.Common.{◌≡◌, drop}
use Rattle.toml.specs.View.{items_view}
use Rattle.toml_values.specs.Values.{number_of}
use Rattle.toml_values.specs.Arrays.{each_after, each_of}
use Rattle.ship_profile.proofs.stacks.numbers_of.Given as goal

abbrev pub invariant-loop-item : goal.invariant-loop-item
invariant-loop-item l = each_after (λ _. number_of 2 98) l.numbers (items_view (drop l.item-index l.items.items)) ≡ each_of (number_of 2 98) (items_view l.items.items)
