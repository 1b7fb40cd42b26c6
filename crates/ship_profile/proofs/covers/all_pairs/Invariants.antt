use Rattle.std.proofs.Common.{◌≡◌, drop}
use Rattle.toml.specs.View.{items_view}
use Rattle.ship_profile.specs.Covers.{pair_of}
use Rattle.toml_values.specs.Arrays.{each_after, each_of}
use Rattle.ship_profile.proofs.covers.all_pairs.Given as goal

abbrev pub invariant-loop-item : goal.invariant-loop-item
invariant-loop-item l = each_after (λ _. pair_of) l.pairs (items_view (drop l.item-index l.items.items)) ≡ each_of pair_of (items_view l.items.items)
