use Rattle.std.proofs.Common.{◌≡◌, drop}
use Rattle.toml.specs.View.{items_view}
use Rattle.ship_profile.specs.Stacks.{plug_of}
use Rattle.toml_values.specs.Arrays.{each_after, each_of}
use Rattle.ship_profile.proofs.stacks.plug_tiers.Given as goal

abbrev pub invariant-loop-item : goal.invariant-loop-item
invariant-loop-item l = each_after (λ _. plug_of l.tiers) l.plugs (items_view (drop l.item-index l.items.items)) ≡ each_of (plug_of l.tiers) (items_view l.items.items)
