use Rattle.std.proofs.Common.{◌≡◌, take}
use Rattle.std.specs.Prelude.{flat_map}
use Rattle.stow_report.specs.Listings.{group_text}
use Rattle.stow_report.proofs.listings.listing.Given as goal

abbrev pub invariant-loop-group : goal.invariant-loop-group
invariant-loop-group l = l.out ≡ flat_map group_text (take l.group-index l.groups)
