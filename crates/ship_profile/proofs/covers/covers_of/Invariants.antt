use Rattle.std.proofs.Common.{◌≡◌, ◌<◌, ◌^◌}
use Rattle.ship_profile.specs.declared.faults.ProfileKey.TheVariants as key
use Rattle.ship_profile.specs.Covers.{cover_of, named_by}
use Rattle.ship_profile.proofs.Items.{IsAtEntry}
use Rattle.ship_profile.proofs.covers.covers_of.Given as goal

abbrev pub invariant-loop-entry : goal.invariant-loop-entry
invariant-loop-entry l = record { fits : l.index < 2 ^ 32; named : l.named ≡ named_by l.covers; at : IsAtEntry key.Cover (λ i earlier entry. cover_of l.stacks i (named_by earlier) entry) l.entries.items l.entry-index l.index l.covers }
