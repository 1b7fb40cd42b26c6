use Rattle.std.proofs.Common.{◌<◌, ◌^◌}
use Rattle.ship_profile.specs.declared.faults.ProfileKey.TheVariants as key
use Rattle.ship_profile.specs.Separations.{separation_of}
use Rattle.ship_profile.proofs.Items.{IsAtEntry}
use Rattle.ship_profile.proofs.separations.separations_of.Given as goal

abbrev pub invariant-loop-entry : goal.invariant-loop-entry
invariant-loop-entry l = record { fits : l.index < 2 ^ 32; at : IsAtEntry key.Separate separation_of l.entries.items l.entry-index l.index l.separations }
