use Rattle.std.proofs.Common.{◌<◌, ◌^◌}
use Rattle.ship_profile.specs.declared.faults.ProfileKey.TheVariants as key
use Rattle.ship_profile.specs.Stacks.{stack_of}
use Rattle.ship_profile.proofs.Items.{IsAtEntry}
use Rattle.ship_profile.proofs.stacks.stacks_of.Given as goal

abbrev pub invariant-loop-entry : goal.invariant-loop-entry
invariant-loop-entry l = record { fits : l.index < 2 ^ 32; at : IsAtEntry key.Stack (λ i _ entry. stack_of i entry) l.entries.items l.entry-index l.index l.stacks }
