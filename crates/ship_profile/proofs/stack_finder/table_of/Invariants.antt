use Rattle.ship_profile.proofs.StackLookups.{LeadsBefore}
use Rattle.ship_profile.proofs.stack_finder.table_of.Given as goal

abbrev pub invariant-loop-number : goal.invariant-loop-number
invariant-loop-number l = LeadsBefore l.table l.stacks l.number
