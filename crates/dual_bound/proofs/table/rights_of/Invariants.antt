use Rattle.std.proofs.Common.{◌≡◌, length}
use Rattle.dual_bound.specs.Kept.{AreRights}
use Rattle.dual_bound.proofs.table.rights_of.Given as goal

abbrev pub invariant-loop-number : goal.invariant-loop-number
invariant-loop-number l = record {
  rights : length l.rights ≡ l.number;
  kept : AreRights l.model l.rights;
}
