use Rattle.std.proofs.Common.{◌≡◌, ◌≤◌, length}
use Rattle.bay_views.specs.Bays.{evens, has_bay}
use Rattle.bay_views.proofs.bays.long_bays.Given as goal

abbrev pub invariant-loop-half : goal.invariant-loop-half
invariant-loop-half l = record {
  value : l.bays ≡ evens (has_bay l.groups) l.half;
  few : length l.bays ≤ l.half;
}
