use Rattle.std.proofs.Common.{◌≡◌, ◌≤◌, length}
use Rattle.bay_views.specs.Bays.{evens, has}
use Rattle.bay_views.proofs.bays.evens_among.Given as goal

abbrev pub invariant-loop-half : goal.invariant-loop-half
invariant-loop-half l = record {
  value : l.bays ≡ evens (has l.numbers) l.half;
  few : length l.bays ≤ l.half;
}
