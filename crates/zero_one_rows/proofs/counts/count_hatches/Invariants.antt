use Rattle.std.proofs.Common.{◌≡◌, ◌≤◌, ◌*◌, length}
use Rattle.std.specs.Prelude.{flat_map}
use Rattle.std.specs.List.{range_with_len}
use Rattle.zero_one_rows.specs.Counted.{hatches_of}
use Rattle.zero_one_rows.proofs.counts.count_hatches.Given as goal

abbrev pub ghost-count_lowest : goal.ghost-count_lowest
ghost-count_lowest g a = g.m

abbrev pub invariant-loop-h : goal.invariant-loop-h
invariant-loop-h g l = record { number : l.count ≡ length (flat_map (hatches_of g.m) (range_with_len 0 l.h)); low : l.count ≤ l.h * 6000 }
