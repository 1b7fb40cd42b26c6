use Rattle.std.proofs.Common.{◌≡◌, take}
use Rattle.std.specs.List.{count_by}
use Rattle.zero_one_rows.specs.Crossing.{is_of_load}
use Rattle.zero_one_rows.proofs.crossing.count_load.Given as goal

abbrev pub invariant-loop-c : goal.invariant-loop-c
invariant-loop-c l = l.count ≡ count_by (is_of_load l.long l.load l.dest) (take l.c l.cargo.containers)
