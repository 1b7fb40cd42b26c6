use Rattle.std.proofs.Common.{◌≡◌, map, take}
use Rattle.zero_one_rows.specs.Counted.{base_in}
use Rattle.zero_one_model.specs.Runs.{first_file}
use Rattle.zero_one_model.proofs.filing.first_files.Given as goal

abbrev pub invariant-loop-k : goal.invariant-loop-k
invariant-loop-k l = l.keys ≡ map (first_file l.ship) (take l.k (base_in l.lists))
