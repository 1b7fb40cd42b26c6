use Rattle.std.proofs.Common.{◌≡◌, ◌++◌, take}
use Rattle.std.specs.Prelude.{filter, map, flat_map}
use Rattle.zero_one_rows.specs.Variables.{var}
use Rattle.zero_one_model.specs.Runs.{base_row, run_of, meets}
use Rattle.zero_one_model.proofs.model.Model.keep_filed.Given as goal

abbrev pub invariant-loop-k : goal.invariant-loop-k
invariant-loop-k l = l.list ≡ l.initial.list ++ filter (meets l.self l.x) (flat_map (run_of l.self (var l.self l.x)) (map (base_row l.self) (take l.k-index l.numbers)))
