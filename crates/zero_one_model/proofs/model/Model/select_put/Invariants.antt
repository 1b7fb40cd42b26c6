use Rattle.std.proofs.Common.{◌≡◌, ◌++◌}
use Rattle.std.specs.Prelude.{filter, flat_map}
use Rattle.std.specs.List.{range_with_len}
use Rattle.zero_one_model.specs.Indexed.{stands, lot_of}
use Rattle.zero_one_model.proofs.model.Model.select_put.Given as goal

abbrev pub invariant-loop-g : goal.invariant-loop-g
invariant-loop-g l = l.list ≡ l.initial.list ++ filter (stands l.self l.r) (flat_map (lot_of l.self l.put) (range_with_len 0 l.g))
