use Rattle.std.proofs.Common.{◌≡◌, ◌++◌, length}
use Rattle.std.specs.Prelude.{filter, flat_map}
use Rattle.std.specs.List.{range_with_len}
use Rattle.zero_one_rows.specs.Variables.{all_kinds}
use Rattle.zero_one_model.specs.Indexed.{stands, lot_of}
use Rattle.zero_one_model.proofs.model.Model.select_lots.Given as goal

abbrev pub invariant-loop-put : goal.invariant-loop-put
invariant-loop-put l = l.list ≡ l.initial.list ++ filter (stands l.self l.r) (flat_map (λ put. flat_map (lot_of l.self put) (range_with_len 0 (length (all_kinds l.self)))) (range_with_len 0 l.put))
