use Rattle.std.proofs.Common.{◌≡◌, ◌++◌, map}
use Rattle.std.specs.Prelude.{filter}
use Rattle.std.specs.List.{range_with_len}
use Rattle.zero_one_rows.specs.Counted.{is_hatch}
use Rattle.zero_one_rows.proofs.row_lists.push_hatches.Given as goal

abbrev pub ghost-is_under_hatch : goal.ghost-is_under_hatch
ghost-is_under_hatch g a = g.m

abbrev pub invariant-loop-d : goal.invariant-loop-d
invariant-loop-d g l = l.list ≡ l.initial.list ++ map (λ d. record { half = l.half; lowest = d }) (filter (is_hatch g.m l.half) (range_with_len 0 l.d))
