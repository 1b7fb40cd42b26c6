use Rattle.std.proofs.Common.{◌≤◌, ◌*◌, ◌^◌}
use Rattle.std.specs.Prelude.{flat_map}
use Rattle.std.specs.List.{range_with_len}
use Rattle.zero_one_rows.specs.Enumerated.{Adds, at_put}
use Rattle.zero_one_rows.proofs.listing.list_variables.Given as goal

abbrev pub ghost-add_kinds : goal.ghost-add_kinds
ghost-add_kinds g a = g.m

abbrev pub invariant-loop-put : goal.invariant-loop-put
invariant-loop-put g l = record { adds : Adds l.initial.listing l.listing (flat_map (at_put g.m) (range_with_len 0 l.put)); most : l.listing.total ≤ l.put * 2 ^ 48 }
