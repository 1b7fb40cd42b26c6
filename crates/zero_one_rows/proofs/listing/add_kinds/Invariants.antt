use Rattle.std.proofs.Common.{◌≤◌, ◌+◌, ◌*◌}
use Rattle.std.specs.Prelude.{flat_map}
use Rattle.std.specs.List.{range_with_len}
use Rattle.zero_one_rows.specs.Variables.{calls, kind}
use Rattle.zero_one_rows.specs.Offering.{offered}
use Rattle.zero_one_rows.specs.Enumerated.{Adds, at_lifts}
use Rattle.zero_one_rows.proofs.listing.add_kinds.Given as goal

abbrev pub ghost-at : goal.ghost-at
ghost-at g a = g.m

abbrev pub invariant-loop-g : goal.invariant-loop-g
invariant-loop-g g l = record { adds : Adds l.initial.listing l.listing (flat_map (λ k. at_lifts (calls g.m) l.put k (kind g.m k).dest (offered g.m l.put k)) (range_with_len 0 l.g)); most : l.listing.total ≤ l.initial.listing.total + l.g * 39000 }
