use Rattle.std.proofs.Common.{◌≡◌, ◌++◌, take}
use Rattle.std.specs.List.{flat_map}
use Rattle.edifact_segments.specs.Written.{written}
use Rattle.baplie.proofs.writing.write_groups.Given as goal

abbrev pub invariant-loop-group : goal.invariant-loop-group
invariant-loop-group l = l.out ≡ l.fn.out ++ flat_map written (flat_map (λ g. g.segments) (take l.group-index l.groups))
