use Rattle.std.proofs.Common.{◌≡◌, ◌≤◌, take}
use Rattle.std.specs.Prelude.{count_by}
use Rattle.voyage_files.specs.Judged.{was_handled}
use Rattle.voyage_files.proofs.numbers.handled.Given as goal

abbrev pub invariant-loop-record : goal.invariant-loop-record
invariant-loop-record l = (l.count ≡ count_by (λ r. was_handled r.end) (take l.record-index l.tree)) × (l.count ≤ l.record-index)
