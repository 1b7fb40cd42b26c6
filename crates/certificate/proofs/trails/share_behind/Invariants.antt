use Rattle.std.proofs.Common.{◌≡◌, ◌++◌, take}
use Rattle.certificate.proofs.trails.share_behind.Given as goal

abbrev pub invariant-loop-record : goal.invariant-loop-record
invariant-loop-record l = l.made.items ≡ l.fn.made.items ++ take l.record-index l.records
