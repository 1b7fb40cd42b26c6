use Rattle.std.proofs.Common.{◌≡◌, ◌<◌, ℕ, false, length, get_or}
use Rattle.edifact_segments.specs.Scanning.{is_ordinary}
use Rattle.edifact_segments.proofs.service.table_of.Given as goal

abbrev pub invariant-loop-byte : goal.invariant-loop-byte
invariant-loop-byte l =
    (length l.table ≡ 256) × ((b : ℕ) → b < l.byte → get_or l.table b false ≡ is_ordinary l.service b)
