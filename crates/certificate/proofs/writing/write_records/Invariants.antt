use Rattle.std.proofs.Common.{◌≡◌, ◌++◌, take}
use Rattle.std.specs.Prelude.{flat_map}
use Rattle.certificate.specs.Text.{text_of, record_lines}
use Rattle.certificate.proofs.writing.write_records.Given as goal

abbrev pub invariant-loop-record : goal.invariant-loop-record
invariant-loop-record l = l.out ≡ l.fn.out ++ flat_map (λ r. text_of (record_lines r)) (take l.record-index l.records)
