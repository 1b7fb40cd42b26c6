use Rattle.std.proofs.Common.{◌≡◌, length}
use Rattle.zero_one_rows.specs.Variables.{variables}
use Rattle.program_probe.proofs.bridge.box_of.Given as goal

abbrev pub invariant-loop-record : goal.invariant-loop-record
invariant-loop-record l = length l.b ≡ length (variables l.model)

abbrev pub invariant-loop-v : goal.invariant-loop-v
invariant-loop-v l = length l.b ≡ length (variables l.model)
