use Rattle.std.proofs.Common.{◌≡◌, drop}
use Rattle.zero_one_rows.specs.Chains.{rises}
use Rattle.zero_one_rows.proofs.membership.is_rising.Given as goal

abbrev pub invariant-loop-number : goal.invariant-loop-number
invariant-loop-number l = rises 0 l.end l.numbers ≡ rises l.low l.end (drop l.number-index l.numbers)
