use Rattle.std.proofs.Common.{◌≡◌, length}
use Rattle.zero_one_rows.specs.Variables.{variables}
use Rattle.price_parts.proofs.prices.box_of.Given as goal

abbrev pub invariant-loop-record : goal.invariant-loop-record
invariant-loop-record l = length l.b ≡ length (variables l.model)
