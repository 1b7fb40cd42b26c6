use Rattle.std.proofs.Common.{◌≡◌, ◌++◌, take, map}
use Rattle.stow_report.specs.declared.lines.Field.TheVariants.{Number}
use Rattle.stow_report.proofs.lines.push_numbers.Given as goal

abbrev pub invariant-loop-number : goal.invariant-loop-number
invariant-loop-number l = l.fields ≡ l.fn.fields ++ map (λ z. Number z) (take l.number-index l.numbers)
