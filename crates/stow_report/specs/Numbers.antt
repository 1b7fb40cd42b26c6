-- The lines of a certificate's numbers, and what is printed of a certificate that is confirmed.
use Rattle.std.specs.Prelude.{ℕ, ℤ, pos, true, codes, List, [], ◌∷◌, ◌++◌, Option, Some, None}
use Rattle.std.specs.Fmt.{decimal}
use Rattle.certificate.specs.declared.tree.Head.{Head}
use Rattle.stow_report.specs.declared.numbers.NumbersNo.{NumbersNo}
use Rattle.stow_report.specs.declared.numbers.NumbersNo.TheVariants.{Rehandles, Nodes, Outcome}
use Rattle.stow_report.specs.declared.lines.Group.TheVariants as group
use Rattle.stow_report.specs.declared.lines.Line.{Line}
use Rattle.stow_report.specs.Refusals.{numbered}

abbrev pub of_numbers : ℕ → List ℤ → Line
of_numbers n numbers = numbered true group.Numbers n numbers

-- what the certificate says, then what is found
abbrev pub numbers_line : NumbersNo → Line
numbers_line (Rehandles said found) = of_numbers 1 (pos said ∷ pos found ∷ [])
numbers_line (Nodes said found) = of_numbers 2 (pos said ∷ pos found ∷ [])
numbers_line Outcome = of_numbers 3 []

-- a cost, or that there is none
abbrev pub cost_text : Option ℕ → List ℕ
cost_text None = codes "none"
cost_text (Some n) = decimal n

-- that all holds, and the certificate's cost and bound
abbrev pub yes_text : Head → List ℕ
yes_text head = codes "check yes\ncost " ++ (cost_text head.rehandles ++ (codes "\nbound " ++ (decimal head.bound ++ codes "\n")))
