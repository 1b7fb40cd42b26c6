-- The report of a plan: the outcome, the cost, the bound and the number of nodes, a line for each.
use Rattle.std.specs.Prelude.{ℕ, List, ◌++◌, codes, Option, Some, None}
use Rattle.std.specs.Fmt.{decimal}
use Rattle.certificate.specs.declared.tree.Head.{Head}
use Rattle.certificate.specs.declared.tree.Outcome.{Outcome}
use Rattle.certificate.specs.Text.{outcome_text}

-- a word and a number
abbrev pub number_line : List ℕ → ℕ → List ℕ
number_line word n = word ++ (decimal n ++ codes "\n")

abbrev pub outcome_line : Outcome → List ℕ
outcome_line outcome = codes "outcome " ++ (outcome_text outcome ++ codes "\n")

-- the cost of the plan, or none where there is no plan
abbrev pub cost_line : Option ℕ → List ℕ
cost_line None = codes "cost none\n"
cost_line (Some n) = number_line (codes "cost ") n

abbrev pub report_text : Head → List ℕ
report_text head = outcome_line head.outcome ++ (cost_line head.rehandles ++ (number_line (codes "bound ") head.bound ++ number_line (codes "nodes ") head.nodes))
