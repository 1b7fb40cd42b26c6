-- The rows that a tree's lines name, as they are kept. No public clause cites this module.
use Rattle.zero_one_rows.specs.Variables.{Voyage}
use Rattle.dual_bound.specs.Costs.{IsListed}
use Rattle.bound_checker.specs.declared.named_rows.NamedRow.{NamedRow}

-- the right side and the terms are those of the row
abbrev pub IsNamed : Voyage → NamedRow → Type 0
IsNamed m n = IsListed m n.row n.right n.terms
