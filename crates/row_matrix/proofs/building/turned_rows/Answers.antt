use Rattle.std.proofs.Common.{ℕ, ◌∙◌, ap, subst}
use Rattle.row_sums.specs.Transposed.{IsTransposed}
use Rattle.row_sums.specs.Numbers.{numbers}
use Rattle.row_matrix.proofs.building.turned_rows.Goals as goal

pub returns-in-Ok-clause-turned : goal.returns-in-Ok-clause-turned
returns-in-Ok-clause-turned c = subst (λ (k : ℕ). IsTransposed c.in_ok-lists.lists k c.in-Ok.turned) (c.numbers.ensures ∙ ap numbers c.numbering.ensures.same) c.in-Ok.ensures
