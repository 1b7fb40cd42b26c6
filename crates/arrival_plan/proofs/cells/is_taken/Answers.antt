use Rattle.std.proofs.Common.{Bool, false, ◌||◌, ap, sym, ◌∙◌}
use Rattle.arrival_plan.proofs.CellLaws.{taken_by_sides, taken_from}
use Rattle.arrival_plan.proofs.cells.is_taken.Goals as goal

pub returns-then-is_taken_on : goal.returns-then-is_taken_on
returns-then-is_taken_on c = c.if-is_taken_on.true ∙ sym (taken_from c.args.ship.now c.args.plan.now c.args.p false (c.is_taken_on.ensures.0 c.if-is_taken_on.true))

pub returns-else-is_taken_on : goal.returns-else-is_taken_on
returns-else-is_taken_on c =
    ap (λ (b : Bool). b || c.is_taken_on-else-is_taken_on.result) (sym c.if-is_taken_on.false)
    ∙ taken_by_sides c.args.ship.now c.args.plan.now c.args.p c.is_taken_on.result c.is_taken_on-else-is_taken_on.result c.is_taken_on.ensures c.is_taken_on-else-is_taken_on.ensures
