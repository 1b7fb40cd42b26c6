use Rattle.std.proofs.Common.{ℕ, arith, rules}
use Rattle.stowage_rules.specs.Places.{IsTakenFrom}
use Rattle.stow_data.proofs.Ranges.{any_from_Range, tells_any}
use Rattle.stowage_rules.proofs.Fillers.{some_taken, none_taken}
use Rattle.stowage_rules.proofs.half_cells.is_taken.Goals as goal

pub returns : goal.returns
returns c =
    let at = IsTakenFrom c.args.ship.now c.args.plan.now c.args.h.now in
    tells_any at _ _ _ (any_from_Range _ _ _ _ at (λ n. at n → ⊥) c.any.ensures.ran (λ x q k. search rules) (λ x q k. search rules))
    (some_taken c.args.ship.now c.args.plan.now c.args.h.now) (none_taken c.args.ship.now c.args.plan.now c.args.h.now c.places.result (omega arith))
