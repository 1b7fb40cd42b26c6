use Rattle.std.proofs.Common.{refl, ap}
use Rattle.partial_plan.specs.Kept.{Kept}
use Rattle.node_work.proofs.Positioned.{position_freed}
use Rattle.node_work.proofs.positions.TreePosition.back_to.Goals as goal

pub returns-clause-position : goal.returns-clause-position
returns-clause-position c =
    let e = c.undo_to.ensures in
    position_freed c.args.model.now c.args.self.now _ c.requires.position (ap (λ (k : Kept). k.voyage) e) c.args.to c.requires.to c.requires.low (ap (λ (k : Kept). k.known) e) (ap (λ (k : Kept). k.undo) e) refl
