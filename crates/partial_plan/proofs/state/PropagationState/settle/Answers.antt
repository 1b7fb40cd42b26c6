use Rattle.std.proofs.Common.{arith, ◌≡◌, length, refl}
use Rattle.partial_plan.proofs.Trails.{trails_settled}
use Rattle.partial_plan.proofs.state.PropagationState.settle.Goals as goal

pub returns-clause-state : goal.returns-clause-state
returns-clause-state c =
    let at_end : c.len.result ≡ length c.args.self.now.undo.items = omega (arith, c.len.ensures, c.args.self.now.undo.ok.0) in
    record {
      holds = c.requires.state.holds;
      trails = trails_settled c.args.matrix.now c.args.self.now _ c.requires.state.trails c.requires.quiet refl refl c.len.result at_end refl;
    }
