use Rattle.std.proofs.Common.{refl, sym, subst, ◌∙◌, ap}
use Rattle.zero_one_rows.specs.Rows.{whole}
use Rattle.proof_trees.specs.Boxes.{Box, tightened}
use Rattle.node_solver.specs.declared.worked.Worked.{Worked}
use Rattle.node_work.specs.declared.positions.TreePosition.{TreePosition}
use Rattle.node_work.specs.Starts.{IsAfterSteps}
use Rattle.node_work.specs.Positions.{IsPosition}
use Rattle.node_solver.specs.Work.{Works}
use Rattle.node_work.proofs.Positioned.{position_fixed}
use Rattle.node_work.proofs.Ends.{branched_divides}
use Rattle.node_work.proofs.Trails.{pending}
use Rattle.node_work.proofs.positions.TreePosition.end.Goals.{in-Branched+in_ok-note, in_default}
use Rattle.node_work.proofs.positions.TreePosition.end.Goals as goal

pub returns-in_err-worked-clause-position : goal.returns-in_err-worked-clause-position
returns-in_err-worked-clause-position c = let n = c.in_err-worked.ensures.noted in position_fixed c.args.model.now c.args.self.now _ c.requires.position c.in_err-worked.ensures.same n.0 n.1 n.2 refl

pub note-requires-clause-position : goal.note-requires-clause-position
note-requires-clause-position c = let n = c.in_ok-worked.ensures.noted in position_fixed c.args.model.now c.args.self.now _ c.requires.position c.in_ok-worked.ensures.same n.0 n.1 n.2 refl

pub note-requires-clause-at : goal.note-requires-clause-at
note-requires-clause-at c =
    subst (λ (w : Worked). IsAfterSteps c.args.model.now c.args.self.now.kept.known c.end_box.new.kept.known w) c.in-Branched.is c.in_ok-worked.ensures.tight
    ∙ ap (λ (b : Box). tightened (whole c.args.model.now) b c.in-Branched.entry.steps) c.requires.at

pub note-requires-clause-divides : goal.note-requires-clause-divides
note-requires-clause-divides c =
    let q = pending c.args.self.now.kept.known c.args.dual_state.now.gauge.multipliers in
    branched_divides c.args.model.now q c.args.most c.args.limits.cut c.in-Branched.entry c.end_box.new.kept.known
    (subst (λ (w : Worked). Works c.args.model.now q c.args.most c.args.limits.cut w) c.in-Branched.is c.in_ok-worked.ensures.worked)
    (subst (λ (w : Worked). IsAfterSteps c.args.model.now c.args.self.now.kept.known c.end_box.new.kept.known w) c.in-Branched.is c.in_ok-worked.ensures.tight)

pub returns-clause-position : goal.returns-clause-position
returns-clause-position c = elim c.match-worked.branch [
  | in-Branched+in_ok-note w ↦ subst (λ (s : TreePosition). IsPosition c.args.model.now s) (sym w.self-is) w.note.ensures
  | in_default w ↦ let n = c.in_ok-worked.ensures.noted in subst (λ (s : TreePosition). IsPosition c.args.model.now s) (sym w.self-is) (position_fixed c.args.model.now c.args.self.now _ c.requires.position c.in_ok-worked.ensures.same n.0 n.1 n.2 refl)
]
