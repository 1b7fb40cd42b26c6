use Rattle.std.proofs.Common.{arith, ◌≡◌, ◌<◌, length, true, false, get_or, sym, subst, ◌∙◌}
use Rattle.proof_trees.specs.Boxes.{Box}
use Rattle.zero_one_rows.specs.Tightening.{IsQuiet}
use Rattle.row_matrix.proofs.Rows.{read}
use Rattle.partial_plan.proofs.CalmRows.{holds_still, rests_quiet}
use Rattle.partial_plan.proofs.Trails.{released_all, take_length}
use Rattle.partial_plan.proofs.state.PropagationState.undo_to.Goals as goal

pub returns-then-index-clause-rests : goal.returns-then-index-clause-rests
returns-then-index-clause-rests c =
    let d = c.take_back.new.self in
    let at_end : c.args.to ≡ length c.take_back.new.self.undo.items = take_length c.args.self.now.undo.items c.take_back.new.self.undo.items c.args.to c.requires.to c.take_back.ensures.kept in
    let inside : c.args.to < length c.take_back.new.self.quiet.items = omega (arith, c.take_back.ensures.state.trails.marks, c.take_back.ensures.state.trails.room) in
    let is : get_or c.take_back.new.self.quiet.items c.args.to false ≡ true = sym (read c.take_back.new.self.quiet.items c.args.to c.index.result.now false inside c.index.ensures) ∙ c.if-index.true in
    let quiet : IsQuiet c.args.matrix.now c.take_back.new.self.b =
    subst (λ (b : Box). IsQuiet c.args.matrix.now b) (released_all c.take_back.new.self.b c.take_back.new.self.undo.items c.args.to at_end) (c.take_back.ensures.state.trails.quiet c.args.to (omega arith) is) in
    rests_quiet c.args.matrix.now c.take_back.new.self.b c.rest.new.self c.rows_are_listed.ensures.base (holds_still c.args.matrix.now c.take_back.new.self.b c.take_back.new.self.slacks c.rest.new.self c.take_back.ensures.state.holds c.rest.ensures.slack c.rest.ensures.len c.rest.ensures.count) quiet
