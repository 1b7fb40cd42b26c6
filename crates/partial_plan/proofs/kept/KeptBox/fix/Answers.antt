use Rattle.std.proofs.Common.{◌≡◌, ◌<◌, length, None, Some, sym, ap, ◌∙◌}
use Rattle.std.specs.Prelude.{slice_get}
use Rattle.std.proofs.lemmas.Option.{slice_get_within}
use Rattle.proof_trees.specs.Boxes.{Box, at}
use Rattle.partial_plan.specs.Kept.{Kept}
use Rattle.partial_plan.proofs.CalmRows.{fixed_fewer, rests_marks}
use Rattle.partial_plan.proofs.kept.KeptBox.fix.Goals as goal

pub invariant_of-self : goal.invariant_of-self
invariant_of-self c =
    let same : c.self.inside.state.b ≡ c.args.self.now.known = ap (λ (k : Kept). k.known) c.self.view_is in
    let free : slice_get c.self.inside.state.b c.args.x ≡ Some None = ap (λ (b : Box). slice_get b c.args.x) same ∙ c.requires in
    let inside : c.args.x < length c.self.inside.state.b = slice_get_within c.self.inside.state.b c.args.x None free in
    record {
      state = c.fix.ensures.state;
      rests = rests_marks c.self.inside.matrix.now c.self.inside.state.b c.fix.new.self.b c.self.inside.state.slacks c.fix.new.self.slacks (λ w e. fixed_fewer c.self.inside.state.b c.args.x c.args.value inside w (sym (ap (λ (b : Box). at b w) c.fix.ensures.known) ∙ e)) c.fix.ensures.marks c.self.invariant.rests;
    }
