use Rattle.std.proofs.Common.{arith, ◌≡◌, ◌≤◌, length-append, ◌+◌, ◌++◌, [], ◌∷◌, ℕ, List, length, ap, ◌∙◌, refl}
use Rattle.proof_trees.specs.Boxes.{Box}
use Rattle.partial_plan.specs.Fixing.{released}
use Rattle.partial_plan.proofs.Freeing.{release_one, take_one}
use Rattle.partial_plan.proofs.Trails.{trails_freed}
use Rattle.partial_plan.proofs.state.PropagationState.take_back.Goals as goal

pub loop-self-preserved-in-Some : goal.loop-self-preserved-in-Some
loop-self-preserved-in-Some c =
    let i = c.loop-self.invariant in
    let us : List ℕ = c.loop-self.self.undo.items in
    let vs : List ℕ = c.pop.new.self.items in
    let pop : us ≡ vs ++ c.in-Some.x ∷ [] = c.in-Some.ensures.items in
    let n : length us ≡ length vs + 1 = ap (λ (xs : List ℕ). length xs) pop ∙ length-append vs (c.in-Some.x ∷ []) in
    let le : c.args.to ≤ length vs = omega (arith, c.loop-self-test.true, c.len.ensures, c.loop-self.self.undo.ok.0, n) in
    record {
      state = record { holds = c.lift_by.ensures.holds; trails = trails_freed c.args.matrix.now c.loop-self.self _ c.in-Some.x i.state.trails pop c.in-Some.ensures.capacity c.lift_by.ensures.known refl };
      to = le;
      freed = ap (λ (b : Box). released b vs c.args.to) c.lift_by.ensures.known ∙ release_one c.loop-self.self.b _ us vs c.in-Some.x c.args.to pop le i.freed;
      kept = take_one us vs _ c.in-Some.x c.args.to pop le i.kept;
    }
