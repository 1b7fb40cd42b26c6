use Rattle.std.proofs.Common.{arith, ◌≡◌, ◌≤◌, ◌+◌, ◌∙◌, ap, ℕ, List, [], ◌∷◌, ◌++◌, length, length-append}
use Rattle.proof_trees.specs.Boxes.{Box}
use Rattle.partial_plan.specs.Fixing.{released}
use Rattle.partial_plan.proofs.Freeing.{release_one, take_one, inside_less, last_in}
use Rattle.partial_plan.proofs.trail.take_back.Goals as goal

pub release-requires : goal.release-requires
release-requires c =
    let us : List ℕ = c.loop-undo.undo-inside.vars.items in
    let vs : List ℕ = c.pop.new.self.items in
    let pop : us ≡ vs ++ c.in-Some.x ∷ [] = c.in-Some.ensures.items in
    let n : length us ≡ length vs + 1 = ap (λ (xs : List ℕ). length xs) pop ∙ length-append vs (c.in-Some.x ∷ []) in
    last_in c.loop-undo.b us vs c.in-Some.x c.args.to pop (omega (arith, c.loop-undo-test.true, c.len.ensures, n)) c.loop-undo.invariant.inside

pub loop-undo-preserved-in-Some : goal.loop-undo-preserved-in-Some
loop-undo-preserved-in-Some c =
    let i = c.loop-undo.invariant in
    let us : List ℕ = c.loop-undo.undo-inside.vars.items in
    let vs : List ℕ = c.pop.new.self.items in
    let pop : us ≡ vs ++ c.in-Some.x ∷ [] = c.in-Some.ensures.items in
    let n : length us ≡ length vs + 1 = ap (λ (xs : List ℕ). length xs) pop ∙ length-append vs (c.in-Some.x ∷ []) in
    let le : c.args.to ≤ length vs = omega (arith, c.loop-undo-test.true, c.len.ensures, n) in
    record {
      to = le;
      freed = ap (λ (b : Box). released b vs c.args.to) c.release.ensures ∙ release_one c.loop-undo.b _ us vs c.in-Some.x c.args.to pop le i.freed;
      kept = take_one us vs _ c.in-Some.x c.args.to pop le i.kept;
      inside = inside_less c.loop-undo.b c.release.new.self us vs c.in-Some.x c.args.to pop le c.release.ensures i.inside;
    }
