use Rattle.std.proofs.Common.{◌≡◌, set, None, Some, sym, ◌∙◌, ap}
use Rattle.proof_trees.specs.Boxes.{Box}
use Rattle.row_matrix.specs.Loose.{Loose}
use Rattle.row_matrix.proofs.Loosely.{set_again}
use Rattle.row_matrix.proofs.loose.LooseBox.set.Goals as goal

pub returns-in-Some : goal.returns-in-Some
returns-in-Some c =
    let b : Box = c.self.inside.b in
    let known : c.lower_by.new.b ≡ set b c.args.x c.args.allowed =
    c.lower_by.ensures.known ∙ ap (λ (a : Box). set a c.args.x (Some c.in-Some.value)) c.lift_by.ensures.known ∙ set_again b c.args.x None (Some c.in-Some.value) ∙ ap (λ o. set b c.args.x o) (sym c.in-Some.is) in
    ap (λ (a : Box). record { voyage = c.self.inside.matrix.now; known = a }) known ∙ ap (λ (k : Loose). record { voyage = k.voyage; known = set k.known c.args.x c.args.allowed }) c.self.view_is
