use Rattle.std.proofs.Common.{◌≡◌, ◌<◌, length, set, None, sym, ◌∙◌, ap}
use Rattle.std.proofs.lemmas.Option.{get_or_from_slice_get, slice_get_within}
use Rattle.proof_trees.specs.Boxes.{Box, at}
use Rattle.row_matrix.specs.Loose.{Loose}
use Rattle.row_matrix.proofs.Loosely.{set_alike}
use Rattle.row_matrix.proofs.loose.LooseBox.lean_one.Goals as goal

pub returns-then-alike : goal.returns-then-alike
returns-then-alike c =
    let b : Box = c.self.inside.b in
    let is : at b c.args.x ≡ c.at.result = get_or_from_slice_get b c.args.x c.at.result None c.at.ensures in
    let same : c.at.result ≡ c.cheaper_at-allowed.result = c.alike.ensures c.if-alike.true in
    let lt : c.args.x < length b = slice_get_within b c.args.x c.at.result c.at.ensures in
    let known : b ≡ set b c.args.x c.cheaper_at-allowed.result = sym (set_alike b c.args.x c.cheaper_at-allowed.result (is ∙ same) lt) in
    sym c.self.view_is ∙ ap (λ (a : Box). record { voyage = c.self.inside.matrix.now; known = a }) known ∙ ap (λ (k : Loose). record { voyage = k.voyage; known = set k.known c.args.x c.cheaper_at-allowed.result }) c.self.view_is ∙ ap (λ o. record { voyage = c.args.self.now.voyage; known = set c.args.self.now.known c.args.x o }) c.cheaper_at-allowed.ensures
