use Rattle.std.proofs.Common.{rules, arith, ◌≡◌, ◌<◌, length, not, Some, SFits, w64, pos, subst, ap, sym}
use Rattle.std.specs.Prelude.{slice_get}
use lib.Signed.{le_z}
use Rattle.std.proofs.lemmas.Int.{to_z-of_z}
use Rattle.proof_trees.specs.Boxes.{violated}
use Rattle.zero_one_rows.specs.Rows.{whole}
use Rattle.zero_one_rows.specs.Counted.{base_rows}
use Rattle.row_matrix.specs.Loose.{Loose}
use Rattle.row_matrix.specs.Waiting.{number_at}
use Rattle.row_matrix.proofs.Rows.{read}
use Rattle.row_matrix.proofs.Loosely.{met_tells}
use Rattle.row_matrix.proofs.loose.LooseBox.is_met.Goals as goal

pub returns : goal.returns
returns c = λ r at.
    let s : SFits w64 c.index.result.now = search rules in
    let same = c.self.view_is in
    let lt : c.args.k < length (base_rows c.self.inside.matrix.now) = subst (λ (k : Loose). c.args.k < length (base_rows k.voyage)) (sym same) c.requires in
    let at' : slice_get (base_rows c.self.inside.matrix.now) c.args.k ≡ Some r = subst (λ (k : Loose). slice_get (base_rows k.voyage) c.args.k ≡ Some r) (sym same) at in
    let is : c.index.result.now ≡ number_at c.self.inside.slacks.slack.items c.args.k = read c.self.inside.slacks.slack.items c.args.k c.index.result.now (pos 0) (omega (arith, lt, c.self.invariant.holds.short.slacks)) c.index.ensures in
    let e : le_z (pos 0) (number_at c.self.inside.slacks.slack.items c.args.k) ≡ le_z (pos 0) c.index.result.now = ap (λ z. le_z (pos 0) z) (sym is) in
    simp to_z-of_z (subst (λ (k : Loose). violated (whole k.voyage) k.known r ≡ not (le_z (pos 0) c.index.result.now)) same (met_tells c.self.inside.matrix.now c.self.inside.b c.self.inside.slacks c.args.k r (le_z (pos 0) c.index.result.now) c.self.invariant.holds lt at' e))
