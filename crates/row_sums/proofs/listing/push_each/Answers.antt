use Rattle.std.proofs.Common.{◌≡◌, List, ap, ◌∙◌, subst}
use Rattle.std.specs.Prelude.{slice_index_or}
use Rattle.zero_one_rows.specs.Variables.{var, no_var}
use Rattle.zero_one_rows.specs.declared.program.Var.{Var}
use Rattle.row_sums.specs.Held.{AreSumsOf}
use Rattle.row_sums.proofs.Growing.{listed, any_default}
use Rattle.row_sums.proofs.listing.push_each.Goals as goal

pub loop-x-preserved : goal.loop-x-preserved
loop-x-preserved c =
    let same : c.x-item.result ≡ var c.args.sums.now c.loop-x.x-index = c.x-item.is ∙ any_default c.args.vars.now c.loop-x.x-index c.x-item.result no_var c.loop-x-test.true ∙ ap (λ (xs : List Var). slice_index_or xs c.loop-x.x-index no_var) c.requires.vars in
    let told = c.in_ok-push_sums.ensures in
    let here : AreSumsOf c.args.sums.now c.args.z (var c.args.sums.now c.loop-x.x-index) told.0 = subst (λ (x : Var). AreSumsOf c.args.sums.now c.args.z x told.0) same told.1 in
    let r = listed (λ v ns. AreSumsOf c.args.sums.now c.args.z (var c.args.sums.now v) ns) c.loop-x.lists c.push_sums.new.lists c.loop-x.x-index told.0 c.loop-x.invariant.each c.loop-x.invariant.of told.2 here in
    record { each = r.0; of = r.1 }
