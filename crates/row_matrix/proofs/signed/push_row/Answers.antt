use Rattle.std.proofs.Common.{◌≡◌, ◌∷◌, ◌++◌, ℕ, List, [], sym, subst}
use Rattle.std.proofs.lemmas.Option.{get_or_from_slice_get}
use Rattle.std.proofs.lemmas.Result.{on_ok_weaker}
use Rattle.stow_data.proofs.KindLemmas.{on_push}
use Rattle.zero_one_rows.specs.declared.program.Row.{Row}
use Rattle.zero_one_rows.specs.declared.program.Row.TheVariants.{Cell}
use Rattle.zero_one_rows.specs.Variables.{Voyage}
use Rattle.zero_one_rows.specs.Counted.{base_rows}
use Rattle.row_matrix.specs.Terms.{row_at}
use Rattle.row_matrix.specs.Parted.{AreSumsOf}
use Rattle.row_matrix.proofs.Filing.{listed}
use Rattle.row_matrix.proofs.signed.push_row.Goals as goal

pub returns : goal.returns
returns c =
    let m = c.args.model.now in
    let z = c.args.matrix.now.numbering in
    let is : row_at m c.args.k ≡ c.base_row-row.result = get_or_from_slice_get (base_rows m) c.args.k c.base_row-row.result (Cell 0 0) c.base_row-row.ensures.place in
    let here : AreSumsOf m z c.args.value (row_at m c.args.k) c.as_slice.result.now =
    subst (λ (r : Row). AreSumsOf m z c.args.value r c.as_slice.result.now) (sym is) (subst (λ (w : Voyage). AreSumsOf w z c.args.value c.base_row-row.result c.as_slice.result.now) c.requires.voyage (subst (λ (ns : List ℕ). AreSumsOf c.args.matrix.now.voyage z c.args.value c.base_row-row.result ns) (sym c.as_slice.ensures) c.in_ok-sums.ensures)) in
    on_ok_weaker c.push-pushed.result
    (λ (e : c.push-pushed.new.self ≡ c.args.lists.now ++ c.as_slice.result.now ∷ []). let r = listed (λ k ns. AreSumsOf m z c.args.value (row_at m k) ns) [] c.args.lists.now c.push-pushed.new.self c.args.k c.as_slice.result.now c.requires.before.each c.requires.before.of e here in record { each = r.0; of = r.1 })
    (on_push c.push-pushed.result c.push-pushed.new.self (c.args.lists.now ++ c.as_slice.result.now ∷ []) c.args.lists.now c.push-pushed.ensures)
