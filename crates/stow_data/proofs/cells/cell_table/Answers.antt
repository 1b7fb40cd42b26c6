use Rattle.std.proofs.Common.{◌≡◌, ◌+◌, ◌<◌, ◌++◌, [], ◌∷◌, ℕ, List, Some, arith, refl, ap, sym, ◌∙◌, subst, length, take, get_or}
use Rattle.std.specs.Prelude.{slice_get}
use Rattle.std.proofs.lemmas.List.{take_more, length-take}
use Rattle.std.proofs.lemmas.Option.{slice_get_read, slice_get_within}
use Rattle.stow_data.specs.declared.geometry.Place.{Place}
use Rattle.stow_data.specs.CellTable.{cell_order, cell_number, IsCellTable}
use Rattle.std.specs.BTreeMap.{get}
use Rattle.stow_data.proofs.CellLemmas.{cells_more}
use Rattle.stow_data.proofs.cells.cell_table.Goals as goal

pub loop-place-preserved : goal.loop-place-preserved
loop-place-preserved c =
    let counted : c.in_ok-number.number ≡ c.loop-place.number + 1 = grind (arith, c.in_ok-number.ensures) in
    let is_place : slice_get c.args.places.now c.loop-place.place-index ≡ Some c.place-item.result = slice_get_read c.args.places.now _ c.loop-place.place-index c.place-item.result refl c.loop-place-test.true c.place-item.is in
    let on = c.requires c.loop-place.place-index c.place-item.result is_place in
    let low : c.place-item.result.stack < length c.args.stacks.now = slice_get_within c.args.stacks.now c.place-item.result.stack on.0 on.1 in
    let is_stack : slice_get c.args.stacks.now c.place-item.result.stack ≡ Some c.index-stacks-place.result =
    slice_get_read c.args.stacks.now _ c.place-item.result.stack c.index-stacks-place.result refl low (subst (λ (k : ℕ). c.index-stacks-place.result ≡ get_or c.args.stacks.now k c.index-stacks-place.result) (ap (λ (z : Place). z.stack) c.place.view_is) c.index-stacks-place.is) in
    let number_is : c.number_on.result ≡ cell_number c.index-stacks-place.result c.place-item.result = c.number_on.ensures ∙ ap (cell_number c.index-stacks-place.result) c.place.view_is in
    let more : take (c.loop-place.place-index + 1) c.args.places.now ≡ take c.loop-place.place-index c.args.places.now ++ c.place-item.result ∷ [] =
    take_more c.args.places.now c.loop-place.place-index c.place-item.result c.loop-place-test.true ∙ ap (λ (z : Place). take c.loop-place.place-index c.args.places.now ++ z ∷ []) (sym c.place-item.is) in
    record {
      counted = counted ∙ ap (λ n. n + 1) c.loop-place.invariant.counted;
      leads = subst (λ (ps : List Place). IsCellTable c.args.stacks.now ps c.enter.new.table) (sym more)
          (cells_more c.args.stacks.now (take c.loop-place.place-index c.args.places.now) c.place-item.result c.index-stacks-place.result c.loop-place.number c.loop-place.table c.enter.new.table
          (omega (arith, length-take c.loop-place.place-index c.args.places.now, c.loop-place.invariant.counted, c.loop-place-test.true)) is_stack c.loop-place.invariant.leads
          (ap (get cell_order c.enter.new.table) (sym number_is) ∙ c.in_ok-enter.ensures.this)
          (λ n ne. c.in_ok-enter.ensures.others n (λ e. ne (e ∙ number_is))));
    }
