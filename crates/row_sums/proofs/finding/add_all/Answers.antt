use Rattle.std.proofs.Common.{ℕ, true, false, List, ap, sym, ◌∙◌, subst}
use Rattle.std.specs.Prelude.{slice_index_or}
use Rattle.stow_data.specs.declared.geometry.Place.{Place}
use Rattle.stow_data.specs.Ship.{Ship, places, half_at}
use Rattle.stow_data.specs.Plans.{no_place}
use Rattle.row_sums.specs.Numbers.{IsCell}
use Rattle.row_sums.specs.Noted.{Grows}
use Rattle.row_sums.proofs.Growing.{gathered, on_ok_both}
use Rattle.row_sums.proofs.Holding.{cell_of}
use Rattle.row_sums.proofs.finding.add_all.Goals as goal

pub add_moves-requires-clause-cell : goal.add_moves-requires-clause-cell
add_moves-requires-clause-cell c =
    let at = c.place_at-at.ensures ∙ ap (λ (s : Ship). slice_index_or (places s) c.args.x.now.place no_place) c.ship.ensures in
    subst (λ (p : Place). IsCell c.args.sums.now (half_at p false)) (sym at) (cell_of c.args.sums.now c.args.x.now.place false c.requires.named.place)

pub add_moves-requires-2-clause-cell : goal.add_moves-requires-2-clause-cell
add_moves-requires-2-clause-cell c =
    let at = c.place_at-at.ensures ∙ ap (λ (s : Ship). slice_index_or (places s) c.args.x.now.place no_place) c.ship.ensures in
    subst (λ (p : Place). IsCell c.args.sums.now (half_at p true)) (sym at) (cell_of c.args.sums.now c.args.x.now.place true c.requires.named.place)

pub add_stay-requires-clause-cells : goal.add_stay-requires-clause-cells
add_stay-requires-clause-cells c = λ aft.
    let at = c.place_at-at.ensures ∙ ap (λ (s : Ship). slice_index_or (places s) c.args.x.now.place no_place) c.ship.ensures in
    subst (λ (p : Place). IsCell c.args.sums.now (half_at p aft)) (sym at) (cell_of c.args.sums.now c.args.x.now.place aft c.requires.named.place)

pub returns : goal.returns
returns c = on_ok_both c.add_stay.result (gathered c.args.sums.now c.args.z c.args.x.now c.add_ends.new.list c.add_moves.new.list c.add_moves-2.new.list c.add_stay.new.list
    (subst (λ (ns : List ℕ). Grows c.args.sums.now c.args.z c.args.x.now ns c.add_ends.new.list) c.requires.empty c.in_ok-add_ends.ensures.grows) c.in_ok-add_ends.ensures.has
    c.in_ok-add_moves.ensures.grows c.in_ok-add_moves.ensures.has
    c.in_ok-add_moves-2.ensures.grows c.in_ok-add_moves-2.ensures.has)
    c.add_stay.ensures.grows c.add_stay.ensures.has
