use Rattle.std.proofs.Common.{◌∙◌, ap}
use Rattle.std.specs.Prelude.{flat_map}
use Rattle.std.specs.List.{enumerate_from}
use Rattle.stow_data.specs.declared.hatches.Naming.TheVariants.{Under, On}
use Rattle.stow_data.specs.Ship.{places, halves, stack_places, stack_halves}
use Rattle.stow_data.proofs.CellLemmas.{each_bounded}
use Rattle.stow_data.proofs.CoverLemmas.{named_in}
use Rattle.stow_data.proofs.ships.Ship.new.Goals as goal

pub ship_tables-requires : goal.ship_tables-requires
unfolding places
ship_tables-requires c = rw (c.deref.ensures, c.deref-2.ensures) (record {
  plugs = λ k d lt. (c.requires.each_stack k d lt).plug_each;
  bounded = each_bounded _ c.requires;
  over = named_in _ Under c.requires;
  under = named_in _ On c.requires;
})

pub invariant_of-result : goal.invariant_of-result
unfolding places halves
invariant_of-result c =
    let made = c.in-Ok.ensures in
    record {
      place_table = made.places ∙ ap (λ ss. flat_map stack_places (enumerate_from 0 ss)) c.deref.ensures;
      half_table = made.halves ∙ ap (λ ss. flat_map stack_halves (enumerate_from 0 ss)) c.deref.ensures;
      over_table = rw c.deref-2.ensures at made.over;
      over_each = rw c.deref.ensures at made.over_each;
      under_table = rw c.deref-2.ensures at made.under;
      under_each = rw c.deref.ensures at made.under_each;
      cell_table = rw c.deref.ensures at made.cells;
      rules = c.requires;
    }
