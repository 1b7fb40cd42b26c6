-- One shape for each cell group.
use Rattle.std.proofs.Common.{◌≡◌, ℕ, ◌+◌, List, [], ◌∷◌, Option, Some, None, refl, ap, sym, ◌∙◌}
use Rattle.std.proofs.lemmas.List.Sums.{sum_by-cons}
use Rattle.std.specs.Prelude.{count_by, cond, is_some}
use Rattle.baplie.specs.declared.parts.Facts.{Facts}
use Rattle.baplie.specs.declared.parts.CellGroup.{CellGroup}
use Rattle.stow_report.specs.Listings.{holds}
use Rattle.bay_views.specs.declared.cells.Cell.{Cell}
use Rattle.bay_views.specs.declared.sheets.Sheet.{Sheet}
use Rattle.bay_views.specs.Cells.{is_filled, shape_in, shape_of, cell_of, shapes}

filled_in : (cell : Cell) (ports : List (List ℕ)) (facts : Option Facts) → is_filled (shape_in cell ports facts) ≡ is_some facts
filled_in cell ports None = refl
filled_in cell ports (Some f) = refl

pub filled : (s : Sheet) (ports : List (List ℕ)) (groups : List CellGroup) → count_by is_filled (shapes s ports groups) ≡ count_by holds groups
filled s ports [] = refl
filled s ports (g ∷ gs) =
    sum_by-cons (λ x. cond (is_filled x) 1 0) (shape_of s ports g) (shapes s ports gs) ∙ ap (λ b. cond b 1 0 + count_by is_filled (shapes s ports gs)) (filled_in (cell_of s g) ports g.facts)
    ∙ ap (λ n. cond (holds g) 1 0 + n) (filled s ports gs) ∙ sym (sum_by-cons (λ x. cond (holds x) 1 0) g gs)
