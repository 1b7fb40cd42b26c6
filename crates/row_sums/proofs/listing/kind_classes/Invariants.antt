use Rattle.std.proofs.Common.{◌≡◌, map, take}
use Rattle.stow_data.specs.declared.kind_list.Kind.{Kind}
use Rattle.zero_one_rows.specs.Variables.{all_kinds}
use Rattle.row_sums.specs.Classes.{class_or_past}
use Rattle.row_sums.proofs.listing.kind_classes.Given as goal

abbrev pub invariant-loop-g : goal.invariant-loop-g
invariant-loop-g l = l.classes ≡ map (λ (k : Kind). class_or_past l.sums.ship k.class) (take l.g (all_kinds l.sums))
