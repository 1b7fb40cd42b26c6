use Rattle.std.proofs.Common.{◌≡◌, ◌∷◌, ◌++◌, take}
use Rattle.std.specs.Prelude.{flat_map}
use Rattle.stow_report.specs.Refusals.{field_text}
use Rattle.stow_report.proofs.lines.write_fields.Given as goal

abbrev pub invariant-loop-field : goal.invariant-loop-field
invariant-loop-field l = l.out ≡ l.fn.out ++ flat_map (λ f. 32 ∷ field_text f) (take l.field-index l.fields)
