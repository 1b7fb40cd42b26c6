use Rattle.std.proofs.Common.{◌∙◌, ◌/◌, ap, sym, arith}
use Rattle.stow_data.specs.declared.geometry.Separation.{Separation}
use Rattle.row_sums.proofs.RowNumbering.{named_first, named_second, named_past}
use Rattle.row_sums.proofs.classes.class_bytes.Goals as goal

pub returns-then-index-separations : goal.returns-then-index-separations
returns-then-index-separations c = sym (named_past c.args.ship.now.separations c.args.class (omega arith))

pub returns-then-class-eq0 : goal.returns-then-class-eq0
returns-then-class-eq0 c = c.bytes.ensures.value ∙ ap (λ (e : Separation). e.a) c.separation_at-separation.ensures ∙ sym (named_first c.args.ship.now.separations (c.class.inside.0 / 2) c.args.class (omega arith))

pub returns-else-class-eq0 : goal.returns-else-class-eq0
returns-else-class-eq0 c = c.bytes-else-class-eq0.ensures.value ∙ ap (λ (e : Separation). e.b) c.separation_at-separation.ensures ∙ sym (named_second c.args.ship.now.separations (c.class.inside.0 / 2) c.args.class (omega arith))
