use Rattle.std.proofs.Common.{subst}
use Rattle.zero_one_rows.specs.declared.program.Row.{Row}
use Rattle.zero_one_rows.specs.Counted.{all_rows}
use Rattle.dual_bound.specs.Rising.{IsFlat}
use Rattle.dual_bound.proofs.Flat.{same_place}
use Rattle.dual_bound.proofs.rising.look.Goals as goal

pub returns-clause-none : goal.returns-clause-none
returns-clause-none c = λ ok r at.
    subst (λ (q : Row). IsFlat c.args.model.now c.args.b.now c.args.m.now q) (same_place (all_rows c.args.model.now) c.args.number c.row_at-row.result r c.row_at-row.ensures.place at) (c.look_row-found.ensures.none ok)
