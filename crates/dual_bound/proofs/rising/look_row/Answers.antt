use Rattle.std.proofs.Common.{subst}
use Rattle.zero_one_rows.specs.declared.program.Row.{Row}
use Rattle.dual_bound.specs.Rising.{IsFlat}
use Rattle.dual_bound.proofs.rising.look_row.Goals as goal

pub returns-clause-none : goal.returns-clause-none
returns-clause-none c = λ ok.
    subst (λ (q : Row). IsFlat c.args.model.now c.args.b.now c.args.m.now q) c.list_row-listed.ensures.row (c.rising_of-found.ensures.none ok)
