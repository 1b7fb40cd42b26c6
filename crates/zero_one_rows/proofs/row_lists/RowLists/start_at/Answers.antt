use Rattle.std.proofs.Common.{ℕ, subst}
use Rattle.zero_one_rows.specs.declared.program.Row.TheVariants.{Start}
use Rattle.zero_one_rows.specs.Counted.{IsOfTwo}
use Rattle.zero_one_rows.proofs.Numbered.{two_mapped}
use Rattle.zero_one_rows.proofs.row_lists.RowLists.start_at.Goals as goal

pub returns : goal.returns
returns c = two_mapped (λ (q p : ℕ). Start q p) c.args.self.now.filled c.args.k c.of_two-q.result.0 c.of_two-q.result.1 c.at.result.now (subst (λ (n : ℕ). IsOfTwo n c.args.k c.of_two-q.result.0 c.of_two-q.result.1) c.len.ensures c.of_two-q.ensures) c.at.ensures
