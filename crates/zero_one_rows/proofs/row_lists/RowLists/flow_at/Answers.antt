use Rattle.std.proofs.Common.{ℕ, subst}
use Rattle.zero_one_rows.specs.Counted.{flow_of, IsOfTwo}
use Rattle.zero_one_rows.proofs.Numbered.{two_mapped}
use Rattle.zero_one_rows.proofs.row_lists.RowLists.flow_at.Goals as goal

pub returns : goal.returns
returns c = two_mapped flow_of c.args.self.now.pairs c.args.k c.of_two-q.result.0 c.of_two-q.result.1 c.at-pair.result.now (subst (λ (n : ℕ). IsOfTwo n c.args.k c.of_two-q.result.0 c.of_two-q.result.1) c.len.ensures c.of_two-q.ensures) c.at-pair.ensures
