use Rattle.std.proofs.Common.{◌/◌, ◌∙◌, ap, sym, length, ℕ, List}
use Rattle.zero_one_rows.proofs.Pairs.{pairs_long}
use Rattle.zero_one_rows.proofs.membership.pair_count.Goals as goal

pub returns-clause-number : goal.returns-clause-number
returns-clause-number c = ap (λ (xs : List ℕ). length xs / 2) c.items.ensures.value ∙ sym (pairs_long c.args.chain.now)
