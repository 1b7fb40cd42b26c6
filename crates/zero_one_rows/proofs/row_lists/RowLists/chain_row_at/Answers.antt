use Rattle.std.proofs.Common.{◌∙◌, ◌+◌, ◌/◌, ◌%◌, ℕ, List, ap, sym, Some}
use Rattle.zero_one_rows.specs.declared.program.Row.TheVariants.{Cross}
use Rattle.zero_one_rows.proofs.Numbered.{numbered_row}
use Rattle.zero_one_rows.proofs.row_lists.RowLists.chain_row_at.Goals as goal

pub returns : goal.returns
returns c = numbered_row (λ (p : ℕ) (d : List ℕ). Cross c.args.foot p d) c.args.self.now.chains c.args.tiers c.args.k c.in_call-price.result.0 c.in_call-price.result.1 c.of.result c.requires (c.in_call-price.ensures.call ∙ ap (λ (n : ℕ). c.args.k / n + 1) c.len.ensures) (c.in_call-price.ensures.place ∙ ap (λ (n : ℕ). c.args.k % n) c.len.ensures) (c.at.ensures ∙ ap (λ (d : List ℕ). Some d) (sym (c.of.ensures ∙ c.items.ensures.value)))
