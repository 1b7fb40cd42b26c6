use Rattle.std.proofs.Common.{◌∙◌, ◌+◌, ◌/◌, ◌%◌, ℕ, ap}
use Rattle.zero_one_rows.specs.declared.program.Row.TheVariants.{Twenty}
use Rattle.zero_one_rows.proofs.Numbered.{numbered_row}
use Rattle.zero_one_rows.proofs.row_lists.RowLists.twenty_at.Goals as goal

pub returns : goal.returns
returns c = numbered_row (λ (i h : ℕ). Twenty i h) c.args.self.now.uppers c.args.self.now.calls c.args.k c.in_call-call.result.0 c.in_call-call.result.1 c.at.result.now c.requires (c.in_call-call.ensures.call ∙ ap (λ (n : ℕ). c.args.k / n + 1) c.len.ensures) (c.in_call-call.ensures.place ∙ ap (λ (n : ℕ). c.args.k % n) c.len.ensures) c.at.ensures
