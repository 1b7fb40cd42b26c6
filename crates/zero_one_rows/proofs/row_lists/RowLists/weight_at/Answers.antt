use Rattle.std.proofs.Common.{ℕ}
use Rattle.zero_one_rows.specs.declared.program.Row.TheVariants.{Weight}
use Rattle.zero_one_rows.proofs.Numbered.{numbered_first}
use Rattle.zero_one_rows.proofs.row_lists.RowLists.weight_at.Goals as goal

pub returns : goal.returns
returns c = numbered_first (λ (i h : ℕ). Weight i h) c.args.self.now.stacks c.args.self.now.calls c.args.k c.in_call-call.result.0 c.in_call-call.result.1 c.requires c.in_call-call.ensures.call c.in_call-call.ensures.place
