use Rattle.std.proofs.Common.{◌*◌, arith}
use Rattle.zero_one_rows.specs.declared.program.Row.TheVariants.{Cross}
use Rattle.zero_one_rows.specs.Counted.{per_call}
use Rattle.zero_one_rows.proofs.Numbered.{in_rest, rest_inside}
use Rattle.zero_one_rows.proofs.Parts.{shorts_long, longs_long}
use Rattle.zero_one_rows.proofs.row_lists.RowLists.cross_at.Goals as goal

pub chain_row_at-requires-2 : goal.chain_row_at-requires-2
chain_row_at-requires-2 c =
    let a = shorts_long c.args.self.now c.len.result c.len.ensures in
    let b = longs_long c.args.self.now in
    let d = rest_inside (per_call (λ p c. Cross 20 p c) c.args.self.now.short_tiers c.args.self.now.chains) (per_call (λ p c. Cross 40 p c) c.args.self.now.long_tiers c.args.self.now.chains) (c.args.self.now.short_tiers * c.len.result) c.args.k a c.if-k-short.false c.requires.inside in
    omega (arith, b, d)

pub returns : goal.returns
returns c = in_rest (per_call (λ p c. Cross 20 p c) c.args.self.now.short_tiers c.args.self.now.chains) (per_call (λ p c. Cross 40 p c) c.args.self.now.long_tiers c.args.self.now.chains) (c.args.self.now.short_tiers * c.len.result) c.args.k c.chain_row_at-2.result (shorts_long c.args.self.now c.len.result c.len.ensures) c.if-k-short.false c.chain_row_at-2.ensures
