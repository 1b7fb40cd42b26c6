use Rattle.std.proofs.Common.{◌*◌, arith}
use Rattle.zero_one_rows.proofs.Parts.{flows_long, flows_few, past_flows_few, in_flows, past_flows, past_flows_inside}
use Rattle.zero_one_rows.proofs.row_lists.RowLists.base_at.Goals as goal

pub overflow_mul-flows : goal.overflow_mul-flows
overflow_mul-flows c = let a = flows_long c.args.self.now c.len.result c.len.ensures in let b = flows_few c.args.self.now c.requires.few in omega (arith, a, b)

pub flow_at-requires-clause-inside : goal.flow_at-requires-clause-inside
flow_at-requires-clause-inside c = let a = flows_long c.args.self.now c.len.result c.len.ensures in omega (arith, a, c.if-k-flows.true)

pub flow_at-requires-clause-few : goal.flow_at-requires-clause-few
flow_at-requires-clause-few c = flows_few c.args.self.now c.requires.few

pub returns-then-k-flows : goal.returns-then-k-flows
returns-then-k-flows c = in_flows c.args.self.now c.args.k c.flow_at.result c.flow_at.ensures

pub from_starts_at-requires-clause-inside : goal.from_starts_at-requires-clause-inside
from_starts_at-requires-clause-inside c = past_flows_inside c.args.self.now (2 * c.len.result) c.args.k (flows_long c.args.self.now c.len.result c.len.ensures) c.if-k-flows.false c.requires.inside

pub from_starts_at-requires-clause-few : goal.from_starts_at-requires-clause-few
from_starts_at-requires-clause-few c = past_flows_few c.args.self.now c.requires.few

pub returns : goal.returns
returns c = past_flows c.args.self.now (2 * c.len.result) c.args.k c.from_starts_at.result (flows_long c.args.self.now c.len.result c.len.ensures) c.if-k-flows.false c.from_starts_at.ensures
