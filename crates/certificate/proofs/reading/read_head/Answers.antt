use Rattle.std.proofs.Common.{refl, drop, arith}
use Rattle.certificate.proofs.Stopping.{title_stops, outcome_stops, rehandles_stops, bound_stops, nodes_stops, read_one, read_two, read_three, read_four}
use Rattle.certificate.proofs.reading.read_head.Goals as goal

pub returns-in_default-clause-fault : goal.returns-in_default-clause-fault
returns-in_default-clause-fault c = (c.args.bytes.now, title_stops c.args.bytes.now (c.in_default.ensures.none refl))

pub returns-in_default-read_outcome-clause-fault : goal.returns-in_default-read_outcome-clause-fault
returns-in_default-read_outcome-clause-fault c = (
  omega arith,
  omega arith,
  drop c.in-Some.second c.args.bytes.now,
  outcome_stops c.args.bytes.now (drop c.in-Some.second c.args.bytes.now) (read_one c.args.bytes.now (drop c.in-Some.second c.args.bytes.now) c.in-Some.ensures.text) (c.in_default-read_outcome.ensures.none refl),
)

pub returns-in_default-read_rehandles-clause-fault : goal.returns-in_default-read_rehandles-clause-fault
returns-in_default-read_rehandles-clause-fault c = (
  omega arith,
  omega arith,
  drop c.in-Some-read_outcome.third c.args.bytes.now,
  rehandles_stops c.args.bytes.now (drop c.in-Some-read_outcome.third c.args.bytes.now) c.in-Some-read_outcome.outcome (read_two c.args.bytes.now (drop c.in-Some.second c.args.bytes.now) (drop c.in-Some-read_outcome.third c.args.bytes.now) c.in-Some-read_outcome.outcome c.in-Some.ensures.text c.in-Some-read_outcome.ensures.text) (c.in_default-read_rehandles.ensures.none refl),
)

pub returns-in_default-read_bound-clause-fault : goal.returns-in_default-read_bound-clause-fault
returns-in_default-read_bound-clause-fault c = (
  omega arith,
  omega arith,
  drop c.in-Some-read_rehandles.fourth c.args.bytes.now,
  bound_stops c.args.bytes.now (drop c.in-Some-read_rehandles.fourth c.args.bytes.now) c.in-Some-read_outcome.outcome c.in-Some-read_rehandles.rehandles c.in-Some-read_rehandles.ensures.fits (read_three c.args.bytes.now (drop c.in-Some.second c.args.bytes.now) (drop c.in-Some-read_outcome.third c.args.bytes.now) (drop c.in-Some-read_rehandles.fourth c.args.bytes.now) c.in-Some-read_outcome.outcome c.in-Some-read_rehandles.rehandles c.in-Some.ensures.text c.in-Some-read_outcome.ensures.text c.in-Some-read_rehandles.ensures.text) (c.in_default-read_bound.ensures.none refl),
)

pub returns-in_default-read_nodes-clause-fault : goal.returns-in_default-read_nodes-clause-fault
returns-in_default-read_nodes-clause-fault c = (
  omega arith,
  omega arith,
  drop c.in-Some-read_bound.fifth c.args.bytes.now,
  nodes_stops c.args.bytes.now (drop c.in-Some-read_bound.fifth c.args.bytes.now) c.in-Some-read_outcome.outcome c.in-Some-read_rehandles.rehandles c.in-Some-read_rehandles.ensures.fits c.in-Some-read_bound.bound c.in-Some-read_bound.ensures.small (read_four c.args.bytes.now (drop c.in-Some.second c.args.bytes.now) (drop c.in-Some-read_outcome.third c.args.bytes.now) (drop c.in-Some-read_rehandles.fourth c.args.bytes.now) (drop c.in-Some-read_bound.fifth c.args.bytes.now) c.in-Some-read_outcome.outcome c.in-Some-read_rehandles.rehandles c.in-Some-read_bound.bound c.in-Some.ensures.text c.in-Some-read_outcome.ensures.text c.in-Some-read_rehandles.ensures.text c.in-Some-read_bound.ensures.text) (c.in_default-read_nodes.ensures.none refl),
)
