use Rattle.std.proofs.Common.{arith}
use Rattle.toml_values.proofs.ArrayLaws.{count_is}
use Rattle.toml_values.proofs.of_values.count_of.Goals as goal

pub returns : goal.returns
returns c = omega (arith, count_is c.args.array.now.items)
