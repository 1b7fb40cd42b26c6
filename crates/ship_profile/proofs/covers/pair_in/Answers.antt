use Rattle.std.proofs.Common.{arith}
use Rattle.ship_profile.proofs.Pairs.{no_pair_below, no_pair_above}
use Rattle.ship_profile.proofs.covers.pair_in.Goals as goal

pub returns-in_default : goal.returns-in_default
returns-in_default c = no_pair_below c.args.items.now (omega arith)

pub returns-in_default-2 : goal.returns-in_default-2
returns-in_default-2 c = no_pair_above c.args.items.now (omega arith)
