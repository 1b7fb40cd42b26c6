use Rattle.std.proofs.Common.{length}
use Rattle.bound_checker.proofs.holders.Holders.look_again.Given as goal

abbrev pub decreases-loop-highest : goal.decreases-loop-highest
decreases-loop-highest l = length l.self.heavy.items
