use Rattle.std.proofs.Common.{length}
use Rattle.search_parts.proofs.orders.+write_orders.Given as goal

abbrev pub decreases-write_orders : goal.decreases-write_orders
decreases-write_orders g l = length l.words.now
