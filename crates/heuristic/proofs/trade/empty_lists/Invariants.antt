use Rattle.std.proofs.Common.{◌≡◌, ◌<◌, All, length}
use Rattle.heuristic.proofs.trade.empty_lists.Given as goal

abbrev pub invariant-loop-call : goal.invariant-loop-call
invariant-loop-call l = (length l.lists.items ≡ l._call) × All (λ list. All (λ g. g < l.fn.sizes.kinds) list.items) l.lists.items
