use Rattle.std.proofs.Common.{◌≡◌, ◌++◌, map, take}
use Rattle.zero_one_rows.proofs.row_lists.push_separation.Given as goal

abbrev pub invariant-loop-pair : goal.invariant-loop-pair
invariant-loop-pair l = l.list ≡ l.initial.list ++ map (λ p. record { index = l.index; first = p.first; second = p.second }) (take l.pair-index l.pairs)
