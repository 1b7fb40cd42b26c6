use Rattle.std.proofs.Common.{◌≡◌, ◌++◌}
use Rattle.parallel_search.proofs.joining.append_paths.Given as goal

abbrev pub invariant-loop-path : goal.invariant-loop-path
invariant-loop-path l = l.to ++ l.path-iterator.rest.items ≡ l.fn.to ++ l.fn.from
