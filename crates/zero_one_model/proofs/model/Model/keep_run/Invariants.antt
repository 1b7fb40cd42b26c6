use Rattle.std.proofs.Common.{◌≡◌, ◌++◌}
use Rattle.std.specs.Prelude.{filter, map}
use Rattle.std.specs.List.{range_with_len}
use Rattle.zero_one_model.specs.Runs.{at_call, meets}
use Rattle.zero_one_model.proofs.model.Model.keep_run.Given as goal

abbrev pub ghost-calls_of_run : goal.ghost-calls_of_run
ghost-calls_of_run a = a.self.now

abbrev pub invariant-loop-k : goal.invariant-loop-k
invariant-loop-k l = l.list ≡ l.initial.list ++ filter (meets l.self l.x) (map (at_call l.r) (range_with_len l.first l.k))
