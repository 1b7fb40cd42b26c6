use Rattle.std.proofs.Common.{◌≡◌, ◌++◌, take}
use Rattle.std.specs.Prelude.{filter}
use Rattle.zero_one_model.specs.Indexed.{stands}
use Rattle.zero_one_model.proofs.model.Model.select.Given as goal

abbrev pub invariant-loop-v : goal.invariant-loop-v
invariant-loop-v l = l.list ≡ l.initial.list ++ filter (stands l.self l.r) (take l.v-index l.among)
