use Rattle.std.proofs.Common.{◌≡◌, map, take}
use Rattle.zero_one_model.specs.Indexed.{lot}
use Rattle.zero_one_model.proofs.index.lot_keys.Given as goal

abbrev pub invariant-loop-x : goal.invariant-loop-x
invariant-loop-x l = l.keys ≡ map (λ v. lot l.kinds v.put v.kind) (take l.x-index l.vars)
