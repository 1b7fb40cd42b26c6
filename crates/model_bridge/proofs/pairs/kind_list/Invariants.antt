use Rattle.std.proofs.Common.{◌≡◌, take}
use Rattle.model_bridge.specs.Pairs.{each_kind}
use Rattle.model_bridge.proofs.pairs.kind_list.Given as goal

abbrev pub invariant-loop-c : goal.invariant-loop-c
invariant-loop-c l = l.list ≡ take l.c (each_kind l.model)
