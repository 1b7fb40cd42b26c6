use Rattle.std.proofs.Common.{map, take}
use Rattle.plan_files.specs.Shown.{ShowAll, shown_by}
use Rattle.plan_files.proofs.checking.shown_plans.Given as goal

abbrev pub invariant-loop-index : goal.invariant-loop-index
invariant-loop-index l = ShowAll l.ship l.cargo 1 (map shown_by (take l.index l.messages)) l.plans
