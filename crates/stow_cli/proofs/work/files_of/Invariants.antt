use Rattle.std.proofs.Common.{◌≡◌, ◌+◌, ◌++◌, drop}
use Rattle.stow_cli.specs.Work.{files_of}
use Rattle.stow_cli.proofs.work.files_of.Given as goal

abbrev pub invariant-loop-plan : goal.invariant-loop-plan
invariant-loop-plan l = record {
  made : l.files ++ files_of l.base l.v l.call (drop l.plan-index l.plans) ≡ files_of l.base l.v 1 l.plans;
  counted : l.call ≡ l.plan-index + 1;
}
