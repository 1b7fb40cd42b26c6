use Rattle.std.proofs.Common.{sym, subst}
use Rattle.model_bridge.specs.Laws.{IsProblem}
use Rattle.stow_cli.proofs.Works.{problem_of}
use Rattle.stow_cli.proofs.checking.check_voyage.Goals as goal

pub build-requires : goal.build-requires
build-requires g c = record { arrival = c.requires.settled.1.well_formed.each_place }

pub check_cert-answer-requires-clause-problem : goal.check_cert-answer-requires-clause-problem
check_cert-answer-requires-clause-problem g c = subst IsProblem (sym c.in-Ok.ensures.0) (problem_of c.args.v.now c.requires)
