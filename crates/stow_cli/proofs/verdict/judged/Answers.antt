use Rattle.std.proofs.Common.{subst}
use Rattle.zero_one_rows.specs.Variables.{Voyage}
use Rattle.voyage_files.specs.Judged.{Bounds, Holds}
use Rattle.stow_cli.proofs.verdict.judged.Goals as goal

pub returns-in_ok-confirmation-in-Ok : goal.returns-in_ok-confirmation-in-Ok
returns-in_ok-confirmation-in-Ok c = record {
  holds = subst (λ (m : Voyage). Holds m c.args.head.now c.args.tree.now c.args.texts.now) c.requires.voyage c.in-Ok.ensures.holds;
  bounds = subst (λ (m : Voyage). Bounds m c.args.head.now) c.requires.voyage c.in-Ok.ensures.bounds;
  no_files = c.in_ok-confirmation-in-Ok.ensures.files;
  report = c.in_ok-confirmation-in-Ok.ensures.report;
  finding = c.in_ok-confirmation-in-Ok.ensures.finding;
}
