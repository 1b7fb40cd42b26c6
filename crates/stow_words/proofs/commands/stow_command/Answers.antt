use Rattle.std.proofs.Common.{true, refl, ap, ◌∙◌, codes, ◌≡◌}
use Rattle.std.proofs.lemmas.Result.{IfOk-weaker}
use Rattle.clap.specs.Words.{App, app_of, new_app}
use Rattle.clap.specs.Simple.{app_of_fields}
use Rattle.stow_words.specs.Command.{needs_subcommand, plan_app, check_app, show_app, make_app, cranes_app}
use Rattle.stow_words.proofs.Local.{added}
use Rattle.stow_words.proofs.commands.stow_command.Goals as goal

pub returns : goal.returns
returns c =
    let stow : app_of c.disable_help_subcommand-stow.result ≡ needs_subcommand (new_app (codes "stow")) = ap app_of_fields c.disable_help_subcommand-stow.ensures
    ∙ ap (λ (a : App). record a { top = record a.top { disable_help_subcommand = true } }) (ap app_of_fields c.subcommand_required.ensures
    ∙ ap (λ (a : App). record a { top = record a.top { subcommand_required = true } }) c.new.ensures.app) in
    let plan = added c.plan_command.result _ _ plan_app _ c.in_ok-stow.ensures c.plan_command.ensures refl stow in
    let check = added c.check_command.result _ _ check_app _ c.in_ok-stow-2.ensures c.check_command.ensures refl plan in
    let show = added c.show_command.result _ _ show_app _ c.in_ok-stow-3.ensures c.show_command.ensures refl check in
    let make = added c.make_command.result _ _ make_app _ c.in_ok-stow-4.ensures c.make_command.ensures refl show in
    IfOk-weaker c.with_subcommand-5.result _ _ (λ r h. added c.cranes_command.result _ _ cranes_app _ h c.cranes_command.ensures refl make) c.with_subcommand-5.ensures
