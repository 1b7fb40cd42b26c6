use Rattle.std.proofs.Common.{ap₂, ◌∙◌}
use Rattle.std.proofs.lemmas.Result.{IfOk-weaker}
use Rattle.clap.specs.Words.{with_rule}
use Rattle.stow_words.proofs.commands.show_command.Goals as goal

pub returns : goal.returns
returns c = IfOk-weaker c.arg.result _ _ (λ r h. h.shape c.needed_argument.ensures.local ∙ ap₂ with_rule c.new.ensures.app c.needed_argument.ensures.rule) c.arg.ensures
