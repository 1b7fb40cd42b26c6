use Rattle.std.proofs.Common.{ap₂, ◌∙◌}
use Rattle.std.proofs.lemmas.Result.{IfOk-weaker}
use Rattle.clap.specs.Words.{with_rule}
use Rattle.stow_words.proofs.commands.cranes_command.Goals as goal

pub returns : goal.returns
returns c = IfOk-weaker c.arg-6.result _ _ (λ r h. h.shape c.option_argument.ensures.local ∙ ap₂ with_rule (c.in_ok-arg-5.ensures.shape c.needed_argument-5.ensures.local ∙ ap₂ with_rule (c.in_ok-arg-4.ensures.shape c.needed_argument-4.ensures.local ∙ ap₂ with_rule (c.in_ok-arg-3.ensures.shape c.needed_argument-3.ensures.local ∙ ap₂ with_rule (c.in_ok-arg-2.ensures.shape c.needed_argument-2.ensures.local ∙ ap₂ with_rule (c.in_ok-arg.ensures.shape c.needed_argument.ensures.local ∙ ap₂ with_rule c.new.ensures.app c.needed_argument.ensures.rule) c.needed_argument-2.ensures.rule) c.needed_argument-3.ensures.rule) c.needed_argument-4.ensures.rule) c.needed_argument-5.ensures.rule) c.option_argument.ensures.rule) c.arg-6.ensures
