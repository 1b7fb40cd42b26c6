use Rattle.std.proofs.Common.{ℕ, List, ◌↔◌, sym, subst}
use Rattle.std.specs.Prelude.{Contains}
use Rattle.zero_one_model.specs.Indexed.{Touches}
use Rattle.partial_plan.proofs.tightening.look.Goals as goal

pub slack_among-slack-requires-clause-each : goal.slack_among-slack-requires-clause-each
slack_among-slack-requires-clause-each c = subst (λ (xs : List ℕ). (x : ℕ) → Contains xs x ↔ Touches c.args.model.now c.args.r x) (sym c.as_slice.ensures) c.in-Ok.ensures.each

pub force_by-requires-clause-each : goal.force_by-requires-clause-each
force_by-requires-clause-each c = subst (λ (xs : List ℕ). (x : ℕ) → Contains xs x ↔ Touches c.args.model.now c.args.r x) (sym c.as_slice-2.ensures) c.in-Ok.ensures.each
