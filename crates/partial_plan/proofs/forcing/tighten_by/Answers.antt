use Rattle.std.proofs.Common.{ℕ, List, ◌↔◌, sym, subst}
use Rattle.std.specs.Prelude.{Contains}
use Rattle.zero_one_model.specs.Indexed.{Touches}
use Rattle.partial_plan.proofs.forcing.tighten_by.Goals as goal

pub slack_among-slack-requires-clause-each : goal.slack_among-slack-requires-clause-each
slack_among-slack-requires-clause-each c = subst (λ (xs : List ℕ). (x : ℕ) → Contains xs x ↔ Touches c.args.model.now c.args.r.now x) (sym c.as_slice.ensures) c.in_ok-vars.ensures.each

pub note_all-requires-clause-each : goal.note_all-requires-clause-each
note_all-requires-clause-each c = subst (λ (xs : List ℕ). (x : ℕ) → Contains xs x ↔ Touches c.args.model.now c.args.r.now x) (sym c.as_slice-then-slack-ge0.ensures) c.in_ok-vars.ensures.each
