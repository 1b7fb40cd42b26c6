use Rattle.std.proofs.Common.{ℕ, List, ◌↔◌, sym, subst}
use Rattle.std.specs.Prelude.{Contains}
use Rattle.zero_one_model.specs.Indexed.{Touches}
use Rattle.partial_plan.proofs.full.is_violated.Goals as goal

pub slack_among-requires-clause-each : goal.slack_among-requires-clause-each
slack_among-requires-clause-each c = subst (λ (xs : List ℕ). (x : ℕ) → Contains xs x ↔ Touches c.args.model.now c.args.r.now x) (sym c.as_slice.ensures) c.in_ok-vars.ensures.each
