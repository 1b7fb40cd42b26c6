use Rattle.std.proofs.Common.{◌≡◌, ◌<◌, All, length, subst}
use Rattle.zero_one_rows.specs.Variables.{variables}
use Rattle.partial_plan.specs.Kept.{Kept}
use Rattle.partial_plan.proofs.kept.KeptBox.is_whole.Goals as goal

pub returns-clause-whole : goal.returns-clause-whole
returns-clause-whole c = subst (λ (k : Kept). length k.known ≡ length (variables k.voyage)) c.self.view_is c.self.invariant.state.holds.whole

pub returns-clause-inside : goal.returns-clause-inside
returns-clause-inside c = subst (λ (k : Kept). All (λ v. v < length k.known) k.undo) c.self.view_is c.self.invariant.state.trails.inside
