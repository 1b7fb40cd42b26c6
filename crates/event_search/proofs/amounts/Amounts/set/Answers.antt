use Rattle.std.proofs.Common.{ℕ, List, set, ◌∙◌, ap}
use Rattle.event_search.proofs.Rounds.{set_now}
use Rattle.event_search.proofs.amounts.Amounts.set.Goals as goal

pub returns : goal.returns
returns c = set_now c.self.inside.stamped.items c.args.k c.self.inside.round c.args.amount ∙ ap (λ (xs : List ℕ). set xs c.args.k c.args.amount) c.self.view_is
