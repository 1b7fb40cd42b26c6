use Rattle.std.proofs.Common.{◌<◌, ◌≤◌, ◌^◌, ℕ, ℤ, List, length, sym, subst}
use Rattle.std.specs.Int.RustNames.{unsigned_abs}
use Rattle.zero_one_rows.specs.Variables.{variables}
use Rattle.crossing_pricing.specs.Gaps.{number_at}
use Rattle.dual_bound.proofs.Pricing.{has_room}
use Rattle.dual_bound.proofs.offers.choose_crossing.Goals as goal

pub gaps_by_pair-gaps-requires-clause-small : goal.gaps_by_pair-gaps-requires-clause-small
gaps_by_pair-gaps-requires-clause-small c =
    subst (λ (ds : List ℤ). (v : ℕ) → v < length (variables c.args.model.now) → unsigned_abs (number_at ds v) ≤ 2 ^ 79) (sym c.as_slice.ensures.value)
    (has_room c.args.model.now c.args.b.now c.args.costs.now c.keeps_limits.ensures.rows c.keeps_limits.ensures.vars c.keeps_limits.ensures.costs c.requires.priced).reduced
