-- What the fields of a gauge mean.
use Rattle.std.specs.Prelude.{◌≡◌, length, IfSome}
use Rattle.zero_one_rows.specs.Variables.{variables}
use Rattle.dual_bound.specs.declared.gauge.Gauge.TheInside.{Inside}
use Rattle.dual_bound.specs.Gauging.{Gauging}
use Rattle.dual_bound.specs.Costs.{Priced}

abbrev pub gauging_of : Inside → Gauging
gauging_of a = record { voyage = a.model.now; box = a.b; multipliers = a.multipliers }

pub record IsGauge (a : Inside) : Type 0 where
  pub whole : length a.b ≡ length (variables a.model.now)
  pub priced : Priced a.model.now a.b a.multipliers a.costs
  pub minimizer : IfSome a.minimizer (λ f. f.voyage ≡ a.model.now)
