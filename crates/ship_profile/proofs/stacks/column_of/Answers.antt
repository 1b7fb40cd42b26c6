use Rattle.std.proofs.Common.{◌≡◌, true, arith}
use Rattle.std.specs.Prelude.{slice_index}
use Rattle.std.proofs.lemmas.Grind.{common_steps}
use Rattle.toml.specs.View.{table_view}
use Rattle.ship_profile.specs.Stacks.{rises_from}
use Rattle.ship_profile.proofs.Columns.{column_from, few_in, tiers_are}
use Rattle.ship_profile.proofs.stacks.column_of.Goals as goal

pub returns-then-rises_from-clause-few : goal.returns-then-rises_from-clause-few
returns-then-rises_from-clause-few c =
    let tiers = c.in_ok-tiers.tiers in
    let rises : rises_from (slice_index tiers 0) tiers ≡ true = grind (arith, common_steps) in
    few_in tiers (column_from tiers (tiers_are c.args.index (table_view c.args.entry.now) tiers c.in_ok-tiers.ensures) rises)
