-- What the fields of a table of rows mean. No public clause cites this module.
use Rattle.std.specs.Prelude.{◌≡◌, IfSome}
use Rattle.zero_one_rows.specs.Variables.{Voyage}
use Rattle.dual_bound.specs.declared.table.RowTable.TheInside.{Inside}
use Rattle.dual_bound.specs.Kept.{AreRights, AreCrossing}
use Rattle.crossing_pricing.specs.Pairs.{ArePairs}

abbrev pub voyage_of : Inside → Voyage
voyage_of a = a.model.now

-- the matrix is the program's, and so is what is kept
pub record IsTable (a : Inside) : Type 0 where
  pub matrix : IfSome a.matrix (λ x. x.now ≡ a.model.now)
  pub rights : AreRights a.model.now a.rights
  pub crossing : AreCrossing a.model.now a.crossing
  pub of_pairs : IfSome a.pairs (ArePairs a.model.now)
