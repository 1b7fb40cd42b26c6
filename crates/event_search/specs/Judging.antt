-- What contracts see of a judge.
use Rattle.std.specs.Prelude.{ℕ}
use Rattle.zero_one_rows.specs.Variables.{Voyage}

-- the voyage whose program it judges by, and for how many ended nodes it has room
pub record Judging : Type 0 where
  pub voyage : Voyage
  pub room : ℕ
