-- A certificate's records as a proof tree over the rows of a voyage's program.
use Rattle.std.specs.Prelude.{ℕ, ◌≤◌, List, map}
use Rattle.zero_one_rows.specs.Variables.{Voyage}
use Rattle.zero_one_rows.specs.Rows.{whole}
use Rattle.certificate.specs.declared.tree.Record.{Record}
use Rattle.certificate.specs.Entries.{same_row, entry_of}
use Rattle.proof_trees.specs.Trees as trees
use Rattle.search_core.specs.Journals.{Settled}

-- the records are a tree that proves the bound over the program's rows
abbrev pub ProvesBound : Voyage → List Record → ℕ → Type 0
ProvesBound m records bound = trees.Proves same_row (whole m) (map (entry_of m) records) bound

-- the records are a tree that proves the bound, but for the nodes that were left open
abbrev pub SettlesBound : Voyage → List Record → ℕ → Type 0
SettlesBound m records bound = Settled same_row (whole m) (map (entry_of m) records) bound

-- the greatest number up to `most` that the records prove
pub record IsBestBound (m : Voyage) (records : List Record) (most best : ℕ) : Type 0 where
  pub proves : ProvesBound m records best
  pub low : best ≤ most
  pub greatest : (bound : ℕ) → bound ≤ most → ProvesBound m records bound → bound ≤ best
