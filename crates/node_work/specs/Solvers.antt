-- What the fields of a solver mean.
use Rattle.std.specs.Prelude.{◌≡◌, IfSome}
use Rattle.zero_one_rows.specs.Variables.{Voyage}
use Rattle.node_work.specs.declared.solving.TableSolver.TheInside.{Inside}

abbrev pub voyage_of : Inside → Voyage
voyage_of a = a.tables.now

-- the state is one of the program
abbrev pub IsSolver : Inside → Type 0
IsSolver a = IfSome a.state (λ state. state ≡ a.tables.now)
