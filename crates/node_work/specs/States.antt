-- What the fields of a worker's state mean.
use Rattle.zero_one_rows.specs.Variables.{Voyage}
use Rattle.node_work.specs.declared.state.WorkerState.TheInside.{Inside}
use Rattle.node_work.specs.DualStates.{IsDualState}
use Rattle.node_work.specs.Positions.{IsPosition}

abbrev pub voyage_of : Inside → Voyage
voyage_of a = a.tables.now

pub record IsState (a : Inside) : Type 0 where
  pub position : IsPosition a.tables.now a.position
  pub dual_state : IsDualState a.tables.now a.dual_state
