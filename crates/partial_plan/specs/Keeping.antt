-- What the fields of a kept box mean.
use Rattle.partial_plan.specs.declared.kept.KeptBox.TheInside.{Inside}
use Rattle.partial_plan.specs.Kept.{Kept}
use Rattle.partial_plan.specs.PropagationState.{IsState, Rests}

abbrev pub kept_of : Inside → Kept
kept_of a = record { voyage = a.matrix.now; known = a.state.b; undo = a.state.undo.items }

pub record IsKept (a : Inside) : Type 0 where
  pub state : IsState a.matrix.now a.state
  pub rests : Rests a.matrix.now a.state.b a.state.slacks
