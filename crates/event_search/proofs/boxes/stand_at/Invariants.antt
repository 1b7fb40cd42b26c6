use Rattle.std.proofs.Common.{◌≡◌, length, take}
use Rattle.zero_one_rows.specs.Variables.{variables}
use Rattle.event_search.specs.Standing.{standing}
use Rattle.event_search.proofs.boxes.stand_at.Given as goal

abbrev pub invariant-loop-step : goal.invariant-loop-step
invariant-loop-step l = record {
  len : length l.b ≡ length (variables l.model);
  here : l.b ≡ (standing l.model l.ended (take l.step-index l.way)).box;
}
