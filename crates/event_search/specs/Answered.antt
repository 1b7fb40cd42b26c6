-- Answers to events as they are given.
use Rattle.std.specs.Prelude.{◌≡◌, Result, Ok, Err}
use Rattle.search_core.specs.declared.refused.Refused.{Refused}
use Rattle.event_search.specs.declared.events.Event.{Event}
use Rattle.event_search.specs.Events.{event_of}
use Rattle.event_search.specs.Cores.{Course, IsAnswer}

-- a refusal with the event
abbrev pub GivesBack : Result (Unit {0}) Refused → Event → Result (Unit {0}) (Refused × Event) → Type 0
GivesBack answer event (Ok u) = answer ≡ Ok tt
GivesBack answer event (Err (cause, back)) = (answer ≡ Err cause) × (back ≡ event)

-- The machine accepts the event, and room for one event is used at most; or it refuses it with this cause, all stays as it was, and the event comes back.
abbrev pub IsAnswerOf : Event → Course → Course → Result (Unit {0}) (Refused × Event) → Type 0
IsAnswerOf event before after (Ok u) = IsAnswer before (event_of before.voyage event) after (Ok tt)
IsAnswerOf event before after (Err (cause, back)) = IsAnswer before (event_of before.voyage event) after (Err cause) × (back ≡ event)
