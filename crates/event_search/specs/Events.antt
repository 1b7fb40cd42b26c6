-- Events of the search in the words of the search machine.
use Rattle.zero_one_rows.specs.declared.program.Row.{Row}
use Rattle.zero_one_rows.specs.Variables.{Voyage}
use Rattle.certificate.specs.Entries.{entry_of}
use Rattle.search_core.specs.Machine as machine
use Rattle.event_search.specs.declared.events.Event.{Event}
use Rattle.event_search.specs.declared.events.Event.TheVariants.{Push, Pop, Steal, Load, Offer, Draw, Close, Branch}

-- the event, with its record over the program's numbered variables
abbrev pub event_of : Voyage → Event → machine.Event Row
event_of m (Push i) = machine.Push i
event_of m (Pop i) = machine.Pop i
event_of m (Steal i victim) = machine.Steal i victim
event_of m (Load i) = machine.Load i
event_of m (Offer i r) = machine.Offer i (entry_of m r)
event_of m (Draw i) = machine.Draw i
event_of m (Close i r) = machine.Close i (entry_of m r)
event_of m (Branch i r) = machine.Divide i (entry_of m r)
