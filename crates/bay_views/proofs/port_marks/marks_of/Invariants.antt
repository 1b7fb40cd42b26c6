use Rattle.std.proofs.Common.{◌≡◌, take}
use Rattle.bay_views.specs.PortMarks.{marks_of}
use Rattle.bay_views.proofs.port_marks.marks_of.Given as goal

abbrev pub invariant-loop-port : goal.invariant-loop-port
invariant-loop-port l = l.marks ≡ marks_of (take l.port-index l.ports)
