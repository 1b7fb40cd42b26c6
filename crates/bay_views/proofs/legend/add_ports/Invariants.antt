use Rattle.std.proofs.Common.{◌≡◌, take, fold}
use Rattle.bay_views.specs.Ports.{with_facts}
use Rattle.bay_views.proofs.legend.add_ports.Given as goal

abbrev pub invariant-loop-group : goal.invariant-loop-group
invariant-loop-group l = l.ports ≡ fold (λ ps g. with_facts ps g.facts) l.fn.ports (take l.group-index l.groups)
