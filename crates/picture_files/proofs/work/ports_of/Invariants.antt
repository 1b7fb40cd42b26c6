use Rattle.std.proofs.Common.{◌≡◌, [], take, fold}
use Rattle.bay_views.specs.Ports.{with_ports}
use Rattle.picture_files.proofs.work.ports_of.Given as goal

abbrev pub invariant-loop-view : goal.invariant-loop-view
invariant-loop-view l = l.ports ≡ fold (λ ports v. with_ports ports v.message.groups) [] (take l.view-index l.views)
