use Rattle.std.proofs.Common.{◌≡◌, ◌+◌, drop}
use Rattle.std.specs.List.{position_or_len}
use Rattle.bay_views.specs.Ports.{same_text}
use Rattle.bay_views.proofs.legend.number_of.Given as goal

abbrev pub invariant-loop-place : goal.invariant-loop-place
invariant-loop-place l = l.place + position_or_len (λ p. same_text p l.name) (drop l.place l.ports) ≡ position_or_len (λ p. same_text p l.name) l.ports
