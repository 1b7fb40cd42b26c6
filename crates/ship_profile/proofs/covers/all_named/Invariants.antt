use Rattle.std.proofs.Common.{◌≡◌, ◌++◌, [], drop}
use Rattle.ship_profile.specs.Covers.{all_named}
use Rattle.ship_profile.proofs.covers.all_named.Given as goal

abbrev pub invariant-loop-pair : goal.invariant-loop-pair
invariant-loop-pair l = record { joined : l.named ≡ l.initial.named ++ l.found; same : all_named l.part l.stacks l.index l.initial.named l.found (drop l.pair-index l.pairs) ≡ all_named l.part l.stacks l.index l.initial.named [] l.pairs }
