use Rattle.std.proofs.Common.{◌≡◌, ◌+◌, ◌-◌, ◌++◌}
use Rattle.stow_gen.specs.Bookings.{containers_text}
use Rattle.stow_gen.proofs.drawn_bookings.write_containers.Given as goal

-- what is written, and what is still to come from this state on
abbrev pub invariant-loop-index : goal.invariant-loop-index
invariant-loop-index l = l.out ++ containers_text (120 - l.index) (l.index + 1) l.state ≡ l.fn.out ++ containers_text 120 1 l.fn.start
