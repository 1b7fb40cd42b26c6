use Rattle.std.proofs.Common.{◌≡◌, cond}
use Rattle.std.specs.Prelude.{map, slice_index_or}
use Rattle.std.specs.List.{range_with_len}
use Rattle.stow_data.specs.Plans.{held}
use Rattle.plan_lifts.specs.Spread.{has}
use Rattle.model_bridge.specs.Stays.{is_left}
use Rattle.model_bridge.proofs.begins.begins_after.Given as goal

abbrev pub invariant-loop-p : goal.invariant-loop-p
invariant-loop-p l = l.next ≡ map (λ p. cond (is_left (has l.lifted) (held l.before p)) (slice_index_or l.began p 0) l.call) (range_with_len 0 l.p)
