use Rattle.std.proofs.Common.{◌≡◌, ℕ, length}
use Rattle.std.specs.Prelude.{Some, slice_get}
use Rattle.plan_lifts.specs.Spread.{has}
use Rattle.plan_lifts.proofs.Spreads.{GatheredTo}
use Rattle.model_bridge.proofs.begins.named.Given as goal

abbrev pub invariant-loop-i : goal.invariant-loop-i
invariant-loop-i l = record {
  gathered : GatheredTo (λ (i c : ℕ). slice_get l.list i ≡ Some c) (has l.flags) l.i;
  each : length l.flags ≡ length l.cargo.containers;
}
