use Rattle.std.proofs.Common.{◌≡◌, ◌<◌, ◌==◌, ℕ, length}
use Rattle.std.specs.Prelude.{slice_index_or}
use Rattle.zero_one_rows.specs.Variables.{arrived}
use Rattle.zero_one_rows.proofs.offers.arrivals.Given as goal

abbrev pub invariant-loop-p : goal.invariant-loop-p
invariant-loop-p l = record { each : length l.keys ≡ l.p; kinds : (g p : ℕ) → g < length l.kinds.list → p < length l.keys → arrived (record { ship = l.ship; cargo = l.cargo }) g p ≡ (slice_index_or l.keys p 0 == g) }
