use Rattle.std.proofs.Common.{◌≡◌, ℕ, ◌≤◌, Option, Some, drop}
use Rattle.std.specs.Prelude.{slice_get}
use Rattle.stow_data.specs.Plans.{Plan}
use Rattle.stowage_rules.specs.Plan.{Holds}
use Rattle.greedy_loader.specs.Kept.{IsKept}
use Rattle.greedy_loader.specs.Quays.{IsLoaded}
use Rattle.greedy_loader.proofs.boarding.load_all.Given as goal

abbrev pub invariant-loop-c : goal.invariant-loop-c
invariant-loop-c l = record {
  kept : IsKept l.ship l.cargo l.layout;
  leads : (end : Option Plan) → IsLoaded l.ship l.cargo l.layout.plan (drop l.c-index l.quay) end → IsLoaded l.ship l.cargo l.initial.layout.plan l.quay end;
  ashore : (k d : ℕ) → l.c-index ≤ k → slice_get l.quay k ≡ Some d → (q : ℕ) → Holds l.layout.plan q d → ⊥;
}
