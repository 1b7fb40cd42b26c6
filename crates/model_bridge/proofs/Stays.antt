-- The assignment of legal plans and lifted places: a variable is 1 where a container stands from its putting to its lifting.
use Rattle.std.specs.Prelude.{◌≡◌, ℕ, zero, suc, ◌<◌, Bool, false, not, Option, Some, None, ◌==◌, ◌&&◌, ◌||◌, slice_index_or, nat_lt}
use Rattle.stow_data.specs.Plans.{Plan}
use Rattle.stowage_rules.specs.Departure.{IsStowed, IsDeparture}
use Rattle.plan_lifts.specs.Least.{IsClosed}
use Rattle.zero_one_rows.specs.declared.program.Var.{Var}
use Rattle.zero_one_rows.specs.Variables.{Voyage, calls, var}
use Rattle.zero_one_rows.specs.Rows.{is_filled}
use Rattle.model_bridge.proofs.Words.{kind_at, any_below}

-- legal departures, and a closed set of lifted places at each call
pub record IsSailed (m : Voyage) (plan : ℕ → Plan) (lift : ℕ → ℕ → Bool) : Type 0 where
  pub first : plan 0 ≡ m.cargo.arrival
  pub stowed : (i : ℕ) → i < calls m → IsStowed m.ship m.cargo i (plan i)
  pub departs : (i : ℕ) → suc i < calls m → IsDeparture m.ship m.cargo (suc i) (plan (suc i))
  pub closed : (i : ℕ) → suc i < calls m → IsClosed m.ship (plan i) (plan (suc i)) (lift (suc i))

module _ (m : Voyage) (plan : ℕ → Plan) (lift : ℕ → ℕ → Bool) where
  -- what stands at the place before the call stays there
  abbrev pub kept : ℕ → ℕ → Bool
  kept zero p = false
  kept (suc i) p = is_filled (slice_index_or (plan i) p None) && not (lift (suc i) p)

  abbrev pub is_kind : ℕ → Option ℕ → Bool
  is_kind g None = false
  is_kind g (Some c) = kind_at m c == g

  -- kept at each call after i and before v
  abbrev pub passes : ℕ → ℕ → ℕ → Bool
  passes i v p = not (any_below v (λ j. nat_lt i j && not (kept j p)))

  abbrev pub assigned : Var → Bool
  assigned x = is_kind x.kind (slice_index_or (plan x.put) x.place None) && (not (kept x.put x.place) && (passes x.put x.lifted x.place && ((x.lifted == calls m) || not (kept x.lifted x.place))))

  abbrev pub assignment : ℕ → Bool
  assignment v = assigned (var m v)
