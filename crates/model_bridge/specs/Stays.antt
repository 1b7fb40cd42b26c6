-- Stays: what stands at a place from its putting to its lifting is one variable.
use Rattle.std.specs.Prelude.{ℕ, zero, suc, ◌-◌, ◌<◌, ◌≤◌, Bool, false, not, List, [], ◌∷◌, Option, Some, None, cond, ◌==◌, ◌&&◌, ◌||◌, slice_index_or, length, map, nat_eq}
use Rattle.std.specs.List.{range_with_len, list_any}
use Rattle.stow_data.specs.Ship.{Ship, places}
use Rattle.stow_data.specs.Shipment.{Cargo}
use Rattle.stow_data.specs.Plans.{Plan, held}
use Rattle.stowage_rules.specs.Plan.{Holds}
use Rattle.zero_one_rows.specs.declared.program.Var.{Var}

-- the plan after a call; after call 0 the arrival
abbrev pub plan_after : Cargo → List Plan → ℕ → Plan
plan_after cargo plans i = slice_index_or (cargo.arrival ∷ plans) i []

-- what stands there isn't lifted
abbrev pub is_left : (ℕ → Bool) → Option ℕ → Bool
is_left lifted None = false
is_left lifted (Some c) = not (lifted c)

-- a container is lifted at call i + 1, by the lists of calls 1, 2 ..
abbrev pub is_lifted : List (List ℕ) → ℕ → ℕ → Bool
is_lifted lists i c = list_any (nat_eq c) (slice_index_or lists i [])

-- the call at which the stay at a place, after a call, began
abbrev pub began : Cargo → List Plan → List (List ℕ) → ℕ → ℕ → ℕ
began cargo plans lists zero p = zero
began cargo plans lists (suc i) p = cond (is_left (is_lifted lists i) (held (plan_after cargo plans i) p)) (began cargo plans lists i p) (suc i)

-- the same for each place; for each call
abbrev pub begins : Ship → Cargo → List Plan → List (List ℕ) → ℕ → List ℕ
begins ship cargo plans lists i = map (began cargo plans lists i) (range_with_len 0 (length (places ship)))

abbrev pub begin_table : Ship → Cargo → List Plan → List (List ℕ) → ℕ → List (List ℕ)
begin_table ship cargo plans lists n = map (begins ship cargo plans lists) (range_with_len 0 n)

abbrev pub begin_in : List (List ℕ) → ℕ → ℕ → ℕ
begin_in table i p = slice_index_or (slice_index_or table i []) p 0

-- what stands there is of the kind
abbrev pub is_of : (ℕ → ℕ) → ℕ → Option ℕ → Bool
is_of kind_of g None = false
is_of kind_of g (Some c) = kind_of c == g

-- the run of departures begins where the variable is put, and ends where it is lifted, or with the rotation
abbrev pub is_run : ℕ → (ℕ → ℕ → ℕ) → Var → Bool
is_run calls began x = (began (x.lifted - 1) x.place == x.put) && ((x.lifted == calls) || (began x.lifted x.place == x.lifted))

-- the variable is a stay of a container of its kind
abbrev pub is_stay : Cargo → List ℕ → List Plan → ℕ → (ℕ → ℕ → ℕ) → Var → Bool
is_stay cargo kinds plans calls began x = is_run calls began x && is_of (λ c. slice_index_or kinds c 0) x.kind (held (plan_after cargo plans x.put) x.place)

-- of a variable: the plans and the table reach to its calls and its place, and the kinds to the containers
pub record IsWithin (cargo : Cargo) (kinds : List ℕ) (plans : List Plan) (table : List (List ℕ)) (x : Var) : Type 0 where
  pub order : x.put < x.lifted
  pub put : x.put ≤ length plans
  pub lifted : x.lifted ≤ length table
  pub in_table : (i : ℕ) → i < length table → x.place < length (slice_index_or table i [])
  pub in_plan : x.place < length (plan_after cargo plans x.put)
  pub of_kind : (c : ℕ) → Holds (plan_after cargo plans x.put) x.place c → c < length kinds
