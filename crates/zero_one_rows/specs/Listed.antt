-- Each variable stands in the list of variables, and once.
use Rattle.std.specs.Prelude.{◌≡◌, ℕ, ◌<◌, ◌≤◌, true, length}
use Rattle.stow_data.specs.Ship.{places}
use Rattle.zero_one_rows.specs.declared.program.Var.{Var}
use Rattle.zero_one_rows.specs.Variables.{Voyage, calls, all_kinds, is_var, variables, var}

-- what the variable's numbers name is there
pub record IsNamed (m : Voyage) (x : Var) : Type 0 where
  pub put : x.put < calls m
  pub kind : x.kind < length (all_kinds m)
  pub lifted : x.lifted ≤ calls m
  pub place : x.place < length (places m.ship)

-- the list has variables alone, all of them, and each once
abbrev pub ListsVariables : Type 0
ListsVariables = (m : Voyage) (v : ℕ) → v < length (variables m) → (is_var m (var m v) ≡ true) × IsNamed m (var m v)

abbrev pub ListsEach : Type 0
ListsEach = (m : Voyage) (x : Var) → is_var m x ≡ true → IsNamed m x → (v : ℕ) × (v < length (variables m)) × (var m v ≡ x)

abbrev pub ListsOnce : Type 0
ListsOnce = (m : Voyage) (v w : ℕ) → v < length (variables m) → w < length (variables m) → var m v ≡ var m w → v ≡ w
