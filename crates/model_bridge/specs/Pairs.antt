-- Variables that are 1, and the containers that they carry.
use Rattle.std.specs.Prelude.{◌≡◌, ℕ, ◌<◌, Bool, false, not, ◌==◌, ◌&&◌, List, [], ◌∷◌, ◌++◌, Option, Some, None, cond, filter, map, length, slice_set, slice_index_or, replicate}
use Rattle.std.specs.List.{range_with_len, zip}
use Rattle.std.specs.List.Sorted.{IsPermutation, IsNonDecreasingBy}
use Rattle.stow_data.specs.Plans.{Plan, container_at, held as held_in}
use Rattle.stow_data.specs.Kinds.{kind_number}
use Rattle.stow_data.specs.Ship.{places}
use Rattle.proof_trees.specs.Boxes.{Box, at}
use Rattle.zero_one_rows.specs.Variables.{Voyage, variables, var}

abbrev pub is_one : Option Bool → Bool
is_one None = false
is_one (Some y) = y

-- the assignment of a box
abbrev pub ones : Box → ℕ → Bool
ones b v = is_one (at b v)

-- pairs of a variable and a container, by number
abbrev pub Pairs : Type 0
Pairs = List (ℕ × ℕ)

-- a variable with what stands at a place, if something does
abbrev pub pair_with : ℕ → Option ℕ → Pairs
pair_with v None = []
pair_with v (Some c) = (v, c) ∷ []

module _ (m : Voyage) where
  -- the numbers of the variables that are 1
  abbrev pub listed_ones : Box → List ℕ
  listed_ones b = filter (ones b) (range_with_len 0 (length (variables m)))

  abbrev pub is_variable : ℕ → Type 0
  is_variable v = v < length (variables m)

  -- a variable that is put at call 0, with what stands at its place at arrival
  abbrev pub pair_at_arrival : ℕ → Pairs
  pair_at_arrival v = cond ((var m v).put == 0) (pair_with v (held_in m.cargo.arrival (var m v).place)) []

  -- the variable is put, is lifted, at the call
  abbrev pub is_put : ℕ → ℕ → Bool
  is_put j v = (var m v).put == j

  abbrev pub is_lifted : ℕ → ℕ → Bool
  is_lifted j v = (var m v).lifted == j

  -- the pair's variable isn't lifted at the call
  abbrev pub stays : ℕ → ℕ × ℕ → Bool
  stays j e = not (is_lifted j e.0)

  -- the pair's variable is lifted at the call, and the container doesn't leave there
  abbrev pub is_freed : ℕ → ℕ × ℕ → Bool
  is_freed j e = is_lifted j e.0 && not ((container_at m.cargo e.1).dest == j)

  -- the containers of such pairs
  abbrev pub freed : ℕ → Pairs → List ℕ
  freed j held = map (λ e. e.1) (filter (is_freed j) held)

  -- the container loads at the call
  abbrev pub loads : ℕ → ℕ → Bool
  loads j c = (container_at m.cargo c).load == j

  abbrev pub loading_at : ℕ → List ℕ
  loading_at j = filter (loads j) (range_with_len 0 (length m.cargo.containers))

  abbrev pub kind_of_var : ℕ → ℕ
  kind_of_var v = (var m v).kind

  -- the kind of each container
  abbrev pub each_kind : List ℕ
  each_kind = map (kind_number m.ship.weight_step m.cargo.containers) m.cargo.containers

  -- the pairs after a call: those that stay, and the variables that are put with the containers to be put, both by rising kind
  pub record IsNextHeld (j : ℕ) (vars : List ℕ) (held next : Pairs) : Type 0 where
    pub put : List ℕ
    pub boxes : List ℕ
    pub all_put : IsPermutation (filter (is_put j) vars) put
    pub put_up : IsNonDecreasingBy kind_of_var put
    pub all_boxes : IsPermutation (freed j held ++ loading_at j) boxes
    pub boxes_up : IsNonDecreasingBy (λ c. slice_index_or each_kind c 0) boxes
    pub is : next ≡ filter (stays j) held ++ zip put boxes

  -- the plan on which each pair's container stands at its variable's place; the first pair of a place counts
  abbrev pub plan_of_pairs : Pairs → Plan
  plan_of_pairs [] = replicate (length (places m.ship)) None
  plan_of_pairs (e ∷ es) = slice_set (plan_of_pairs es) (var m e.0).place (Some e.1)
