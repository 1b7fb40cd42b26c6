-- Kinds of containers: those that are alike, and how many of a kind load at a call.
use Rattle.std.specs.Prelude.{◌≡◌, ℕ, suc, ◌+◌, ◌-◌, ◌*◌, ◌/◌, ◌<◌, min, Bool, true, false, not, List, [], ◌∷◌, length, map, filter, cond, ◌==◌, ◌&&◌, slice_index, slice_index_or, nat_eq}
use Rattle.std.specs.Option.{option_eq}
use Rattle.std.specs.Cmp.Lexicographic.{pointwise}
use Rattle.stow_data.specs.declared.cargoes.Container.{Container}
use Rattle.stow_data.specs.declared.kind_list.Kind.{Kind}
use Rattle.stow_data.specs.Ship.{same_length}

-- a weight rounded up to the ship's step
abbrev pub rounded : ℕ → ℕ → ℕ
rounded step kg = step * ((kg + step - 1) / step)

-- what a container shows of its kind
abbrev pub kind_of : ℕ → Container → Kind
kind_of step c = record { dest = c.dest; long = c.long; reefer = c.reefer; class = c.class; kg = rounded step c.kg; first = c.load }

abbrev pub same_flag : Bool → Bool → Bool
same_flag true b = b
same_flag false b = not b

-- alike: equal destination, length, reefer, class and rounded weight
abbrev pub alike : Kind → Kind → Bool
alike a b = (a.dest == b.dest) && (same_length a.long b.long && (same_flag a.reefer b.reefer && (option_eq (pointwise nat_eq) a.class b.class && (a.kg == b.kg))))

-- two containers are of one kind
abbrev pub of_one_kind : ℕ → Container → Container → Bool
of_one_kind step c d = alike (kind_of step c) (kind_of step d)

-- the items that are like none before them, in their order
abbrev pub first_ones : {X : Type 0} → (X → X → Bool) → List X → List X
first_ones like [] = []
first_ones like (x ∷ xs) = x ∷ filter (λ y. not (like x y)) (first_ones like xs)

-- the least of a call and the calls at which the containers load
abbrev pub least_load : ℕ → List Container → ℕ
least_load call [] = call
least_load call (c ∷ cs) = least_load (min call c.load) cs

-- the kind of a container: what it shows, and the least load of those of its kind
abbrev pub kind_among : ℕ → List Container → Container → Kind
kind_among step containers c = record (kind_of step c) { first = least_load c.load (filter (of_one_kind step c) containers) }

-- the kinds of the containers: one for each container that is of the kind of none before it, in the order of these
abbrev pub kinds_of : ℕ → List Container → List Kind
kinds_of step containers = map (kind_among step containers) (first_ones (of_one_kind step) containers)

-- the number of the kind that is alike
abbrev pub number_in : List Kind → Kind → ℕ
number_in [] k = 0
number_in (x ∷ xs) k = cond (alike x k) 0 (suc (number_in xs k))

-- the kind of a container, by number
abbrev pub kind_number : ℕ → List Container → Container → ℕ
kind_number step containers c = number_in (kinds_of step containers) (kind_of step c)

-- how many containers load at call i, of those that are of kind g
abbrev pub loads_in : ℕ → List Container → List ℕ → ℕ → ℕ
loads_in i [] each g = 0
loads_in i (c ∷ cs) [] g = 0
loads_in i (c ∷ cs) (k ∷ ks) g = cond ((c.load == i) && (k == g)) 1 0 + loads_in i cs ks g

-- how many containers of kind g load at call i
abbrev pub loading : ℕ → List Container → ℕ → ℕ → ℕ
loading step containers i g = loads_in i containers (map (kind_number step containers) containers) g

-- what contracts see of the kinds of a cargo: the kinds, for each container its kind, and for each call how many of each kind load
pub record KindTable : Type 0 where
  pub list : List Kind
  pub each : List ℕ
  pub loads : List (List ℕ)

abbrev pub loads_at : KindTable → ℕ → ℕ → ℕ
loads_at k i g = slice_index (slice_index_or k.loads i []) g

-- the kinds of these containers on a ship of this weight step
pub record AreKinds (step : ℕ) (containers : List Container) (k : KindTable) : Type 0 where
  pub list : k.list ≡ kinds_of step containers
  pub each : k.each ≡ map (kind_number step containers) containers
  pub loads : (i g : ℕ) → g < length k.list → loads_at k i g ≡ loading step containers i g
