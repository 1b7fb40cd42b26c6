-- The containers of a cargo by their ids.
use Rattle.std.specs.Prelude.{◌≡◌, ℕ, List, Option, Some, position, slice_get, MatchOption}
use Rattle.std.specs.Str.{bytes_eq}
use Rattle.std.specs.BTreeMap.{BTreeMap, get}
use Rattle.stow_data.specs.declared.cargoes.Container.{Container}
use Rattle.bookings.specs.Ids.{name_order}

-- the number of the first container with the id
unfoldable pub number_of : List ℕ → List Container → Option ℕ
number_of id containers = position (λ c. bytes_eq c.id id) containers

-- container n has the id
pub record HasId (containers : List Container) (id : List ℕ) (n : ℕ) : Type 0 where
  pub container : Container
  pub is_container : slice_get containers n ≡ Some container
  pub same_id : container.id ≡ id

-- the table leads from an id to a container that has it, if there is one
pub record IsIdTable (containers : List Container) (table : BTreeMap (List ℕ) ℕ) : Type 0 where
  pub leads : (id : List ℕ) → MatchOption (get name_order table id) ((n : ℕ) → HasId containers id n → ⊥) (λ n. HasId containers id n)
