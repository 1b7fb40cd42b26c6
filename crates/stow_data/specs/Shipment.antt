-- What contracts see of a cargo, and the rules that it obeys.
use Rattle.std.specs.Prelude.{◌≡◌, ◌≢◌, ◌+◌, ◌*◌, ◌<◌, ◌≤◌, ℕ, Bool, ◌&&◌, nat_le, nat_lt, List, ◌∷◌, Option, length, slice_index_or, sum, All, AllPairs}
use Rattle.stow_data.specs.declared.cargoes.Container.{Container}

-- the ports of the calls from 1, the prices of a rehandle at the calls from 1 to the last but one, the containers, and for each place what stands there at arrival
pub record Cargo : Type 0 where
  pub rotation : List (List ℕ)
  pub tariff : List ℕ
  pub containers : List Container
  pub arrival : List (Option ℕ)

-- it loads at a call, or is aboard at arrival, and leaves at a later call
pub record IsShipped (calls : ℕ) (c : Container) : Type 0 where
  pub later : c.load < c.dest
  pub in_rotation : c.dest ≤ calls
  pub kg_to : c.kg ≤ 99999

-- a price for each call but the last; at most as many containers as places (3,000) and bookings (2,000)
pub record IsCargo (cargo : Cargo) : Type 0 where
  pub calls_from : 2 ≤ length cargo.rotation
  pub calls_to : length cargo.rotation ≤ 12
  pub each_priced : length cargo.tariff + 1 ≡ length cargo.rotation
  pub prices_to : All (λ price. price ≤ 1000) cargo.tariff
  pub few_containers : length cargo.containers ≤ 5000
  pub ids_differ : AllPairs (λ c d. c.id ≢ d.id) cargo.containers
  pub each_shipped : All (IsShipped (length cargo.rotation)) cargo.containers

-- the price of a rehandle at a call; nothing at the arrival and at the last call
abbrev pub price : Cargo → ℕ → ℕ
price cargo call = slice_index_or (0 ∷ cargo.tariff) call 0

-- the most that a voyage needs to cost: each container lifted once at each call but the last
abbrev pub most_cost : Cargo → ℕ
most_cost cargo = length cargo.containers * sum cargo.tariff

-- aboard after a call
pub record IsAboard (call : ℕ) (c : Container) : Type 0 where
  pub loaded : c.load ≤ call
  pub stays : call < c.dest

-- the same as a truth value
abbrev pub is_aboard : ℕ → Container → Bool
is_aboard call c = nat_le c.load call && nat_lt call c.dest
