-- How a call begins, flag by flag.
use Rattle.std.specs.Prelude.{◌≡◌, ℕ, ◌≤◌, ◌+◌, ◌==◌, suc, zero, Bool, false, List, [], ◌∷◌, ◌++◌, length, map, take, replicate, slice_get, Some}
use Rattle.std.proofs.Common.{refl, sym, ◌∙◌, ap, arith, take_all}
use Rattle.std.proofs.lemmas.Option.{same_Some, none-some}
use Rattle.std.proofs.lemmas.List.{length-map}
use Rattle.stow_data.specs.declared.geometry.Cover.{Cover}
use Rattle.stow_data.specs.declared.cargoes.Container.{Container}
use Rattle.stow_data.specs.Ship.{Ship}
use Rattle.stow_data.specs.Shipment.{Cargo}
use Rattle.stow_data.specs.Plans.{Plan}
use Rattle.stowage_rules.specs.Plan.{IsWellFormed}
use Rattle.voyage_meaning.specs.Moves.{State}
use Rattle.voyage_meaning.specs.Berths.{Berth, BelongsTo}
use Rattle.voyage_meaning.specs.Voyage.{start}

-- flags made one by one
flags_more : {X : Type 0} (f : X → Bool) (xs : List X) (k : ℕ) (x : X) → slice_get xs k ≡ Some x → map f (take (suc k) xs) ≡ map f (take k xs) ++ f x ∷ []
flags_more f [] k x h = absurd (none-some x h)
flags_more f (y ∷ ys) zero x h = let e : y ≡ x = same_Some y x h in ap (λ z. f z ∷ []) e
flags_more f (y ∷ ys) (suc k) x h = ap (λ (zs : List Bool). f y ∷ zs) (flags_more f ys k x h)

pub loading_more : (call : ℕ) (xs : List Container) (quay pushed : List Bool) (k : ℕ) (x : Container) (b : Bool) → slice_get xs k ≡ Some x → quay ≡ map (λ (c : Container). c.load == call) (take k xs) → b ≡ (x.load == call) → pushed ≡ quay ++ b ∷ [] → pushed ≡ map (λ (c : Container). c.load == call) (take (k + 1) xs)
loading_more call xs quay pushed k x b is so_far e made =
    let more = flags_more (λ (c : Container). c.load == call) xs k x is in
    let next : k + 1 ≡ suc k = omega arith in
    made ∙ (ap (λ (q : List Bool). q ++ b ∷ []) so_far ∙ (ap (λ (z : Bool). map (λ (c : Container). c.load == call) (take k xs) ++ z ∷ []) e ∙ (sym more ∙ ap (λ (n : ℕ). map (λ (c : Container). c.load == call) (take n xs)) (sym next))))

pub loading_all : (call : ℕ) (xs : List Container) (quay : List Bool) (k : ℕ) → length xs ≤ k → quay ≡ map (λ (c : Container). c.load == call) (take k xs) → quay ≡ map (λ (c : Container). c.load == call) xs
loading_all call xs quay k l so_far = so_far ∙ ap (map (λ (c : Container). c.load == call)) (take_all k xs l)

pub all_on : (covers : List Cover) → replicate (length covers) false ≡ map (λ (_ : Cover). false) covers
all_on [] = refl
all_on (c ∷ cs) = ap (λ (zs : List Bool). false ∷ zs) (all_on cs)

pub state_is : (ship : Ship) (cargo : Cargo) (call : ℕ) (plan : Plan) (quay off : List Bool) → quay ≡ map (λ (c : Container). c.load == call) cargo.containers → off ≡ map (λ (_ : Cover). false) ship.covers → record { plan = plan; quay = quay; off = off } ≡ start ship cargo call plan
state_is ship cargo call plan quay off a b = cc

-- a call begins with lists of the ship's and the cargo's lengths
pub start_belongs : (ship : Ship) (cargo : Cargo) (call : ℕ) (plan : Plan) → IsWellFormed ship cargo plan → BelongsTo ship cargo (start ship cargo call plan)
start_belongs ship cargo call plan formed = record { each_place = formed.each_place; each_container = length-map cargo.containers (λ (c : Container). c.load == call); each_cover = length-map ship.covers (λ (_ : Cover). false); apart = formed.apart }

abbrev pub berth_of : ℕ → State → Berth
berth_of call s = record { call = call; state = s }

pub berth_is : (ship : Ship) (cargo : Cargo) (call : ℕ) (plan : Plan) (quay off : List Bool) → quay ≡ map (λ (c : Container). c.load == call) cargo.containers → off ≡ map (λ (_ : Cover). false) ship.covers → berth_of call (record { plan = plan; quay = quay; off = off }) ≡ berth_of call (start ship cargo call plan)
berth_is ship cargo call plan quay off a b = ap (berth_of call) (state_is ship cargo call plan quay off a b)
