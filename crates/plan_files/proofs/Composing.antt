-- Elements made component by component, and groups made place by place.
use Rattle.std.proofs.Common.{◌≡◌, ℕ, ◌+◌, ◌<◌, List, [], ◌∷◌, ◌++◌, length, get_or, take, map, sym, ◌∙◌, ap, arith}
use Rattle.std.specs.Prelude.{flat_map}
use Rattle.std.specs.List.{range_with_len}
use Rattle.std.proofs.lemmas.List.{map_more, append-nil, append_assoc}
use Rattle.std.proofs.lemmas.List.Concat.{flat_map-append}
use Rattle.edifact_segments.specs.Pieces.{on_last}
use Rattle.edifact_segments.proofs.PieceLemmas.{on_last-push}
use Rattle.stow_data.specs.Ship.{Ship}
use Rattle.stow_data.specs.Shipment.{Cargo}
use Rattle.stow_data.proofs.Members.{range-more as range-more-one}
use Rattle.bookings.specs.declared.shipment.Bookings.{Bookings}
use Rattle.stow_data.specs.Plans.{Plan, held}
use Rattle.plan_files.specs.DepartureFile.{group_at}
use Rattle.baplie.specs.declared.parts.CellGroup.{CellGroup}

pub compose_more : {B : Type 0} (f : B → List ℕ) (xs : List B) (i : ℕ) (d : B) (front list new : List (List (List ℕ))) → i < length xs → list ≡ front ++ map f (take i xs) ∷ [] → new ≡ on_last (λ e. e ++ f (get_or xs i d) ∷ []) list → new ≡ front ++ map f (take (i + 1) xs) ∷ []
compose_more f xs i d front list new l e m =
    m ∙ ap (on_last (λ e. e ++ f (get_or xs i d) ∷ [])) e ∙ on_last-push (λ e. e ++ f (get_or xs i d) ∷ []) front (map f (take i xs)) ∙ ap (λ z. front ++ z ∷ []) (sym (map_more f xs i d l))

-- an item behind a list, in front of others
pub pushed : {X : Type 0} (x : X) (list new more : List X) → new ≡ list ++ x ∷ [] → new ++ more ≡ list ++ x ∷ more
pushed x list new more e = ap (λ z. z ++ more) e ∙ append_assoc list (x ∷ []) more

-- the groups of the places below a number
abbrev pub groups_below : Ship → Cargo → Bookings → List CellGroup → Plan → ℕ → List CellGroup
groups_below ship cargo bookings arrived plan n = flat_map (λ p. group_at ship cargo bookings arrived p (held plan p)) (range_with_len 0 n)

pub groups_more : (ship : Ship) (cargo : Cargo) (bookings : Bookings) (arrived : List CellGroup) (plan : Plan) (n : ℕ) → groups_below ship cargo bookings arrived plan (n + 1) ≡ groups_below ship cargo bookings arrived plan n ++ group_at ship cargo bookings arrived n (held plan n)
groups_more ship cargo bookings arrived plan n =
    let f = λ (p : ℕ). group_at ship cargo bookings arrived p (held plan p) in
    let z : 0 + n ≡ n = omega arith in
    ap (flat_map f) (range-more-one 0 n) ∙ flat_map-append f (range_with_len 0 n) ((0 + n) ∷ []) ∙ ap (λ (k : ℕ). groups_below ship cargo bookings arrived plan n ++ (f k ++ [])) z ∙ ap (λ (x : List CellGroup). groups_below ship cargo bookings arrived plan n ++ x) (append-nil (f n))
