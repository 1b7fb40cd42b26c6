-- The places that kinds may take, and the kinds that stand at places at arrival.
use Rattle.std.proofs.Common.{◌≡◌, ℕ, zero, suc, ◌<◌, ◌≤◌, ◌+◌, Bool, true, false, cond, List, [], ◌∷◌, ◌++◌, ◌==◌, arith, refl, sym, ◌∙◌, ap, length, Some, min, subst}
use Rattle.std.specs.Prelude.{filter, map, slice_get, slice_index_or, nat_le, IsTrue, ◌↔◌}
use Rattle.std.specs.List.{range_with_len}
use Rattle.std.proofs.lemmas.Bool.{ne_eqb}
use Rattle.std.proofs.lemmas.Option.{slice_get-get_or, same_Some}
use Rattle.std.proofs.lemmas.List.{get_or_past}
use Rattle.std.proofs.lemmas.List.FromFn.{length-range_with_len}
use Rattle.stow_data.specs.declared.geometry.Length.{Length}
use Rattle.stow_data.specs.declared.kind_list.Kind.{Kind}
use Rattle.stow_data.specs.declared.cargoes.Container.{Container}
use Rattle.stow_data.specs.Ship.{Ship, places, FitsAt, fits}
use Rattle.stow_data.specs.Shipment.{Cargo, IsCargo}
use Rattle.stow_data.specs.Kinds.{alike, kinds_of, kind_of, number_in, kind_number}
use Rattle.stow_data.proofs.KindJoins.{with_kind, kinds_after, kinds_joined}
use Rattle.stow_data.proofs.Fitting.{fits_value}
use Rattle.stow_data.proofs.Members.{range_at}
use Rattle.stow_data.proofs.Distinct.{Each}
use Rattle.zero_one_rows.specs.Variables.{Voyage, kind, arrived}
use Rattle.stow_data.specs.Plans.{no_place, no_container}
use Rattle.zero_one_rows.specs.Grouping.{IsGrouped}
use Rattle.zero_one_rows.specs.Offering.{offered, may_put, arrived_at}
use Rattle.zero_one_rows.proofs.Filters.{filter_more, filter_same, filter_none, length_filter}

abbrev fits_at : Ship → Length → Bool → ℕ → Bool
fits_at ship long reefer s = fits (slice_index_or (places ship) s no_place) long reefer

pub suited_more : (ship : Ship) (long : Length) (reefer wanted : Bool) (p : ℕ) (old new : List ℕ) → p < length (places ship) → (IsTrue wanted ↔ FitsAt ship p long reefer) → new ≡ old ++ cond wanted (p ∷ []) [] → old ≡ filter (fits_at ship long reefer) (range_with_len 0 p) → new ≡ filter (fits_at ship long reefer) (range_with_len 0 (p + 1))
suited_more ship long reefer wanted p old new inside says n h =
    let w : wanted ≡ fits_at ship long reefer p = fits_value ship p (slice_index_or (places ship) p no_place) long reefer wanted (slice_get-get_or (places ship) p no_place inside) says in
    n ∙ ap (λ (xs : List ℕ). xs ++ cond wanted (p ∷ []) []) h
    ∙ ap (λ (b : Bool). filter (fits_at ship long reefer) (range_with_len 0 p) ++ cond b (p ∷ []) []) w
    ∙ sym (filter_more (fits_at ship long reefer) p)

-- at no call before its first is a kind put
pub offered_none : (m : Voyage) (i g : ℕ) → (i ≡ 0 → ⊥) → i < (kind m g).first → [] ≡ offered m i g
offered_none m i g n l =
    let zero_not : (i == 0) ≡ false = ne_eqb i 0 n in
    let early : nat_le (kind m g).first i ≡ false = grind arith in
    sym (filter_same (may_put m i g) (λ s. false) (range_with_len 0 (length (places m.ship))) (λ s k. rw (zero_not, early) refl) ∙ filter_none (range_with_len 0 (length (places m.ship))))

pub few_offered : (m : Voyage) (i g : ℕ) → length (places m.ship) ≤ 3000 → length (offered m i g) ≤ 3000
few_offered m i g h =
    let a = length_filter (may_put m i g) (range_with_len 0 (length (places m.ship))) in
    let b = length-range_with_len 0 (length (places m.ship)) in
    omega (arith, a, b, h)

-- the places of a kind at arrival, by the keys of the places
pub arrived_grouped : (m : Voyage) (keys : List ℕ) (n g : ℕ) (groups : List (List ℕ)) → IsGrouped keys n groups → g < n → length keys ≡ length (places m.ship) → ((p : ℕ) → p < length keys → arrived m g p ≡ (slice_index_or keys p 0 == g)) → slice_index_or groups g [] ≡ arrived_at m g
arrived_grouped m keys n g groups h l e k =
    h.of g l ∙ filter_same (λ v. slice_index_or keys v 0 == g) (arrived m g) (range_with_len 0 (length keys)) (λ p r. let q = range_at 0 (length keys) p r in sym (k p (omega (arith, q.1))))
    ∙ ap (λ (z : ℕ). filter (arrived m g) (range_with_len 0 z)) e

-- a kind's destination is that of a container
with_kind_later : (ks : List Kind) (k : Kind) → Each (λ (z : Kind). 0 < z.dest) ks → 0 < k.dest → Each (λ (z : Kind). 0 < z.dest) (with_kind ks k)
with_kind_later [] k h l = (l, tt)
with_kind_later (x ∷ xs) k h l = go (alike x k) (with_kind_later xs k h.1 l)
  where
    go : (b : Bool) → Each (λ (z : Kind). 0 < z.dest) (with_kind xs k) → Each (λ (z : Kind). 0 < z.dest) (cond b (record x { first = min x.first k.first } ∷ xs) (x ∷ with_kind xs k))
    go true r = (h.0, h.1)
    go false r = (h.0, r)

kinds_later : (step : ℕ) (ks : List Kind) (cs : List Container) → Each (λ (z : Kind). 0 < z.dest) ks → ((i : ℕ) (d : Container) → i < length cs → 0 < (slice_index_or cs i d).dest) → Each (λ (z : Kind). 0 < z.dest) (kinds_after step ks cs)
kinds_later step ks [] h k = h
kinds_later step ks (c ∷ cs) h k = kinds_later step (with_kind ks (kind_of step c)) cs (with_kind_later ks (kind_of step c) h (k 0 c (omega arith))) (λ i d l. k (suc i) d (omega arith))

number_past : (ks : List Kind) (k : Kind) → Each (λ (z : Kind). 0 < z.dest) ks → k.dest ≡ 0 → number_in ks k ≡ length ks
number_past [] k h e = refl
number_past (x ∷ xs) k h e =
    let other : (x.dest == k.dest) ≡ false = ne_eqb x.dest k.dest (λ q. omega (arith, h.0, q, e)) in
    let apart : alike x k ≡ false = rw other refl in
    rw apart (ap suc (number_past xs k h.1 e))

-- what isn't a container is of no kind
pub no_kind_past : (step : ℕ) (cargo : Cargo) (c : ℕ) → IsCargo cargo → length cargo.containers ≤ c → kind_number step cargo.containers (slice_index_or cargo.containers c no_container) ≡ length (kinds_of step cargo.containers)
no_kind_past step cargo c rules l =
    ap (kind_number step cargo.containers) (get_or_past cargo.containers c no_container l)
    ∙ number_past (kinds_of step cargo.containers) (kind_of step no_container)
    (subst (λ (ks : List Kind). Each (λ (z : Kind). 0 < z.dest) ks) (kinds_joined step cargo.containers) (kinds_later step [] cargo.containers tt (λ i d k. let r = rules.each_shipped i d k in omega (arith, r.later))))
    refl

get_map : {X Y : Type 0} (f : X → Y) (xs : List X) (k : ℕ) (d : X) (y : Y) → k < length xs → slice_get (map f xs) k ≡ Some y → f (slice_index_or xs k d) ≡ y
get_map f [] k d y l h = absurd (omega arith)
get_map f (x ∷ xs) zero d y l h = same_Some (f x) y h
get_map f (x ∷ xs) (suc k) d y l h = get_map f xs k d y (omega arith) h

-- the kind of a container by its number
pub kind_of_number : (step : ℕ) (cs : List Container) (each : List ℕ) (c k : ℕ) → each ≡ map (kind_number step cs) cs → c < length cs → slice_get each c ≡ Some k → kind_number step cs (slice_index_or cs c no_container) ≡ k
kind_of_number step cs each c k e l h = get_map (kind_number step cs) cs c no_container k l (subst (λ (ks : List ℕ). slice_get ks c ≡ Some k) e h)
